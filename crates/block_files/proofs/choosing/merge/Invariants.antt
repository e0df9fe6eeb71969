use Rattle.block_files.specs.lemmas.Sharing.{IsMerging}
use Rattle.block_files.proofs.choosing.merge.Given as goal

abbrev pub invariant-loop-i : goal.invariant-loop-i
invariant-loop-i l = IsMerging l.bytes l.old_bytes l.old_blocks l.fresh l.i l.next l.blocks.items
