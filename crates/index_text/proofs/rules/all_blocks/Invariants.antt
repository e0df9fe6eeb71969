use Rattle.std.proofs.Common.{◌≡◌, take}
use Rattle.index_text.specs.Rules.{blocks_of}
use Rattle.index_text.proofs.rules.all_blocks.Given as goal

abbrev pub invariant-loop-entry : goal.invariant-loop-entry
invariant-loop-entry l = l.blocks.items ≡ blocks_of (take l.entry-index l.entries)
