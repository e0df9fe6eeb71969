use Rattle.std.proofs.Common.{take}
use Rattle.std.specs.Prelude.{replicate, false}
use Rattle.block_files.specs.BlockSets.{IsAdded}
use Rattle.index_text.specs.Rules.{blocks_of}
use Rattle.element_store.proofs.taking.blocks_taken_by.Given as goal

abbrev pub invariant-loop-entry : goal.invariant-loop-entry
invariant-loop-entry l = IsAdded (blocks_of (take l.entry-index l.entries)) (replicate l.capacity false) l.taken
