use Rattle.std.proofs.Common.{take}
use Rattle.block_files.specs.BlockSets.{IsAdded}
use Rattle.element_store.proofs.taking.take.Given as goal

abbrev pub invariant-loop-block : goal.invariant-loop-block
invariant-loop-block l = IsAdded (take l.block-index l.blocks) l.fn.taken l.taken
