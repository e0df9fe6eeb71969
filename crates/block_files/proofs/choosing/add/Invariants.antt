use Rattle.std.proofs.Common.{take}
use Rattle.block_files.specs.BlockSets.{IsAdded}
use Rattle.block_files.proofs.choosing.add.Given as goal

abbrev pub invariant-loop-block : goal.invariant-loop-block
invariant-loop-block l = IsAdded (take l.block-index l.blocks) l.fn.used l.used
