use Rattle.block_files.proofs.FreeBlocks.{IsChoosing}
use Rattle.block_files.proofs.choosing.choose.Given as goal

abbrev pub invariant-loop-block : goal.invariant-loop-block
invariant-loop-block l = IsChoosing l.used l.count l.block l.blocks.items
