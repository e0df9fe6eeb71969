use Rattle.std.proofs.Common.{◌≡◌, drop}
use Rattle.block_files.specs.Areas.{is_within}
use Rattle.block_files.proofs.reading.is_inside.Given as goal

abbrev pub invariant-loop-number : goal.invariant-loop-number
invariant-loop-number l = is_within l.size (drop l.number-index l.blocks) l.left ≡ is_within l.size l.blocks l.len
