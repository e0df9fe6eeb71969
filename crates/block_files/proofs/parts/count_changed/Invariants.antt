use Rattle.std.proofs.Common.{◌≡◌}
use Rattle.block_files.specs.Parts.{changed_below}
use Rattle.block_files.proofs.parts.count_changed.Given as goal

abbrev pub invariant-loop-i : goal.invariant-loop-i
invariant-loop-i l = l.count ≡ changed_below l.bytes l.was l.i
