use Rattle.std.proofs.Common.{◌≡◌, ℕ, ◌≤◌, ◌<◌}
use Rattle.std.specs.Prelude.{slice_index}
use Rattle.flash_disk.proofs.opening.filled_of.Given as goal

abbrev pub invariant-loop-i : goal.invariant-loop-i
invariant-loop-i l = (l.filled ≤ l.i) × ((j : ℕ) → l.filled ≤ j → j < l.i → slice_index l.bytes j ≡ 0)
