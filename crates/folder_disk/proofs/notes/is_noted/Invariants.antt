use Rattle.std.proofs.Common.{ℕ, take}
use Rattle.folder_disk.specs.Knows.{Covered}
use Rattle.folder_disk.proofs.notes.is_noted.Given as goal

abbrev pub invariant-loop-range : goal.invariant-loop-range
invariant-loop-range l = (i : ℕ) → Covered (take l.range-index l.ranges) l.file i → ⊥
