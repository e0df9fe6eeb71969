use Rattle.std.proofs.Common.{◌≡◌, ℕ, ◌+◌, ◌<◌, ◌≤◌, get_or}
use Rattle.flash_disk.proofs.serving.copy_part.Given as goal

abbrev pub invariant-loop-i : goal.invariant-loop-i
invariant-loop-i l = ((j : ℕ) → j < l.i → get_or l.out (l.to + j) 0 ≡ get_or l.page (l.from + j) 0)
    × ((k : ℕ) → k < l.to → get_or l.out k 0 ≡ get_or l.initial.out k 0)
    × ((k : ℕ) → l.to + l.count ≤ k → get_or l.out k 0 ≡ get_or l.initial.out k 0)
