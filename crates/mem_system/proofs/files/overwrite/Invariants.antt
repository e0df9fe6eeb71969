use Rattle.std.proofs.Common.{◌≡◌, ◌⊎◌, ℕ, ◌<◌, ◌≤◌, ◌+◌, get_or, length}
use Rattle.mem_system.proofs.files.overwrite.Given as goal

abbrev pub invariant-loop-j : goal.invariant-loop-j
invariant-loop-j l =
    (length l.file.items ≡ length l.initial.file.items)
    × ((k : ℕ) → k < l.j → get_or l.file.items (l.at + k) 0 ≡ get_or l.bytes k 0)
    × ((i : ℕ) → (i < l.at) ⊎ (l.at + l.j ≤ i) → get_or l.file.items i 0 ≡ get_or l.initial.file.items i 0)
