use Rattle.std.proofs.Common.{◌≡◌, ℕ, ◌<◌, ◌≤◌}
use Rattle.std.specs.Prelude.{IfSome, None}
use Rattle.flash_disk.specs.LedApart.{IsPair, HasNoPair}
use Rattle.flash_disk.proofs.joining.find_pair.Given as goal

abbrev pub invariant-loop-copy : goal.invariant-loop-copy
invariant-loop-copy l = (IfSome l.best (λ pair. IsPair l.table l.spare pair.0 pair.1))
    × (l.table.blocks ≤ 4096 → l.best ≡ None → (copy : ℕ) → copy < l.copy → HasNoPair l.table l.spare copy)
