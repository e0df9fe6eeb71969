use Rattle.std.proofs.Common.{◌≡◌, ◌⊎◌, ℕ, ◌≤◌, ◌+◌, length}
use Rattle.std.specs.Prelude.{max, Some}
use Rattle.std.specs.HashMap.{get, hash_map_len, spare}
use Rattle.std.specs.Map.{lookup}
use Rattle.flash_disk.specs.declared.table.FilePage.{FilePage}
use Rattle.flash_disk.specs.declared.table.Newest.{Newest}
use Rattle.flash_disk.specs.Known.{same_page, len_in, HasLenIn}
use Rattle.flash_disk.proofs.Lengths.{longest}
use Rattle.flash_disk.proofs.table.raise_all.Given as goal

abbrev pub invariant-loop-key : goal.invariant-loop-key
invariant-loop-key l = (spare l.initial.lens + length l.key-iterator ≤ spare l.lens + hash_map_len l.newest)
    × (hash_map_len l.newest ≤ spare l.initial.lens
    → (f : ℕ) → max (len_in l.lens f) (longest f l.key-iterator)
    ≡ max (len_in l.initial.lens f) (longest f l.newest.entries))
    × (hash_map_len l.newest ≤ spare l.initial.lens → (key : FilePage) (entry : Newest)
    → get same_page l.newest key ≡ Some entry
    → (lookup (same_page key) l.key-iterator ≡ Some entry) ⊎ HasLenIn l.lens key.file)
