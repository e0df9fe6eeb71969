use Rattle.std.proofs.Common.{◌≡◌, ◌⊎◌, ℕ, ◌<◌, length}
use Rattle.std.specs.Prelude.{Some, slice_index}
use Rattle.std.specs.Map.{lookup}
use Rattle.flash_disk.specs.declared.table.FilePage.{FilePage}
use Rattle.flash_disk.specs.declared.table.Newest.{Newest}
use Rattle.flash_disk.specs.Known.{same_page, known}
use Rattle.flash_disk.specs.Apart.{copy_of}
use Rattle.flash_disk.specs.LedApart.{LeadsOnly, IsUnmarked}
use Rattle.flash_disk.proofs.table.Table.mark_foreign.Given as goal

abbrev pub invariant-loop-key : goal.invariant-loop-key
invariant-loop-key l = (length l.foreign ≡ length l.initial.foreign)
    × ((key : FilePage) (entry : Newest) → known l.self key ≡ Some entry
    → (lookup (same_page key) l.key-iterator ≡ Some entry)
    ⊎ ((copy_of key.file ≡ copy_of l.file) ⊎ (entry.place.block < length l.foreign
    → slice_index l.foreign entry.place.block ≡ 1)))
    × ((block : ℕ) → LeadsOnly l.self (copy_of l.file) block → IsUnmarked l.initial.foreign block
    → IsUnmarked l.foreign block)
