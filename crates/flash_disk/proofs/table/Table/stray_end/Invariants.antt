use Rattle.std.proofs.Common.{◌≡◌, ◌⊎◌}
use Rattle.std.specs.Prelude.{Some}
use Rattle.std.specs.Map.{lookup}
use Rattle.flash_disk.specs.declared.table.FilePage.{FilePage}
use Rattle.flash_disk.specs.declared.table.Newest.{Newest}
use Rattle.flash_disk.specs.Known.{same_page, known, IsFilledUpTo}
use Rattle.flash_disk.proofs.table.Table.stray_end.Given as goal

abbrev pub invariant-loop-key : goal.invariant-loop-key
invariant-loop-key l = (key : FilePage) (entry : Newest) → known l.self key ≡ Some entry
    → (lookup (same_page key) l.key-iterator ≡ Some entry) ⊎ IsFilledUpTo l.self.lens key entry l.stray
