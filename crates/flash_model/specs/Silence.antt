-- A flash that models nothing: no page and no case, so that only its count of faults says anything.
use Rattle.std.specs.Prelude.{ℕ, [], false}
use Rattle.std.proofs.Common.{sym, true≢false}
use Rattle.flash_model.specs.FlashMedium.{FlashMedium, IsLawfulFlash}

-- the flash of this many blocks that models nothing, with this count of faults
abbrev pub silent_flash : (blocks faults : ℕ) → FlashMedium
silent_flash blocks faults = record {
  blocks = blocks;
  state = record { pages = λ b p. []; settled = λ b p. []; announced = [] };
  moment = 0;
  since = λ t c. ⊥;
  faults = faults;
}

-- it meets the model, since nothing is said of a flash whose type models nothing (`told` is false)
pub silent_is_lawful : (blocks faults : ℕ) → IsLawfulFlash false (silent_flash blocks faults)
silent_is_lawful blocks faults = record {
  counts_now = λ told t c le still. absurd (true≢false (sym told));
  only_now =
      λ c past. absurd past;
}
