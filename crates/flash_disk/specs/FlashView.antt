-- What is seen of a disk over a flash, and what is so of each.
use Rattle.std.specs.Prelude.{ℕ, ◌*◌, ◌≤◌, Bool, IsTrue, refl}
use Rattle.std.specs.Coded.{Coded, code_by, coded×, coded_ℕ}
use Rattle.flash_model.specs.FlashMedium.{FlashMedium}
use Rattle.flash_disk.specs.declared.layer.LayerState.{LayerState}
use Rattle.flash_disk.specs.Sound.{IsDescribedBy}

-- the flash, and what the disk counts
pub record FlashView (F : Type 0) : Type 0 where
  pub flash : F
  -- the greatest number that was used for a record
  pub sequence : ℕ
  -- how many writes failed though the flash did not, up to the greatest u64
  pub own : ℕ
  -- how many bytes were written into files
  pub written : ℕ

abbrev pub view_code : {F : Type 0} → Coded F → Coded (FlashView F)
view_code {F} code =
    code_by (F × (ℕ × (ℕ × ℕ))) (coded× code (coded× coded_ℕ (coded× coded_ℕ coded_ℕ)))
    (λ v. (v.flash, (v.sequence, (v.own, v.written))))
    (λ p. record { flash = p.0; sequence = p.1.0; own = p.1.1.0; written = p.1.1.1 }) (λ _. refl)

-- what is known of the flash fits it, and no more bytes were written than records with these numbers hold, 256 each
pub record FitsFlash (told : Bool) (m : FlashMedium) (s : LayerState) (written : ℕ) : Type 0 where
  pub described : IsTrue told → IsDescribedBy m s
  pub counted : written ≤ 256 * s.sequence
