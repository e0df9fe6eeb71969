-- How time goes on in the calls of a disk: as for its flash, which stays usable and agreed, and keeps the copies apart.
use Rattle.std.proofs.Common.{◌≡◌, ◌⊎◌, ℕ, ◌+◌, ◌≤◌, Bool, List, le_refl, ap, ◌∙◌, ⊎_elim}
use Rattle.std.specs.Prelude.{IsTrue}
use Rattle.disk_model.specs.Medium.{Elapses}
use Rattle.flash_model.specs.State.{IsStill}
use Rattle.flash_model.specs.FlashMedium.{FlashMedium, FlashElapses, EachFlashCase}
use Rattle.flash_disk.specs.declared.layer.LayerState.{LayerState}
use Rattle.flash_disk.specs.FlashDiskMedium.{flash_disk_medium}
use Rattle.flash_disk.specs.Sound.{IsDescribedBy}
use Rattle.flash_disk.specs.Writes.{WritesInto}
use Rattle.flash_disk.specs.Apart.{copy_of}
use Rattle.flash_disk.specs.KeepsApart.{KeepsApart}
use Rattle.flash_disk.proofs.DiskCases.{disk_elapses}
use Rattle.flash_disk.proofs.Throughout.{holds_usable, look_usable, settle_usable, write_usable, look_agreed}
use Rattle.flash_disk.proofs.Throughout.{settle_agreed, write_agreed}
use Rattle.flash_disk.proofs.Holding.{keeps_since, apart_since}

module _ (told : Bool) (a b : FlashMedium) (own own' written : ℕ) (s : LayerState)
    (described : IsTrue told → IsDescribedBy a s) (time : IsTrue told → FlashElapses a b)
    (faults : a.faults + own ≤ b.faults + own') where
  -- calls that only look
  pub look_time : (IsTrue told → b.state ≡ a.state) → (IsTrue told → EachFlashCase (IsStill a.state) a b)
      → Elapses (flash_disk_medium told a own written) (flash_disk_medium told b own' written)
  look_time same looks = disk_elapses told a b own own' written written time faults (le_refl _)
      (λ t. look_usable a b (time t) (holds_usable a s (described t)) (same t) (looks t))
      (λ t. look_agreed a b (same t) (looks t))
      (λ tells t le was. keeps_since a b (time tells) t le was (record {
        now = ap (λ s. s.pages) (same tells);
        during = λ c past. (looks tells c past).left;
      }))

  -- calls that change no page
  pub settle_time : (IsTrue told → b.state.pages ≡ a.state.pages)
      → EachFlashCase (λ c. IsStill a.state c ⊎ IsStill b.state c) a b
      → Elapses (flash_disk_medium told a own written) (flash_disk_medium told b own' written)
  settle_time pages cases = disk_elapses told a b own own' written written time faults (le_refl _)
      (λ t. settle_usable a b (time t) (holds_usable a s (described t)) (pages t) cases)
      (λ t. settle_agreed a b (pages t) cases)
      (λ tells t le was. keeps_since a b (time tells) t le was (record {
        now = pages tells;
        during = λ c past. ⊎_elim (λ still. still.left) (λ still. still.left ∙ pages tells) (cases c past);
      }))

  -- a write
  pub write_time : (written' file at : ℕ) (bytes : List ℕ) → written ≤ written'
      → (IsTrue told → WritesInto file at bytes a b) → (IsTrue told → KeepsApart (copy_of file) a b)
      → Elapses (flash_disk_medium told a own written) (flash_disk_medium told b own' written')
  write_time written' file at bytes more writes apart = disk_elapses told a b own own' written written' time faults more
      (λ t. write_usable a b (time t) (holds_usable a s (described t)) file at bytes (writes t))
      (λ t. write_agreed a b file at bytes (writes t))
      (λ tells t le was. apart_since a b (time tells) t le was file at bytes (writes tells) (apart tells))
