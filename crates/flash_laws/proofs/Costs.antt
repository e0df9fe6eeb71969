-- What the cost of one copy is to the files of a place, and so to what was synchronised.
use Rattle.std.proofs.Common.{◌≡◌, ◌≢◌, ℕ, ◌+◌, ◌*◌, ◌%◌, ◌<◌, sym, ◌∙◌, inl, inr, ⊎_elim, arith}
use Rattle.disk_model.specs.Place.{area}
use Rattle.disk_model.specs.declared.place.Place.{Place}
use Rattle.flash_model.specs.Pages.{Pages}
use Rattle.flash_model.specs.FlashMedium.{FlashMedium}
use Rattle.flash_disk.specs.Apart.{copy_of, CostsOneCopy, IsApart, LosesPages, StandApart}
use Rattle.flash_disk.specs.FlashFiles.{flash_files}
use Rattle.flash_disk.specs.KeepsApart.{ApartSince, StandsOrLacked}
use Rattle.flash_disk.specs.Newest.{places}
use Rattle.flash_disk.specs.Standing.{IsAgreed}
use Rattle.flash_disk.specs.Throughout.{AgreedSince}
use Rattle.flash_laws.specs.Outvotes.{IsPlaced, SparesOtherCopies, Outvotes, OutlastsLoss, OutlastsSince}
use Rattle.flash_laws.proofs.Contents.{content_outvoted, content_stands}
use Rattle.flash_laws.proofs.Outvoted.{outvoted, outvoted_only, stands_alone, stands_still}

-- which copy the files of a copy of a place are of
files_of : (first copy k : ℕ) → first % 32 ≡ 0 → copy < 8 → k < 4 → copy_of (first + 4 * copy + k) ≡ copy
files_of first copy k at few inside = omega (arith, at, few, inside)

module _ (old new : Pages) (blocks lost : ℕ) (cost : CostsOneCopy lost blocks old new) where
  spares : SparesOtherCopies lost (flash_files old blocks) (flash_files new blocks)
  spares place copy k placed inside other small =
      let most = placed.copies in
      let is : copy_of (place.first + 4 * copy + k) ≡ copy =
      files_of place.first copy k placed.first (omega (arith, inside, most)) small in
      cost (place.first + 4 * copy + k) (λ same. other (sym is ∙ same))

  module _ (place : Place) (placed : IsPlaced place) where
    files : (copy k : ℕ) → copy < place.copies → copy ≢ lost → k < 4
        → flash_files new blocks (place.first + 4 * copy + k) ≡ flash_files old blocks (place.first + 4 * copy + k)
    files copy k inside other small = spares place copy k placed inside other small

    areas : (copy : ℕ) → copy < place.copies → copy ≢ lost
        → flash_files new blocks (area place copy) ≡ flash_files old blocks (area place copy)
    areas copy inside other = spares place copy 2 placed inside other (omega arith)

  pub outvotes : Outvotes (flash_files old blocks) (flash_files new blocks)
  outvotes = record {
    lost = lost;
    spares = spares;
    text = λ m generation text place placed two few alone. outvoted (flash_files old blocks) (flash_files new blocks)
        place lost generation text (files place placed) alone m two few;
    only = λ m generation g text t place placed two alone held. outvoted_only (flash_files old blocks)
        (flash_files new blocks) place lost generation text (files place placed) alone m two g t held;
    content = λ m len at hash content place placed two few all. content_outvoted (flash_files old blocks)
        (flash_files new blocks) place lost len at hash content (areas place placed) all m two few;
    text_of_one = λ generation text place placed few alone least. stands_still (flash_files old blocks)
        (flash_files new blocks) place lost generation text (files place placed) alone 1 (omega arith) few least;
    only_of_one = λ generation g text t place placed few alone below stands. stands_alone (flash_files old blocks)
        (flash_files new blocks) place lost generation text (files place placed) alone g t few below stands;
    content_of_one = λ len at hash content place placed few all alike. content_stands (flash_files old blocks)
        (flash_files new blocks) place lost len at hash content (areas place placed) all 1 (omega arith) few alike;
  }

-- where the copies stood apart since a moment, the loss of pages of one block since then is outvoted
module _ (m : FlashMedium) (t : ℕ)
    (law : (old new : Pages) (blocks block : ℕ) → IsAgreed old (places blocks) → IsApart old blocks
    → LosesPages block old new → Outvotes (flash_files old blocks) (flash_files new blocks))
    (are : (pages : Pages) (blocks : ℕ) → StandApart pages blocks → IsApart pages blocks) (agreed : AgreedSince m t)
    (apart : ApartSince m t) where
  loss : (pages : Pages) → IsAgreed pages (places m.blocks) → StandsOrLacked m t pages → OutlastsLoss m t pages
  loss pages agrees stands block new loses = ⊎_elim
      (λ stand. inl (law pages new m.blocks block agrees (are pages m.blocks stand) loses))
      (λ lacked. inr lacked)
      stands

  pub outlasts : OutlastsSince m t
  outlasts = record {
    now = loss m.state.pages agreed.now apart.now;
    during = λ c past plain. loss c.left (agreed.during c past plain) (apart.during c past plain);
  }
