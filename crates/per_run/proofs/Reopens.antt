-- What a stop leaves of a flash since it was handed in, from what its opening says and how time went on for its disk.
use Rattle.std.proofs.Common.{◌≡◌, ◌≤◌, ℕ, refl, sym, ap, subst, ◌∙◌, ⊎_elim, inl, inr, arith}
use Rattle.std.specs.Prelude.{Bool, IsTrue}
use Rattle.disk_model.specs.Case.{Case}
use Rattle.disk_model.specs.Medium.{Elapses}
use Rattle.flash_model.specs.FlashMedium.{FlashMedium}
use Rattle.flash_model.specs.Pages.{IsPlain, Pages}
use Rattle.flash_model.specs.State.{FlashCase, settle_pages}
use Rattle.flash_disk.specs.Apart.{StandApart}
use Rattle.flash_disk.specs.FlashDiskLaws.{told_files, told_moment}
use Rattle.flash_disk.specs.FlashDiskMedium.{disk_case, disk_seen}
use Rattle.flash_disk.specs.FlashFiles.{flash_files}
use Rattle.flash_disk.specs.FlashView.{FlashView}
use Rattle.flash_disk.specs.KeepsApart.{ApartSince, StandsOrLacked}
use Rattle.flash_disk.specs.Looks.{OpensFlash}
use Rattle.flash_disk.specs.Newest.{IsUnusable, IsUsable, places}
use Rattle.flash_disk.specs.Standing.{IsAgreed}
use Rattle.flash_disk.specs.Throughout.{AgreedSince, KeepsAgreed, KeepsUsable, UsableSince}
use Rattle.flash_laws.specs.Outvotes.{OutlastsSince}
use Rattle.loss_laws.specs.Since.{ReadOnSince}
use Rattle.per_run.specs.Flashes.{IsWrongSize, LeavesFiles, OpensAgain}

-- what stays usable in a stretch of calls is so since its beginning
usable_since : (old new : FlashMedium) → 4 ≤ old.blocks → old.blocks ≤ 4096 → KeepsUsable old new
    → UsableSince new old.moment
usable_since old new many few keeps = record {
  many = subst (λ (b : ℕ). 4 ≤ b) (sym keeps.blocks) many;
  few = subst (λ (b : ℕ). b ≤ 4096) (sym keeps.blocks) few;
  now = subst (λ (b : ℕ). IsUsable new.state.pages b) (sym keeps.blocks) keeps.now;
  during = λ c past plain. subst (λ (b : ℕ). IsUsable c.left b) (sym keeps.blocks) (keeps.during c past plain);
}

agreed_since : (old new : FlashMedium) → new.blocks ≡ old.blocks → KeepsAgreed old new
    → IsAgreed old.state.pages (places old.blocks) → AgreedSince new old.moment
agreed_since old new blocks keeps agreed = record {
  now = subst (λ (b : ℕ). IsAgreed new.state.pages (places b)) (sym blocks) (keeps.now agreed);
  during = λ c past plain. subst (λ (b : ℕ). IsAgreed c.left (places b)) (sym blocks)
      (keeps.during c past plain agreed);
}

-- where no page changes, copies that stood apart do so
apart_since : (old new : FlashMedium) → new.blocks ≡ old.blocks → new.state.pages ≡ old.state.pages
    → ((c : FlashCase) → new.since old.moment c → c.left ≡ old.state.pages)
    → 16 ≤ old.blocks → StandApart old.state.pages old.blocks → ApartSince new old.moment
apart_since old new blocks pages cases many stand = record {
  many = subst (λ (b : ℕ). 16 ≤ b) (sym blocks) many;
  now = stands new.state.pages pages;
  during = λ c past plain. stands c.left (cases c past);
}
  where
    stands : (p : Pages) → p ≡ old.state.pages → StandsOrLacked new old.moment p
    stands p same = inl (subst (λ (b : ℕ). StandApart p b) (sym blocks)
        (subst (λ (q : Pages). StandApart q old.blocks) (sym same) stand))

-- a flash that is usable is refused neither for its size nor for what its pages hold
right_size : (m : FlashMedium) (t : ℕ) → UsableSince m t → IsWrongSize m.blocks → ⊥
right_size m t since wrong =
    let many = since.many in
    let few = since.few in
    ⊎_elim (λ less. omega (arith, less, many)) (λ more. omega (arith, more, few)) wrong

not_unusable : (pages : Pages) (blocks : ℕ) → IsUsable pages blocks → IsUnusable pages blocks → ⊥
not_unusable pages blocks usable unusable =
    let fits = usable.fits in
    ⊎_elim (λ more. omega (arith, more, fits)) (λ none. none usable.block usable.within usable.spare) unusable

-- the files of a disk that was just opened
pub opened_files : {F : Type 0} (told : Bool) (medium : F → FlashMedium) (flash : F) (opened : FlashView F)
    → (medium opened.flash).blocks ≡ (medium flash).blocks
    → (IsTrue told → (medium opened.flash).state ≡ settle_pages (medium flash).state)
    → IsTrue told → (disk_seen told medium opened).image ≡ flash_files (medium flash).state.pages (medium flash).blocks
opened_files told medium flash opened blocks state tells =
    told_files told (medium opened.flash) tells ∙ (ap (λ (p : Pages). flash_files p (medium opened.flash).blocks)
    (ap (λ s. s.pages) (state tells))
    ∙ ap (λ (b : ℕ). flash_files (medium flash).state.pages b) blocks)

module _ {F : Type 0} (told : Bool) (medium : F → FlashMedium) (flash : F) (opened disk : FlashView F)
    (tells : IsTrue told)
    (blocks : (medium opened.flash).blocks ≡ (medium flash).blocks)
    (meanwhile : OpensFlash told (medium flash) (medium opened.flash))
    (time : Elapses (disk_seen told medium opened) (disk_seen told medium disk)) where
  earlier : (medium flash).moment ≤ (disk_seen told medium opened).moment
  earlier = subst (λ (m : ℕ). (medium flash).moment ≤ m) (sym (told_moment told (medium opened.flash).moment tells))
      (meanwhile.time tells).later

  -- a crash during the opening leaves the pages of the flash
  left_then : (f : FlashCase) → (medium opened.flash).since (medium flash).moment f
      → f.left ≡ (medium flash).state.pages
  left_then f past = ⊎_elim (λ still. still.left) (λ settled. settled.left) (meanwhile.during tells f past)

  -- and its files
  files_then : (f : FlashCase) → (medium opened.flash).since (medium flash).moment f
      → flash_files f.left (medium opened.flash).blocks ≡ flash_files (medium flash).state.pages (medium flash).blocks
  files_then f past =
      ap (λ (p : Pages). flash_files p (medium opened.flash).blocks) (left_then f past)
      ∙ ap (λ (b : ℕ). flash_files (medium flash).state.pages b) blocks

  files : (c : FlashCase) → (medium disk.flash).since (medium flash).moment c → IsPlain c.before c.whole c.left
      → LeavesFiles told medium flash opened disk c
  files c past plain = ⊎_elim
      (λ was. inl (ap (λ (d : Case). d.left) was.1.2.1 ∙ files_then was.1.0 was.1.1))
      (λ since. inr since)
      (time.nothing_else (medium flash).moment (disk_case (medium disk.flash).blocks c) earlier
      (tells, (c, past, (plain, refl))))

  agreed_on : KeepsAgreed (medium flash) (medium opened.flash)
      → IsAgreed (medium flash).state.pages (places (medium flash).blocks)
      → AgreedSince (medium disk.flash) (medium flash).moment
  agreed_on keeps agrees = time.agrees (medium flash).moment earlier
      (λ _. agreed_since (medium flash) (medium opened.flash) blocks keeps agrees) tells

  apart_on : (medium opened.flash).state ≡ settle_pages (medium flash).state → 16 ≤ (medium flash).blocks
      → StandApart (medium flash).state.pages (medium flash).blocks
      → ApartSince (medium disk.flash) (medium flash).moment
  apart_on state enough stand = time.apart (medium flash).moment earlier
      (λ _. apart_since (medium flash) (medium opened.flash) blocks (ap (λ s. s.pages) state) left_then enough stand)
      tells

  pub opens_again : 4 ≤ (medium flash).blocks → (medium flash).blocks ≤ 4096
      → KeepsUsable (medium flash) (medium opened.flash) → KeepsAgreed (medium flash) (medium opened.flash)
      → (medium opened.flash).state ≡ settle_pages (medium flash).state
      → ((f : F) (t : ℕ) → AgreedSince (medium f) t → ApartSince (medium f) t → OutlastsSince (medium f) t)
      → ((f : F) (t : ℕ) → OutlastsSince (medium f) t → ReadOnSince (medium f) t)
      → OpensAgain told medium flash opened disk
  opens_again many few usable agreed state outlast read =
      let since : UsableSince (medium disk.flash) (medium flash).moment = time.opens (medium flash).moment earlier
      (λ _. usable_since (medium flash) (medium opened.flash) many few usable) tells in record {
        usable = since;
        right_size = right_size (medium disk.flash) (medium flash).moment since;
        not_unusable = λ c past plain. not_unusable c.left (medium disk.flash).blocks (since.during c past plain);
        agreed = agreed_on agreed;
        apart = apart_on state;
        outlasts = λ agrees enough stand. outlast disk.flash (medium flash).moment (agreed_on agreed agrees)
            (apart_on state enough stand);
        reads_on = λ agrees enough stand. read disk.flash (medium flash).moment
            (outlast disk.flash (medium flash).moment (agreed_on agreed agrees) (apart_on state enough stand));
        files = files;
      }
