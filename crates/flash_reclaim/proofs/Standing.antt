-- An application stands as it stood where every file that is not given up is as it was.
use Rattle.std.proofs.Common.{◌≡◌, ◌⊎◌, ℕ, ◌+◌, ◌<◌, ◌≤◌, cond, sym, ap, subst, ◌∙◌}
use Rattle.std.proofs.Common.{inl, inr, ⊎_elim, arith}
use Rattle.std.proofs.lemmas.Bool.{cases_lt}
use Rattle.disk_model.specs.Frame.{Spares}
use Rattle.disk_model.specs.Image.{Image}
use Rattle.flash_disk.specs.declared.forgetting.FileRange.{FileRange}
use Rattle.flash_disk.specs.Kept.{lies_in}
use Rattle.deploy_laws.specs.Apps.{App, IsCleanApp, IsFree, app_at, says_at}
use Rattle.deploy_laws.specs.Laws.{AppFrameLaw, VersionsLaw}
use Rattle.deploy_laws.specs.Places.{storage_file, IsFileOf, IsOutsideBank}
use Rattle.flash_reclaim.specs.Naming.{IsFreeBank, IsFileGivenUp}
use Rattle.flash_reclaim.specs.Reclaiming.{AppsStand}
use Rattle.flash_reclaim.proofs.Ranges.{decided, has_file, lacks_file, says_is}

-- what writes in a bank in which no version is leaves the application as it was
abbrev pub FreeBankLaw : Type 0
FreeBankLaw = (app bank : ℕ) (old new : Image) → app < 8 → bank ≤ 1 → IsFree bank (says_at old app)
    → Spares (IsOutsideBank app bank) old new
    → (app_at new app ≡ app_at old app) × (IsCleanApp app old → IsCleanApp app new)

abbrev AppStands : (app : ℕ) (old new : Image) → Type 0
AppStands app old new = (app_at new app ≡ app_at old app) × (IsCleanApp app old → IsCleanApp app new)

abbrev bank_range : (app bank : ℕ) → FileRange
bank_range app bank = record { first = storage_file app bank 0; end = storage_file app bank 0 + 512 }

-- an image with the files of a bank from another one
abbrev over : (app bank : ℕ) → (base new : Image) → Image
over app bank base new file = cond (lies_in file (bank_range app bank)) (new file) (base file)

module _ (app bank : ℕ) (base new : Image) where
  outside : (file : ℕ) → IsOutsideBank app bank file → over app bank base new file ≡ base file
  outside file out = ap (λ b. cond b (new file) (base file)) (lacks_file file (bank_range app bank) out)

  inside : (file : ℕ) → storage_file app bank 0 ≤ file → file < storage_file app bank 0 + 512
      → over app bank base new file ≡ new file
  inside file from below = ap (λ b. cond b (new file) (base file)) (has_file file (bank_range app bank) from below)

  -- the bank is free, or its files are the same
  step : AppFrameLaw → FreeBankLaw → app < 8 → bank ≤ 1
      → (IsFree bank (says_at base app)) ⊎ ((file : ℕ) → storage_file app bank 0 ≤ file
      → file < storage_file app bank 0 + 512 → new file ≡ base file)
      → AppStands app base (over app bank base new)
  step frame law within few free = ⊎_elim
      (λ none. law app bank base (over app bank base new) within few none outside)
      (λ same. frame app base (over app bank base new) within (λ file of. ⊎_elim
      (λ less. outside file (inl less))
      (λ from. ⊎_elim (λ below. inside file from below ∙ same file from below) (λ past. outside file (inr past))
      (cases_lt file (storage_file app bank 0 + 512)))
      (cases_lt file (storage_file app bank 0))))
      free

stands_then : (app : ℕ) (a b c : Image) → AppStands app a b → AppStands app b c → AppStands app a c
stands_then app a b c first second = (second.0 ∙ first.0, λ clean. second.1 (first.1 clean))

module _ (frame : AppFrameLaw) (law : FreeBankLaw) (of : VersionsLaw) (old new : Image)
    (spared : (file : ℕ) → file < 4294967295 → (IsFileGivenUp old file → ⊥) → new file ≡ old file)
    (app : ℕ) (within : app < 8) where
  -- a file in a bank is given up only where that bank is free
  free_at : (bank file : ℕ) → bank ≤ 1 → storage_file app bank 0 ≤ file → file < storage_file app bank 0 + 512
      → IsFileGivenUp old file → IsFreeBank old app bank
  free_at bank file few from below up =
      let up_from = up.from in
      let up_below = up.below in
      let up_few = up.bank_within in
      let app_is : up.app ≡ app = omega (arith, up_from, up_below, up_few, from, below, few) in
      let bank_is : up.bank ≡ bank = omega (arith, up_from, up_below, up_few, from, below, few, app_is) in
      subst (λ a. IsFreeBank old a bank) app_is (subst (λ b. IsFreeBank old up.app b) bank_is up.free)

  -- a bank is free, or its files are as they were
  choose : (bank : ℕ) → bank ≤ 1 → (IsFree bank (says_at old app)) ⊎ ((file : ℕ) → storage_file app bank 0 ≤ file
      → file < storage_file app bank 0 + 512 → new file ≡ old file)
  choose bank few = ⊎_elim
      (λ yes. inl yes.0.free)
      (λ no. inr (λ file from below. spared file (omega (arith, below, within, few))
      (λ up. no.0 (free_at bank file few from below up))))
      (decided old (of old) app bank few)

  first : Image
  first = over app 0 old new

  second : Image
  second = over app 1 (over app 0 old new) new

  at_first : AppStands app old (over app 0 old new)
  at_first = step app 0 old new frame law within (omega arith) (choose 0 (omega arith))

  says_first : says_at old app ≡ says_at (over app 0 old new) app
  says_first = sym (says_is old app) ∙ (ap (λ (a : App). a.says) (sym at_first.0) ∙ says_is (over app 0 old new) app)

  at_second : AppStands app (over app 0 old new) (over app 1 (over app 0 old new) new)
  at_second = step app 1 (over app 0 old new) new frame law within (omega arith) (⊎_elim
      (λ free. inl (subst (IsFree 1) says_first free))
      (λ same. inr (λ file from below. same file from below
      ∙ sym (outside app 0 old new file (inr (omega (arith, from))))))
      (choose 1 (omega arith)))

  at_last : AppStands app (over app 1 (over app 0 old new) new) new
  at_last = frame app (over app 1 (over app 0 old new) new) new within (λ file of. sym (⊎_elim
      (λ less. outside app 1 (over app 0 old new) new file (inl less) ∙ ⊎_elim
      (λ low. outside app 0 old new file (inl low) ∙ sym (beside file of (inl low)))
      (λ high. inside app 0 old new file high (omega (arith, less)))
      (cases_lt file (storage_file app 0 0)))
      (λ from. ⊎_elim
      (λ below. inside app 1 (over app 0 old new) new file from below)
      (λ past. outside app 1 (over app 0 old new) new file (inr past)
      ∙ (outside app 0 old new file (inr (omega (arith, past))) ∙ sym (beside file of (inr past))))
      (cases_lt file (storage_file app 1 0 + 512)))
      (cases_lt file (storage_file app 1 0))))
    where
      -- a file of the application that is in no bank is as it was
      beside : (file : ℕ) → IsFileOf app file
          → (file < storage_file app 0 0) ⊎ (storage_file app 1 0 + 512 ≤ file) → new file ≡ old file
      beside file mine out =
          let low = mine.0 in
          let high = mine.1 in
          spared file (omega (arith, high, within)) (λ up. (let from = up.from in
          let below = up.below in
          let few = up.bank_within in ⊎_elim
          (λ before. omega (arith, before, from, below, few, low, high))
          (λ after. omega (arith, after, from, below, few, low, high))
          out))

  pub app_stands : AppStands app old new
  app_stands = stands_then app old (over app 1 (over app 0 old new) new) new
      (stands_then app old (over app 0 old new) (over app 1 (over app 0 old new) new) at_first at_second) at_last

pub apps_stand : AppFrameLaw → FreeBankLaw → VersionsLaw → (old new : Image)
    → ((file : ℕ) → file < 4294967295 → (IsFileGivenUp old file → ⊥) → new file ≡ old file) → AppsStand old new
unfolding AppsStand
apps_stand frame law of old new spared app within = app_stands frame law of old new spared app within
