-- What comes of a flash whose room is reclaimed: each application stands as it stood, at each moment.
use Rattle.std.specs.Prelude.{◌≡◌, ◌⊎◌, ℕ, ◌<◌, ◌≤◌, [], Bool, true, IsFalse, IsTrue}
use Rattle.per_base.specs.Causes.{Rose}
use Rattle.disk_model.specs.Image.{Image}
use Rattle.flash_model.specs.Pages.{IsPlain}
use Rattle.flash_model.specs.State.{FlashCase}
use Rattle.flash_model.specs.FlashMedium.{FlashMedium}
use Rattle.flash_disk.specs.declared.disk.FlashOpenError.{FlashOpenError}
use Rattle.flash_disk.specs.declared.disk.FlashOpenError.TheVariants.{WrongSize, Unusable, Device}
use Rattle.flash_disk.specs.Apart.{StandApart}
use Rattle.flash_disk.specs.FlashFiles.{flash_files}
use Rattle.flash_disk.specs.Forgetting.{MayGiveNothing}
use Rattle.flash_disk.specs.KeepsApart.{StandsOrLacked}
use Rattle.flash_disk.specs.Newest.{IsUnusable, places}
use Rattle.flash_disk.specs.Sound.{files_on}
use Rattle.flash_disk.specs.Standing.{IsAgreed}
use Rattle.flash_disk.specs.Throughout.{UsableSince}
use Rattle.deploy_laws.specs.Apps.{IsCleanApp, app_at}
use Rattle.flash_reclaim.specs.Naming.{IsFileGivenUp}

-- every application is what it was, and its places are clean where they were: no two texts of one generation are held
-- on them, and no two contents under one entry
unfoldable pub AppsStand : (old new : Image) → Type 0
AppsStand old new = (app : ℕ) → app < 8
    → (app_at new app ≡ app_at old app) × (IsCleanApp app old → IsCleanApp app new)

-- every application is what it was now, and after a crash at any moment since the flash was handed in, if no page
-- passes its hash by chance
pub record AppsStandSince (old new : FlashMedium) : Type 0 where
  pub now : AppsStand (files_on old) (files_on new)
  pub during : (c : FlashCase) → new.since old.moment c → IsPlain c.before c.whole c.left
      → AppsStand (files_on old) (flash_files c.left new.blocks)

-- the files that are given up are empty, and every other is as it was
pub record IsReclaimed (old new : Image) : Type 0 where
  pub given_up : (file : ℕ) → IsFileGivenUp old file → new file ≡ []
  pub kept : (file : ℕ) → file < 4294967295 → ¬ (IsFileGivenUp old file) → new file ≡ old file

-- there are rivals, which are newest records of one page that differ, or each block but one is needed for files that
-- are not given up
abbrev pub MayTakeNothing : (old : Image) → (new : FlashMedium) → Type 0
MayTakeNothing old new = (kept : ℕ → Bool) × ((file : ℕ) → kept file ≡ true → ¬ (IsFileGivenUp old file))
    × MayGiveNothing kept new

-- A flash whose room was reclaimed, in whole or not at all, and how many writes the disk counted that failed though the
-- flash did not (`own`), while roots were read.
pub record Reclaims (old new : FlashMedium) (whole : Bool) (own : ℕ) : Type 0 where
  -- each application stands as before, also after a crash at any moment
  pub stands : AppsStandSince old new
  -- the files that no root names are empty, and all others are as they were; or all are
  pub files : IsTrue whole → IsReclaimed (files_on old) (files_on new)
  pub nothing : IsFalse whole → files_on new ≡ files_on old
  -- not at all only where nothing may be, or that count is not 0
  pub due : IsFalse whole → MayTakeNothing (files_on old) new ⊎ (0 < own)
  pub own_faults : 0 < own → IsFalse whole
  -- it can be opened at every moment; no rivals came, and from 16 blocks on copies stand apart where they did and what
  -- was written had room
  pub opens : UsableSince new old.moment
  pub agreed : IsAgreed old.state.pages (places old.blocks) → IsAgreed new.state.pages (places new.blocks)
  pub apart : 16 ≤ old.blocks → StandApart old.state.pages old.blocks
      → StandsOrLacked new old.moment new.state.pages
  -- no call of it failed
  pub faults : IsTrue whole → new.faults ≡ old.faults

-- A flash that is handed back: each application stands as before, and why it was refused. A disk has 4 to 4096 blocks.
pub record IsFlashRefused (old back : FlashMedium) (error : FlashOpenError) : Type 0 where
  pub stands : AppsStandSince old back
  pub wrong_size : error ≡ WrongSize → (old.blocks < 4) ⊎ (4096 < old.blocks)
  pub unusable : error ≡ Unusable → IsUnusable old.state.pages old.blocks
  pub device : error ≡ Device → Rose old.faults back.faults

-- a flash that is modelled was reclaimed so
unfoldable pub ReclaimsTold : (told : Bool) → (old new : FlashMedium) → (whole : Bool) → (own : ℕ) → Type 0
ReclaimsTold told old new whole own = IsTrue told → Reclaims old new whole own

-- a flash that is modelled was handed back so
unfoldable pub HandsBackTold : (told : Bool) → (old back : FlashMedium) → FlashOpenError → Type 0
HandsBackTold told old back error = IsTrue told → IsFlashRefused old back error
