-- Which files the roots of a disk leave free, and which are kept. Each of the eight applications has 4096 files, 32768
-- in all, and among them two banks of 512 for the storages of its versions.
use Rattle.std.specs.Prelude.{◌≡◌, ℕ, zero, suc, ◌+◌, ◌*◌, ◌-◌, ◌<◌, ◌≤◌, List, [], ◌∷◌, ◌++◌, Bool, true, false}
use Rattle.std.specs.Prelude.{Some, None, if◌then◌else◌}
use Rattle.disk_model.specs.Image.{Image}
use Rattle.flash_disk.specs.declared.forgetting.FileRange.{FileRange}
use Rattle.deploy_laws.specs.Apps.{IsFree, app_at, nothing, root_sole, says_at}
use Rattle.deploy_laws.specs.Places.{first_file, storage_file}
use Rattle.deploy.specs.Views.{RootSeen, bad, no_version, versions, seen_at}

-- ---- what is given up

-- no version is in a bank, and every copy of the root, which says something, holds the text that stands and no other
pub record IsFreeBank (image : Image) (app bank : ℕ) : Type 0 where
  pub known : ¬ (says_at image app ≡ nothing)
  pub whole : (app_at image app).lacking ≡ []
  pub sole : root_sole image app ≡ true
  pub free : IsFree bank (says_at image app)

-- the file is one of a bank that is free so: it is given up
pub record IsFileGivenUp (image : Image) (file : ℕ) : Type 0 where
  pub app : ℕ
  pub bank : ℕ
  pub app_within : app < 8
  pub bank_within : bank ≤ 1
  pub free : IsFreeBank image app bank
  pub from : storage_file app bank 0 ≤ file
  pub below : file < storage_file app bank 0 + 512

-- ---- the ranges of the others

-- every copy of a root holds the text that stands, and none holds another
abbrev pub is_whole : (lacking : List ℕ) → (sole : Bool) → Bool
is_whole [] sole = sole
is_whole (copy ∷ copies) sole = false

-- the first bank in which no version is, where there is one
abbrev pub first_free : RootSeen → ℕ
first_free bad = 0
first_free (no_version lacking sole) = 0
first_free (versions active previous lacking sole) = 1 - active.bank

-- how many there are
abbrev pub count_free : RootSeen → ℕ
count_free bad = 0
count_free (no_version lacking sole) = if is_whole lacking sole then 2 else 0
count_free (versions active None lacking sole) = if is_whole lacking sole then 1 else 0
count_free (versions active (Some previous) lacking sole) = 0

-- their files
abbrev pub free_range : (app : ℕ) → RootSeen → FileRange
free_range app seen = record {
  first = storage_file app (first_free seen) 0;
  end = storage_file app (first_free seen) 0 + 512 * count_free seen;
}

-- the files of an application before those and after them
abbrev pub kept_of : (app : ℕ) → RootSeen → List FileRange
kept_of app seen =
    record { first = first_file app; end = (free_range app seen).first }
    ∷ record { first = (free_range app seen).end; end = first_file app + 4096 } ∷ []

-- those of the first few applications
unfoldable pub kept_below : Image → (apps : ℕ) → List FileRange
kept_below image zero = []
kept_below image (suc app) = kept_below image app ++ kept_of app (seen_at image app)

-- and all others
unfoldable pub all_kept : Image → List FileRange
all_kept image = kept_below image 8 ++ record { first = 32768; end = 4294967295 } ∷ []
