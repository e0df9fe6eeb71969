-- The storage of a name, as it is found by a look at the root.
use Rattle.std.specs.Prelude.{◌≡◌, ◌≤◌, ◌<◌, ℕ, List, Bool, IsTrue, Option, Some, None, Ok, Err, slice_get}
use Rattle.per_base.specs.declared.errors.PerError.{PerError}
use Rattle.per_base.specs.declared.errors.PerError.TheVariants as error
use Rattle.per_base.specs.declared.errors.Unit.TheVariants as unit
use Rattle.disk_model.specs.Image.{Image}
use Rattle.deployment_model.specs.Conditions.{IsStorage}
use Rattle.deployment_model.specs.Data.{StorageData, storage_data}
use Rattle.deployment_model.specs.Lookups.{storage_number}
use Rattle.element_maps.specs.Storages.{IsConfigured}
use Rattle.element_state.specs.Conditions.{IsShape}
use Rattle.element_state.specs.States.{State, store_at}
use Rattle.deploy_laws.specs.Places.{Named, storage_shape}
use Rattle.deploy_laws.specs.Apps.{App, Says, installed, says_at}
use Rattle.deploy.specs.Views.{RootSeen, bad, no_version, versions}
use Rattle.run_model.specs.Found.{FoundStorage, storage_in}
use Rattle.per_backup.specs.declared.finding.Located.{Located}
use Rattle.per_backup.specs.Clauses.{IsAppSeen}

-- how the storage that was found is configured
abbrev pub config_of : Located → StorageData
config_of l = storage_data l.config

-- ---- by a look at the root

-- the storage of this name in a version, and where it is stored
pub record IsStorageOf (app : ℕ) (name : List ℕ) (active : Named) (l : Located) : Type 0 where
  pub number : ℕ
  pub by_name : storage_number active.deployment name ≡ Some number
  pub config : slice_get active.deployment.storages number ≡ Some (config_of l)
  pub in_bank : active.bank ≤ 1
  pub in_slots : number < 16
  pub keeps : IsStorage (config_of l)
  pub shape : l.shape ≡ storage_shape app active.bank number (config_of l)
  pub is_shape : IsShape l.shape
  pub configured : IsConfigured l.config.kind (config_of l) l.shape

-- a version is seen, and it has the storage
abbrev pub IsIn : (app : ℕ) (name : List ℕ) → RootSeen → Located → Type 0
IsIn app name bad l = ⊥
IsIn app name (no_version lacking sole) l = ⊥
IsIn app name (versions active previous lacking sole) l = IsStorageOf app name active l

-- the first obstacle: the root is bad, nothing is installed, there is no such storage
abbrev pub IsOut : (name : List ℕ) → RootSeen → PerError → Type 0
IsOut name bad e = e ≡ error.IntegrityCorrupted unit.Root
IsOut name (no_version lacking sole) e = e ≡ error.NotInstalled
IsOut name (versions active previous lacking sole) e =
    (storage_number active.deployment name ≡ None) × (e ≡ error.StorageNotFound)

-- ---- of the application that was seen

-- as it is found in this state
abbrev pub found_as : Named → ℕ → Located → State → FoundStorage
found_as active number l state = record { bank = active.bank; number = number; config = config_of l; state = state }

-- it is the storage of this name, in whatever state that is
pub record IsLocatedAs (told : Bool) (image : Image) (app : ℕ) (name : List ℕ) (l : Located) : Type 0 where
  pub active : Named
  pub of : IsStorageOf app name active l
  pub says : IsTrue told → (generation : ℕ) × (previous : Option Named)
      × (says_at image app ≡ installed generation active previous)
  pub named : (state : State) → (IsTrue told → state ≡ store_at image l.shape)
      → (it : App) × IsAppSeen told image app it × (storage_in it name None ≡ Ok (found_as active of.number l state))

-- there is none to be found, and this is the refusal
abbrev pub IsMissingStorage : (told : Bool) → Image → ℕ → (name : List ℕ) → PerError → Type 0
IsMissingStorage told image app name e = (it : App) × IsAppSeen told image app it × (storage_in it name None ≡ Err e)
