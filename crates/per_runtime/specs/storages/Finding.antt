-- A storage of the active version, as it is found by its name.
use Rattle.std.specs.Prelude.{◌≡◌, ◌≢◌, ◌≤◌, ◌<◌, ℕ, List, Option, Some, Ok, Err, slice_get}
use Rattle.per_base.specs.declared.elements.StoreKind.{StoreKind}
use Rattle.per_base.specs.declared.errors.PerError.{PerError}
use Rattle.per_base.specs.declared.errors.PerError.TheVariants as error
use Rattle.disk_model.specs.Image.{Image}
use Rattle.deployment_model.specs.Conditions.{IsStorage}
use Rattle.deployment_model.specs.Data.{StorageData, storage_data}
use Rattle.element_state.specs.declared.shapes.Shape.{Shape}
use Rattle.element_state.specs.States.{State, store_at}
use Rattle.deploy_laws.specs.Places.{Named, storage_shape}
use Rattle.deploy_laws.specs.Apps.{Says}
use Rattle.run_model.specs.Found.{FoundStorage, found_in}
use Rattle.per_runtime.specs.storages.Slots.{active_in}
use Rattle.per_runtime.specs.declared.storages.finding.Located.{Located}

-- how it is configured
abbrev pub config_of : Located → StorageData
config_of l = storage_data l.config.now

-- where it is stored
abbrev pub shape_at : Located → Shape
shape_at l = storage_shape l.app l.bank l.number (config_of l)

-- in this state, and as it is found on an image
abbrev pub found_as : Located → State → FoundStorage
found_as l state = record { bank = l.bank; number = l.number; config = config_of l; state = state }

abbrev pub found_on : Image → Located → FoundStorage
found_on image l = found_as l (store_at image (shape_at l))

-- its numbers are those of a storage of an application
pub record HasStorageNumbers (l : Located) : Type 0 where
  pub below : l.app < 8
  pub in_bank : l.bank ≤ 1
  pub in_slots : l.number < 16
  pub keeps : IsStorage (config_of l)

-- it is a storage of the active version of this application
pub record IsLocated (app : ℕ) (says : Says) (l : Located) : Type 0 where
  pub app_is : l.app ≡ app
  pub version : Named
  pub active : active_in says ≡ Some version
  pub bank : version.bank ≡ l.bank
  pub place : slice_get version.deployment.storages l.number ≡ Some (config_of l)
  pub within : HasStorageNumbers l

-- by what a root says it is the storage that is asked for, whatever its state
abbrev pub IsAsked : Says → List ℕ → Option StoreKind → Located → Type 0
IsAsked says name kind l = (states : List State) (state : State) → slice_get states l.number ≡ Some state
    → found_in says states name kind ≡ Ok (found_as l state)

-- by what a root says this is the refusal, whatever the states
abbrev pub IsMissing : Says → List ℕ → Option StoreKind → PerError → Type 0
IsMissing says name kind e = (states : List State) → found_in says states name kind ≡ Err e

-- what a refusal that comes before every call of a disk is not
pub record IsEarly (e : PerError) : Type 0 where
  pub no_failure : e ≢ error.PhysicalStorageFailure
  pub no_want : e ≢ error.OutOfMemory
