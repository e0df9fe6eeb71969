-- The storage of a name in the active version: the refusals that many calls share, in their order.
use Rattle.std.specs.Prelude.{ℕ, List, Bool, true, cond, Option, Some, None, Result, Ok, Err, slice_get, slice_set}
use Rattle.per_base.specs.declared.elements.StoreKind.{StoreKind}
use Rattle.per_base.specs.declared.errors.PerError.{PerError}
use Rattle.per_base.specs.declared.errors.PerError.TheVariants as error
use Rattle.per_base.specs.declared.errors.Unit.TheVariants as unit
use Rattle.deployment_model.specs.Data.{StorageData}
use Rattle.deployment_model.specs.Lookups.{storage_number}
use Rattle.element_state.specs.States.{State}
use Rattle.element_state.specs.declared.shapes.Shape.{Shape}
use Rattle.update_plan.specs.Plans.{is_kind}
use Rattle.deploy_laws.specs.Places.{Named, storage_shape}
use Rattle.deploy_laws.specs.Apps.{Says, nothing, absent, installed, App}

-- a storage of the active version: its bank and number, how it is configured, and its state
pub record FoundStorage : Type 0 where
  pub bank : ℕ
  pub number : ℕ
  pub config : StorageData
  pub state : State

-- a storage of this kind serves a call that needs one kind, or none in particular
abbrev pub of_kind : Option StoreKind → StoreKind → Bool
of_kind None kind = true
of_kind (Some wanted) kind = is_kind wanted kind

-- the storage with this configuration and state, where there is one and it is of the kind that is needed
abbrev pub found_with : (bank number : ℕ) → Option StoreKind → Option StorageData → Option State
    → Result FoundStorage PerError
found_with bank number kind (Some config) (Some state) = cond (of_kind kind config.kind)
    (Ok (record { bank = bank; number = number; config = config; state = state })) (Err error.StorageNotFound)
found_with bank number kind (Some config) None = Err error.StorageNotFound
found_with bank number kind None state = Err error.StorageNotFound

-- the storage of this number in a version, where there is one
abbrev pub found_at : Named → List State → Option StoreKind → Option ℕ → Result FoundStorage PerError
found_at v states kind None = Err error.StorageNotFound
found_at v states kind (Some number) = found_with v.bank number kind (slice_get v.deployment.storages number)
    (slice_get states number)

-- the storage of this name in the active version that a root says, or the first refusal
abbrev pub found_in : Says → List State → List ℕ → Option StoreKind → Result FoundStorage PerError
found_in nothing states name kind = Err (error.IntegrityCorrupted unit.Root)
found_in (absent g) states name kind = Err error.NotInstalled
found_in (installed g active previous) states name kind =
    found_at active states kind (storage_number active.deployment name)

-- the storage of this name and kind, or the first refusal: the root is bad, nothing is installed, there is no such
-- storage
abbrev pub storage_in : App → List ℕ → Option StoreKind → Result FoundStorage PerError
storage_in a name kind = found_in a.says a.states name kind

-- where it is stored, and what it is allowed
abbrev pub shape_in : ℕ → FoundStorage → Shape
shape_in app f = storage_shape app f.bank f.number f.config

-- the application with this state of that storage
abbrev pub with_storage_state : App → FoundStorage → State → App
with_storage_state a f state = record a { states = slice_set a.states f.number state }
