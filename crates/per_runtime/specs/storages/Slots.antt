-- The open storages of an application: each is in the slot of its number in the active version.
use Rattle.std.specs.Prelude.{◌≡◌, ◌<◌, ℕ, length, map, Bool, Option, Some, None, option_map, slice_get}
use Rattle.disk_model.specs.Image.{Image}
use Rattle.element_store.specs.Stores.{IsUsed, view_in}
use Rattle.element_store.specs.Stores as stores
use Rattle.deploy_laws.specs.Places.{Named}
use Rattle.deploy_laws.specs.Places as places
use Rattle.deploy_laws.specs.Apps.{Says, nothing, absent, installed, app_at}
use Rattle.deploy.specs.declared.roots.Root.{Root}
use Rattle.deploy.specs.Roots.{RootAt, root_says}
use Rattle.open_storages.specs.declared.opens.Open.{Open}
use Rattle.open_storages.specs.Opens.{session_in, config_in, session_kind, store_in}
use Rattle.run_model.specs.Sessions.{seen_in, synced_in_session}
use Rattle.run_model.specs.Worlds.{Application, Sessions, at_rest}
use Rattle.per_runtime.specs.declared.storages.slots.OpenSlots.{OpenSlots}

-- their sessions, by the numbers of the storages
abbrev pub sessions_in : OpenSlots → Sessions
sessions_in slots = map (option_map session_in) slots.open.items

-- what is in a slot; and in that of this number, counted from 0
abbrev pub if_there : {A : Type 0} → Option (Option A) → Option A
if_there None = None
if_there (Some x) = x

abbrev pub slot_at : OpenSlots → ℕ → Option Open
slot_at slots number = if_there (slice_get slots.open.items number)

-- the version whose storages may be open
abbrev pub active_in : Says → Option Named
active_in nothing = None
active_in (absent g) = None
active_in (installed g active previous) = Some active

-- a storage of this number is open as it is configured, and in use on a disk
pub record IsOpenAt (told : Bool) (image : Image) (app : ℕ) (v : Named) (number : ℕ) (storage : Open) : Type 0 where
  pub configured : slice_get v.deployment.storages number ≡ Some (config_in storage)
  pub placed : stores.store_shape (store_in storage) ≡ places.storage_shape app v.bank number (config_in storage)
  pub used : IsUsed told image (store_in storage)
  pub kind : session_kind (session_in storage) ≡ (config_in storage).kind
  pub shows : synced_in_session (session_in storage) ≡ seen_in (config_in storage).kind (view_in (store_in storage))

-- there is room for sixteen, and each that is open is one of the active version
pub record AreOpenOn (told : Bool) (image : Image) (app : ℕ) (says : Says) (slots : OpenSlots) : Type 0 where
  pub room : length slots.open.items ≡ 16
  pub each : (number : ℕ) (storage : Open) → slice_get slots.open.items number ≡ Some (Some storage)
      → (v : Named) × (active_in says ≡ Some v) × IsOpenAt told image app v number storage

-- An application at rest in memory: its root is in use, and so are its open storages.
pub record IsResting (told : Bool) (image : Image) (app : ℕ) (root : Root) (slots : OpenSlots) : Type 0 where
  pub below : app < 8
  pub root_at : RootAt told image app root
  pub open_on : AreOpenOn told image app (root_says root) slots

-- an application at rest as the world of `run_model` has it: what the image denotes of it, and the sessions of these
-- open storages
abbrev pub resting_with : Image → ℕ → OpenSlots → Application
resting_with image app slots = record { disk = app_at image app; stage = at_rest; sessions = sessions_in slots }
