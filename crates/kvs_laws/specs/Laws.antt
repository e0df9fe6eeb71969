-- The statements of the laws.
use Rattle.std.specs.Prelude.{◌≡◌, ℕ, List, [], Bool, IsTrue, Ok}
use Rattle.per_base.specs.Maps.{Map}
use Rattle.disk_model.specs.Case.{Case, IsSettledAt}
use Rattle.disk_model.specs.Image.{Image}
use Rattle.value_model.specs.Trees.{Tree, type_of}
use Rattle.value_model.specs.Validity.{IsValue}
use Rattle.deployment_model.specs.Data.{StorageData}
use Rattle.element_state.specs.Clean.{IsClean}
use Rattle.element_state.specs.Kept.{IsKeptMending}
use Rattle.element_state.specs.States.{Opens}
use Rattle.element_store.specs.Stores.{IsUsed, store_shape, view_in}
use Rattle.kvs_core.specs.Calls.{get_as, set_value}
use Rattle.kvs_store.specs.Storages.{KvsSession, keys_in}
use Rattle.kvs_store.specs.Synced.{synced_view}
use Rattle.kvs_laws.specs.Values.{AskedKey, HasValue, LeavesValue, ReadsAs}

-- what was set is what is got
abbrev pub SetLaw : Type 0
SetLaw = (config : StorageData) (m new : Map) (name : List ℕ) (value : Tree) → IsValue value
    → set_value config m name value ≡ Ok new → get_as config new name (type_of value) ≡ Ok value

-- an open storage in use on an image, on which the key has this value
pub record OpensWithValue (asked : AskedKey) (image : Image) (kvs : KvsSession) (value : Tree) : Type 0 where
  pub told : Bool
  pub tells : IsTrue told
  pub used : IsUsed told image kvs.store
  pub shown : kvs.session.synced ≡ keys_in (view_in kvs.store)
  pub value_is : HasValue asked kvs.session.synced value

-- a key that has this value in an open storage reads so on the disk
abbrev pub ReadsLaw : Type 0
ReadsLaw = (asked : AskedKey) (image : Image) (kvs : KvsSession) (value : Tree) → OpensWithValue asked image kvs value
    → ReadsAs asked (store_shape kvs.store) value image

-- where a sync keeps the storage, a stop leaves the value that was synchronised or the one that the calls see
abbrev pub SyncLaw : Type 0
SyncLaw = (asked : AskedKey) (start : Image) (kvs : KvsSession) (before after : Tree) (c : Case)
    → OpensWithValue asked start kvs before → HasValue asked kvs.session.visible after
    → IsKeptMending (store_shape kvs.store) start (Opens (synced_view kvs) []) c
    → LeavesValue asked (store_shape kvs.store) (view_in kvs.store).lacking before after c

-- where nothing is pending a stop leaves the value that is synchronised, or the one that the next sync is to bring
abbrev pub StillLaw : Type 0
StillLaw = (asked : AskedKey) (start : Image) (kvs : KvsSession) (before after : Tree) (c : Case)
    → OpensWithValue asked start kvs before → IsClean (store_shape kvs.store) start → IsSettledAt start c
    → LeavesValue asked (store_shape kvs.store) (view_in kvs.store).lacking before after c
