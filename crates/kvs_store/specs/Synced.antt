-- What a sync makes, and how it fails. `old` and `new` are the disk before and after it, `kvs` and `later` the
-- storage.
use Rattle.std.specs.Prelude.{◌≡◌, Bool, false, length}
use Rattle.disk_model.specs.Medium.{Medium}
use Rattle.index_text.specs.Spelling.{index_text}
use Rattle.element_state.specs.declared.shapes.View.{View}
use Rattle.element_state.specs.Written.{IsWithin, map_cost}
use Rattle.element_store.specs.Committing.{index_in, index_length}
use Rattle.element_store.specs.Stores.{IsUsed, store_shape, view_in}
use Rattle.element_maps.specs.Sessions as maps
use Rattle.element_maps.specs.Storages.{IsDurable, KeepsEqual}
use Rattle.key_maps.specs.TwoMaps.{TwoMaps}
use Rattle.kvs_store.specs.declared.syncing.SyncFault.{SyncFault}
use Rattle.kvs_store.specs.declared.syncing.SyncFault.TheVariants.{Device, WornOut, OutOfMemory}
use Rattle.kvs_store.specs.Storages.{KvsSession}

-- whether what the calls see is what is synchronised
abbrev pub is_synced : KvsSession → Bool
is_synced kvs = maps.same_map kvs.session.synced kvs.session.visible

-- both maps after a sync: what was visible is synchronised
abbrev pub marked_synced : TwoMaps → TwoMaps
marked_synced session = record session { synced = session.visible }

-- the view after a sync: the old one where nothing differs
abbrev pub synced_view : KvsSession → View
synced_view kvs = maps.view_once_synced (store_shape kvs.store) (view_in kvs.store) kvs.session.synced
    kvs.session.visible

-- at most this is written: in each copy the keys that differ, the next index with its head of 44 bytes, and 44 bytes
-- that blank the old index
abbrev pub WritesAtMost : KvsSession → (old new : Medium) → Type 0
WritesAtMost kvs old new = IsWithin (store_shape kvs.store).place.copies
    (map_cost (store_shape kvs.store).kind kvs.session.synced kvs.session.visible)
    (index_length (store_shape kvs.store).kind (synced_view kvs).entries) old.written new.written

-- what the calls see is durable in a later storage, and all else of it stays; `told` says that the bytes of the disk
-- are modelled
pub record IsSynced (told : Bool) (kvs later : KvsSession) (old new : Medium) : Type 0 where
  pub session : later ≡ record kvs { store = later.store; session = marked_synced kvs.session }
  pub shape : store_shape later.store ≡ store_shape kvs.store
  pub view : view_in later.store ≡ synced_view kvs
  pub used : IsUsed told new.image later.store
  pub durable : IsDurable told (store_shape kvs.store) kvs.session.synced kvs.session.visible
      (length (index_text (index_in later.store))) old new
  -- its index: a key that does not differ as it was listed; where one does, in format 2, which has the generation of
  -- each last change, and as long as the entries of its view ask
  pub carried : KeepsEqual kvs.session.synced kvs.session.visible (index_in kvs.store).entries
      (index_in later.store).entries
  pub format : is_synced kvs ≡ false → (index_in later.store).format ≡ 2
  pub text : is_synced kvs ≡ false → length (index_text (index_in later.store))
      ≡ index_length (store_shape kvs.store).kind (view_in later.store).entries

-- an error other than a failure of the device hands the storage back as it was given, and then P holds
abbrev pub HandsBack : KvsSession → SyncFault → Type 0 → Type 0
HandsBack kvs Device P = Unit {0}
HandsBack kvs (WornOut same) P = (same ≡ kvs) × P
HandsBack kvs (OutOfMemory same) P = (same ≡ kvs) × P

-- the error is a failure of the device
abbrev pub IsDeviceFault : SyncFault → Type 0
IsDeviceFault Device = Unit {0}
IsDeviceFault (WornOut kvs) = ⊥
IsDeviceFault (OutOfMemory kvs) = ⊥
