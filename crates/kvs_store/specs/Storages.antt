-- An open key-value storage, and what always holds of it.
use Rattle.std.specs.Prelude.{◌≡◌}
use Rattle.per_base.specs.declared.elements.StoreKind.TheVariants.{Keys}
use Rattle.per_base.specs.Maps.{Map}
use Rattle.deployment_model.specs.Data.{StorageData}
use Rattle.element_state.specs.declared.shapes.View.{View}
use Rattle.element_store.specs.declared.store.Store.{Store}
use Rattle.element_store.specs.Stores.{store_shape, view_in}
use Rattle.element_maps.specs.Sessions.{synchronised}
use Rattle.element_maps.specs.Storages.{IsConfigured}
use Rattle.key_maps.specs.KeyElements.{is_encoding}
use Rattle.key_maps.specs.TwoMaps.{TwoMaps}
use Rattle.kvs_core.specs.Sessions.{Session}

-- how it is configured (`config`), the storage of elements on the disk below it (`store`), and what is synchronised
-- beside what the calls see (`session`)
pub record KvsSession : Type 0 where
  pub config : StorageData
  pub store : Store
  pub session : TwoMaps

-- what the calls of a storage of keys work on: all of it but the storage below
abbrev pub kvs_session : KvsSession → Session
kvs_session kvs = record { config = kvs.config; synced = kvs.session.synced; visible = kvs.session.visible }

-- the storage of keys with this map as what the calls see
abbrev pub showing : KvsSession → Map → KvsSession
showing kvs m = record kvs { session = record kvs.session { visible = m } }

-- the map of the keys that a view of a storage shows: bytes that encode no value are unreadable, and no salvage
abbrev pub keys_in : View → Map
keys_in v = synchronised is_encoding v

-- the session of a storage of keys that is as it is configured; what is synchronised is what the storage shows
pub record IsOpen (store : Store) (session : Session) : Type 0 where
  pub configured : IsConfigured Keys session.config (store_shape store)
  pub synced : session.synced ≡ keys_in (view_in store)
