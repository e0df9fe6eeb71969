-- One open storage of either kind: its configuration, the storage below it, and its session.
use Rattle.per_base.specs.declared.elements.StoreKind.{StoreKind}
use Rattle.per_base.specs.declared.elements.StoreKind.TheVariants as kinds
use Rattle.deployment_model.specs.Data.{StorageData}
use Rattle.element_store.specs.declared.store.Store.{Store}
use Rattle.key_maps.specs.TwoMaps.{TwoMaps}
use Rattle.kvs_store.specs.Storages as stored
use Rattle.file_storage.specs.FileSessions as working
use Rattle.run_model.specs.Sessions.{Session, FileSession, keys, files}
use Rattle.open_storages.specs.declared.opens.Open.{Open}
use Rattle.open_storages.specs.declared.opens.Open.TheVariants.{Keys, Files}

-- what is on the disk, and what the calls see; of keys, and of files
abbrev pub keys_of : stored.KvsSession → TwoMaps
keys_of k = record { synced = k.session.synced; visible = k.session.visible }

abbrev pub files_of : working.FilesInUse → FileSession
files_of f = record { synced = working.stored_in f.store; working = f.session }

-- the session of an open storage: what is synchronised, and what its calls see
abbrev pub session_in : Open → Session
session_in (Keys k) = keys (keys_of k)
session_in (Files f) = files (files_of f)

-- how an open storage is configured
abbrev pub config_in : Open → StorageData
config_in (Keys k) = k.config
config_in (Files f) = f.config

-- the storage in use below it
abbrev pub store_in : Open → Store
store_in (Keys k) = k.store
store_in (Files f) = f.store

-- the kind of storage that a session is one of
abbrev pub session_kind : Session → StoreKind
session_kind (keys s) = kinds.Keys
session_kind (files s) = kinds.Files
