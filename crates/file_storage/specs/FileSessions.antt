-- An open file storage, and what always holds of it.
use Rattle.std.specs.Prelude.{◌≡◌, ℕ, List, false, Some}
use Rattle.per_base.specs.declared.elements.Element.{Element}
use Rattle.per_base.specs.declared.elements.StoreKind.TheVariants.{Files}
use Rattle.per_base.specs.Maps.{Map, element_at}
use Rattle.per_base.specs.Contents.{is_readable}
use Rattle.file_handles.specs.declared.storage.Storage.{Storage}
use Rattle.file_handles.specs.Sessions.{Session}
use Rattle.deployment_model.specs.Data.{StorageData}
use Rattle.deployment_model.specs.Conditions.{IsStorage}
use Rattle.element_state.specs.Views.{map_of}
use Rattle.element_maps.specs.Storages.{IsConfigured}
use Rattle.element_store.specs.declared.store.Store.{Store}
use Rattle.element_store.specs.Stores.{store_shape, view_in}

-- how it is configured (`config`), the storage of elements on the disk below it (`store`), the working files with the
-- handles on them (`session`), and the moment last given, in seconds
pub record FilesInUse : Type 0 where
  pub config : StorageData
  pub store : Store
  pub session : Session
  pub moment : ℕ

-- what the working files must know of their storage: its name, whether it is read-only, and its most bytes
abbrev pub storage_of : StorageData → Storage
storage_of config = record { name = config.name; read_only = config.read_only; maximum = config.maximum }

-- the synchronised files of a storage, by name
abbrev pub stored_in : Store → Map
stored_in store = map_of (view_in store)

-- a working file (one of `files`) that cannot be read is the very one that is synchronised (in `stored`)
abbrev pub AreAsStored : (stored files : Map) → Type 0
AreAsStored stored files = (name : List ℕ) (file : Element) → element_at files name ≡ Some file
    → is_readable file.content ≡ false → element_at stored name ≡ Some file

-- the working files of a storage that is as it is configured; those that cannot be read are as they are stored
pub record IsOpen (config : StorageData) (store : Store) (storage : Storage) (files : Map) : Type 0 where
  pub valid : IsStorage config
  pub configured : IsConfigured Files config (store_shape store)
  pub same_storage : storage ≡ storage_of config
  pub unreadable : AreAsStored (stored_in store) files
