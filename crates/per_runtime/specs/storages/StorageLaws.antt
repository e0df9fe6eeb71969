-- The laws of the crates below that a call on a storage of an application relies on, in one.
use Rattle.std.specs.Prelude.{Bool, IsTrue}
use Rattle.disk_model.specs.Frame.{Spares}
use Rattle.disk_model.specs.Image.{Image}
use Rattle.element_laws.specs.Phases.{IsOfPlace}
use Rattle.element_store.specs.declared.store.Store.{Store}
use Rattle.element_store.specs.Stores.{IsUsed, store_shape}
use Rattle.deploy_laws.specs.Laws.{BesideLaw, NumberLaw, StorageFilesLaw, StoredLaw, StoringLaw, UntouchedAppLaw}
use Rattle.deploy.specs.Laws.{RootFrameLaw, RootInUseLaw}

-- a storage in use stays so where the files of its place are as they were
abbrev pub UsedFrameLaw : Type 0
UsedFrameLaw = (told : Bool) (store : Store) (old new : Image)
    → (IsTrue told → Spares (IsOfPlace (store_shape store).place) old new)
    → IsUsed told old store → IsUsed told new store

-- the laws of storages that calls on an application rely on
pub record StorageLaws : Type 0 where
  -- what a root in use says, and where its storages are stored
  pub in_use : RootInUseLaw
  pub numbers : NumberLaw
  pub files : StorageFilesLaw
  pub beside : BesideLaw
  -- what stays where other files change
  pub root_stays : RootFrameLaw
  pub use_stays : UsedFrameLaw
  pub stored : StoredLaw
  -- what a stop leaves
  pub untouched : UntouchedAppLaw
  pub storing : StoringLaw
