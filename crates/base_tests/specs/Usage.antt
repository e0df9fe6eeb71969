-- What holds between two words of a session.
use Rattle.std.specs.Prelude.{◌≡◌, true, ⊤}
use Rattle.disk_model.specs.Memory.{mem_medium}
use Rattle.element_store.specs.Stores.{IsUsed, store_shape}
use Rattle.base_tests.specs.declared.usage.InUse.{InUse}
use Rattle.base_tests.specs.declared.usage.Kept.{Kept}
use Rattle.base_tests.specs.declared.usage.Kept.TheVariants.{Closed, Open}

-- the storage is in use on its disk, and kept as it says
abbrev pub IsStoreInUse : InUse → Type 0
IsStoreInUse kept = IsUsed true (mem_medium kept.disk).image kept.store × (store_shape kept.store ≡ kept.shape)

abbrev pub IsKeptStore : Kept → Type 0
IsKeptStore (Closed disk) = ⊤
IsKeptStore (Open kept) = IsStoreInUse kept
