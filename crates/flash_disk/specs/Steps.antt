-- What each step of a layer leaves, by its kind.
use Rattle.std.specs.Prelude.{◌≡◌, ◌⊎◌, ℕ, Bool, None, Result, OnOk, OnErr, IsTrue}
use Rattle.per_base.specs.Causes.{CountsFaults}
use Rattle.flash_model.specs.FlashMedium.{FlashMedium}
use Rattle.flash_disk.specs.declared.layer.Layer.{Layer}
use Rattle.flash_disk.specs.Known.{SameBounds}
use Rattle.flash_disk.specs.Counted.{IsCountedTable}
use Rattle.flash_disk.specs.Sound.{IsSoundLayer, IsDescribedBy, SameFill}
use Rattle.flash_disk.specs.Looks.{LeavesFlashAlone}
use Rattle.flash_disk.specs.Accounts.{Accounts}
use Rattle.flash_disk.specs.OwnFaults.{StopsAdding}

-- a step that only looks at the flash: it counts a fault of the flash where it fails, and none of its own
pub record OnlyLooks {F T E : Type 0} (told : Bool) (medium : F → FlashMedium) (old new : Layer F)
    (result : Result T E) : Type 0 where
  pub looks : LeavesFlashAlone told (medium old.flash) (medium new.flash)
  pub pages : IsTrue told → (medium new.flash).state.pages ≡ (medium old.flash).state.pages
  pub blocks : (medium new.flash).blocks ≡ (medium old.flash).blocks
  pub flash : CountsFaults (medium old.flash).faults (medium new.flash).faults result
  pub own : new.own ≡ old.own

-- a step that only looks, and leaves what is known of the flash as it was
pub record LearnsNothing {F T E : Type 0} (told : Bool) (medium : F → FlashMedium) (old new : Layer F)
    (result : Result T E) : Type 0 where
  pub only : OnlyLooks told medium old new result
  pub state : new.state ≡ old.state
  pub accounts : Accounts told medium 0 old new result

-- a step of an opening: it only looks, and leaves what is being filled, the lengths of files and the limit of pages as
-- they were, and the counts of the blocks true
pub record IsOpeningStep {F T E : Type 0} (told : Bool) (medium : F → FlashMedium) (old new : Layer F)
    (result : Result T E) : Type 0 where
  pub only : OnlyLooks told medium old new result
  pub fill : SameFill old.state new.state
  pub bounds : SameBounds old.state.table new.state.table
  pub counted : IsCountedTable (medium old.flash).blocks old.state.table
      → IsCountedTable (medium old.flash).blocks new.state.table

-- nothing is unsure, and all that is known fits the pages
pub record IsSure {F : Type 0} (told : Bool) (medium : F → FlashMedium) (layer : Layer F) : Type 0 where
  pub sure : layer.state.unsure ≡ None
  pub sound : IsTrue told → IsSoundLayer (medium layer.flash) layer.state

-- after a step nothing is unsure and all that is known fits the pages, or where it failed all but for one page
pub record StaysSound {F T E : Type 0} (told : Bool) (medium : F → FlashMedium) (layer : Layer F)
    (result : Result T E) : Type 0 where
  pub sure : OnOk result (layer.state.unsure ≡ None)
  pub sound : IsTrue told → OnOk result (IsSoundLayer (medium layer.flash) layer.state)
  pub failed : IsTrue told → OnErr result (IsDescribedBy (medium layer.flash) layer.state)

-- a step that adds at most that many records: it has a fault of its own only where no record can be added
pub record AddsRecords {F T E : Type 0} (told : Bool) (medium : F → FlashMedium) (numbers : ℕ) (old new : Layer F)
    (result : Result T E) : Type 0 where
  pub stays : StaysSound told medium new result
  pub accounts : Accounts told medium numbers old new result
  pub own : IsTrue told → (new.own ≡ old.own) ⊎ StopsAdding new.state
