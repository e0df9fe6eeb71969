-- Files that are given up: what leaves the flash, and that nothing else changes.
use Rattle.std.specs.Prelude.{◌≡◌, ◌≢◌, ◌⊎◌, ℕ, ◌/◌, ◌<◌, ◌≤◌, Bool, true, [], Some}
use Rattle.flash_model.specs.Pages.{Pages, blank_page, TornBlock, IsPlain}
use Rattle.flash_model.specs.State.{FlashCase}
use Rattle.flash_model.specs.FlashMedium.{FlashMedium, FlashElapses, EachFlashCase}
use Rattle.flash_disk.specs.declared.table.FilePage.{FilePage}
use Rattle.flash_disk.specs.declared.table.Newest.{Newest}
use Rattle.flash_disk.specs.declared.table.Table.{Table}
use Rattle.flash_disk.specs.declared.layer.LayerState.{LayerState}
use Rattle.flash_disk.specs.Newest.{Placed, record_at, newest, places, page_count, page_limit, IsUsable}
use Rattle.flash_disk.specs.FlashFiles.{flash_files}
use Rattle.flash_disk.specs.Known.{known, HasCapacity}
use Rattle.flash_disk.specs.Learnt.{LedOf}
use Rattle.flash_disk.specs.Standing.{IsAgreed, HasRivals, KeepsRecords}
use Rattle.flash_disk.specs.Apart.{KeepsHeld, HoldsOneCopy, StandApart}
use Rattle.flash_disk.specs.Emptied.{IsEmptyBlock}
use Rattle.flash_disk.specs.Kept.{only_kept, HoldsKept, ComesFrom}

-- Each file that is kept is as it was, no record came, the pages can be opened, and the copies of what is kept stand
-- apart where they did.
pub record Forgets (kept : ℕ → Bool) (blocks : ℕ) (old pages : Pages) : Type 0 where
  pub files : (file : ℕ) → kept file ≡ true → flash_files pages blocks file ≡ flash_files old blocks file
  pub keeps : KeepsRecords (only_kept kept old) (only_kept kept pages) (places blocks)
  pub only : ComesFrom old pages (places blocks)
  pub usable : IsUsable pages blocks
  pub apart : StandApart (only_kept kept old) blocks → StandApart (only_kept kept pages) blocks

-- what a crash leaves while files are given up: it was settled as before, or once more at the end
pub record LeavesForgetting (kept : ℕ → Bool) (old new : FlashMedium) (c : FlashCase) : Type 0 where
  pub settled : ((c.settled ≡ old.state.settled) × (c.announced ≡ old.state.announced))
      ⊎ ((c.settled ≡ new.state.pages) × (c.announced ≡ []))
  pub left : IsPlain c.before c.whole c.left → Forgets kept old.blocks old.state.pages c.left

-- files were given up, or some of what they held
pub record GivesUp (kept : ℕ → Bool) (old new : FlashMedium) : Type 0 where
  pub time : FlashElapses old new
  pub now : Forgets kept old.blocks old.state.pages new.state.pages
  pub during : EachFlashCase (LeavesForgetting kept old new) old new

-- a block has, among its 64 places, the record that is counted for a page of a file that is kept: the newest one of
-- the page, or an equal one
pub record CountsInBlock (kept : ℕ → Bool) (pages : Pages) (blocks : ℕ) (counting : (file page : ℕ) → ℕ) (block : ℕ)
    : Type 0 where
  pub file : ℕ
  pub page : ℕ
  pub best : Placed
  pub own : kept file ≡ true
  pub newest_is : newest pages file page (places blocks) ≡ Some best
  pub there : record_at pages (counting file page) ≡ Some best.says
  pub here : counting file page / 64 ≡ block

-- each block but one has such a record, where one is counted for each page
pub record IsFullOfKept (kept : ℕ → Bool) (pages : Pages) (blocks : ℕ) : Type 0 where
  pub counting : (file page : ℕ) → ℕ
  pub spare : ℕ
  pub full : (block : ℕ) → block < blocks → block ≢ spare → CountsInBlock kept pages blocks counting block

-- no file may be given up: there are rivals, or each block but one has a record that is counted for a file that is kept
abbrev pub MayGiveNothing : (kept : ℕ → Bool) → FlashMedium → Type 0
MayGiveNothing kept m = HasRivals m.state.pages (places m.blocks) ⊎ IsFullOfKept kept m.state.pages m.blocks

-- the table leads from each page of a file that is kept to its newest record, or an equal one
abbrev pub LeadsKept : (kept : ℕ → Bool) → Pages → (n : ℕ) → Table → Type 0
LeadsKept kept pages n table = (key : FilePage) → kept key.file ≡ true
    → LedOf (only_kept kept pages) n (known table key) (newest (only_kept kept pages) key.file key.page n)

-- no entry of a file that is kept leads into the first few pages of a block
abbrev pub LeavesKept : (kept : ℕ → Bool) → Table → (block done : ℕ) → Type 0
LeavesKept kept table block done = (key : FilePage) (entry : Newest) → kept key.file ≡ true
    → known table key ≡ Some entry → entry.place.block ≡ block → done ≤ entry.place.page

-- an entry of a file that is kept leads into a block
abbrev pub NeedsBlock : (kept : ℕ → Bool) → Table → (block : ℕ) → Type 0
NeedsBlock kept table block = (key : FilePage) × (entry : Newest) × (kept key.file ≡ true)
    × (known table key ≡ Some entry) × (entry.place.block ≡ block)

-- a block that is not the spare one, and to none of whose 64 pages an entry of a file that is kept leads
pub record MayBeFreed (kept : ℕ → Bool) (blocks : ℕ) (s : LayerState) (block : ℕ) : Type 0 where
  pub within : block < blocks
  pub apart : block ≢ s.spare
  pub out : LeavesKept kept s.table block 64

-- files are being given up: the table leads to what is kept, and the spare block is empty
pub record IsForgetting (kept : ℕ → Bool) (pages : Pages) (blocks : ℕ) (s : LayerState) : Type 0 where
  pub led : LeadsKept kept pages (places blocks) s.table
  pub room : HasCapacity s.table
  pub agreed : IsAgreed (only_kept kept pages) (places blocks)
  pub count : page_count pages (places blocks) ≤ page_limit blocks
  pub within : s.spare < blocks
  pub empty : IsEmptyBlock pages s.spare

-- a block beside the spare one is empty too
pub record IsFreeBlock (pages : Pages) (blocks : ℕ) (s : LayerState) (block : ℕ) : Type 0 where
  pub within : block < blocks
  pub apart : block ≢ s.spare
  pub empty : IsEmptyBlock pages block

-- meanwhile what is kept is copied from the first few pages of a block to the start of another, the rest of whose 64
-- pages is blank
pub record IsMovingKept (kept : ℕ → Bool) (pages : Pages) (blocks : ℕ) (s : LayerState) (from to done count : ℕ)
    : Type 0 where
  pub forgetting : IsForgetting kept pages blocks s
  pub within : from < blocks
  pub to_within : to < blocks
  pub apart : from ≢ to
  pub to_spare : to ≢ s.spare
  pub behind : count ≤ done
  pub blank : (p : ℕ) → count ≤ p → p < 64 → pages to p ≡ blank_page
  pub holds : HoldsKept kept pages to
  pub out : LeavesKept kept s.table from done

-- of the files that are kept nothing changed, and records came to one block alone: no other copies than the block that
-- they came from held
pub record MovesKept (kept : ℕ → Bool) (blocks from to : ℕ) (old pages : Pages) : Type 0 where
  pub torn : TornBlock to old pages
  pub keeps : KeepsRecords (only_kept kept old) (only_kept kept pages) (places blocks)
  pub only : ComesFrom old pages (places blocks)
  pub held : (copy : ℕ) → HoldsOneCopy (only_kept kept old) (places blocks) from copy
      → KeepsHeld copy to (places blocks) (only_kept kept old) (only_kept kept pages)
