-- Records that are moved from one block into the spare one.
use Rattle.std.specs.Prelude.{◌≡◌, ◌≢◌, ◌⊎◌, ℕ, ◌+◌, ◌<◌, ◌≤◌, true, List, [], ◌∷◌, Some, All, IsFalse, length}
use Rattle.flash_model.specs.Pages.{Pages, blank_page}
use Rattle.flash_disk.specs.declared.table.FilePage.{FilePage}
use Rattle.flash_disk.specs.declared.table.Newest.{Newest}
use Rattle.flash_disk.specs.declared.table.Table.{Table}
use Rattle.flash_disk.specs.declared.layer.LayerState.{LayerState}
use Rattle.flash_disk.specs.Newest.{record_at, places}
use Rattle.flash_disk.specs.Known.{same_page, known}
use Rattle.flash_disk.specs.Counted.{entries_in}
use Rattle.flash_disk.specs.Learnt.{number}
use Rattle.flash_disk.specs.Sound.{Sound}
use Rattle.flash_disk.specs.Standing.{DenotesFiles}
use Rattle.flash_disk.specs.Apart.{KeepsHeld}
use Rattle.flash_disk.specs.LedApart.{LeadsOnly}
use Rattle.flash_model.specs.FlashMedium.{FlashMedium}

-- an entry that leads to the copy in place of the record that was copied, among the first few pages of a block
pub record IsMoved (pages : Pages) (table : Table) (from to count : ℕ) (e : FilePage × Newest) : Type 0 where
  pub old : Newest
  pub known_is : known table e.0 ≡ Some old
  pub came : old.place.block ≡ from
  pub entry : e.1 ≡ record old { place = e.1.place }
  pub block : e.1.place.block ≡ to
  pub front : e.1.place.page < count
  pub copy : record_at pages (number e.1.place) ≡ record_at pages (number old.place)

-- one of the entries is of this page
abbrev pub HasKey : FilePage → List (FilePage × Newest) → Type 0
HasKey key [] = ⊥
HasKey key (e ∷ es) = (same_page e.0 key ≡ true) ⊎ HasKey key es

-- Of the first few pages of a block the newest records are copied to the start of the spare one, the rest of whose 64
-- pages is blank; the block that was filled is full.
pub record IsMoving (pages : Pages) (blocks : ℕ) (s : LayerState) (from to done : ℕ) : Type 0 where
  pub sound : Sound pages blocks s
  pub agreed : IsFalse s.has_rivals
  pub uncleared : IsFalse s.cleared
  pub full : 64 ≤ s.fill
  pub spare : s.spare ≡ to
  pub within : from < blocks
  pub apart : from ≢ to
  pub count : length s.moved.items ≤ done
  pub blank : (p : ℕ) → length s.moved.items ≤ p → p < 64 → pages to p ≡ blank_page
  pub moved : All (IsMoved pages s.table from to (length s.moved.items)) s.moved.items
  pub all : (key : FilePage) (entry : Newest) → known s.table key ≡ Some entry → entry.place.block ≡ from
      → entry.place.page < done → HasKey key s.moved.items

-- the pages denote the files that a flash denoted; where the entries that lead into a block are of one copy, only that
-- copy came to another
pub record StandsMoved (table : Table) (from to : ℕ) (old : FlashMedium) (pages : Pages) : Type 0 where
  pub stands : DenotesFiles old pages
  pub held : (copy : ℕ) → LeadsOnly table copy from
      → KeepsHeld copy to (places old.blocks) old.state.pages pages

-- each entry that leads into a block is one that did
abbrev pub LeadsFewer : (old new : Table) → (block : ℕ) → Type 0
LeadsFewer old new block = (key : FilePage) (entry : Newest) → known new key ≡ Some entry → entry.place.block ≡ block
    → known old key ≡ Some entry

-- Of the first few pages of a block the newest records were copied to the block that is being filled, and the table
-- leads to the copies; the rest of the 64 pages there is blank, and is enough for what is left.
pub record IsJoining (pages : Pages) (blocks : ℕ) (s : LayerState) (from done : ℕ) : Type 0 where
  pub sound : Sound pages blocks s
  pub agreed : IsFalse s.has_rivals
  pub within : from < blocks
  pub apart : from ≢ s.current
  pub blank : (p : ℕ) → s.fill ≤ p → p < 64 → pages s.current p ≡ blank_page
  pub room : s.fill + entries_in s.table from ≤ 64
  pub left : (key : FilePage) (entry : Newest) → known s.table key ≡ Some entry → entry.place.block ≡ from
      → done ≤ entry.place.page

-- after the newest records of a block were moved, those of another may be added to them, if there is room
abbrev pub MayJoin : FlashMedium → (old new : LayerState) → (moved : ℕ) → Type 0
MayJoin m old new moved = (from : ℕ) → from < m.blocks → from ≢ old.spare
    → entries_in old.table moved + entries_in old.table from ≤ 64
    → IsJoining m.state.pages m.blocks new from 0 × LeadsFewer old.table new.table from
