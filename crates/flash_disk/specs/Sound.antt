-- What a disk over flash keeps in memory, and how it fits what the pages hold. A block has 64 pages, and a page of a
-- file 256 bytes.
use Rattle.std.specs.Prelude.{◌≡◌, ◌≢◌, ◌⊎◌, ℕ, ◌/◌, ◌%◌, ◌+◌, ◌*◌, ◌<◌, ◌≤◌, ◌==◌, ◌&&◌, List, Option, Some, None}
use Rattle.std.specs.Prelude.{IsTrue, IsFalse, length, vec_capacity, slice_index, if◌then◌else◌}
use Rattle.std.specs.HashMap.{spare}
use Rattle.disk_model.specs.Image.{Image}
use Rattle.flash_model.specs.Pages.{Pages, blank_page, TornPage}
use Rattle.flash_model.specs.FlashMedium.{FlashMedium}
use Rattle.flash_record.specs.PageRecord.{PageRecord}
use Rattle.flash_disk.specs.declared.table.FilePage.{FilePage}
use Rattle.flash_disk.specs.declared.table.Newest.{Newest}
use Rattle.flash_disk.specs.declared.table.FlashPage.{FlashPage}
use Rattle.flash_disk.specs.declared.table.Table.{Table}
use Rattle.flash_disk.specs.declared.layer.LayerState.{LayerState}
use Rattle.flash_disk.specs.Newest.{record_at, places, page_count, page_limit, IsSpare, IsUsable}
use Rattle.flash_disk.specs.Known.{known, page_len, limit_of, HasLen}
use Rattle.flash_disk.specs.Counted.{IsCountedTable}
use Rattle.flash_disk.specs.Learnt.{number, KnowsLengths, AddsRecord, HasPlace, Tops}
use Rattle.flash_disk.specs.FlashFiles.{file_byte, file_len, flash_files}
use Rattle.flash_disk.specs.Standing.{IsAgreed, HasRivals, IsStrayless, MayGrow, StaysAgreed}
use Rattle.flash_disk.specs.PutPart.{PutOrNot}
use Rattle.flash_disk.specs.Apart.{copy_of, KeepsHeld}
use Rattle.flash_disk.specs.Emptied.{IsEmptyBlock}

-- the files of a flash
abbrev pub files_on : FlashMedium → Image
files_on m = flash_files m.state.pages m.blocks

-- no entry leads into this block
abbrev pub LeavesOut : Table → ℕ → Type 0
LeavesOut table block = (key : FilePage) (entry : Newest) → known table key ≡ Some entry → entry.place.block ≢ block

-- the same block is being filled, up to the same page, and what was moved is the same
abbrev pub SameFill : LayerState → LayerState → Type 0
SameFill old new = (new.fill ≡ old.fill) × (new.unsure ≡ old.unsure) × (new.moved ≡ old.moved)

-- the page that is to be filled next is blank, and is not in the spare block
pub record HasFreshPage (pages : Pages) (blocks : ℕ) (s : LayerState) : Type 0 where
  pub agreed : IsFalse s.has_rivals
  pub within : s.current < blocks
  pub apart : s.current ≢ s.spare
  pub blank : pages s.current s.fill ≡ blank_page

-- what is kept fits these pages
pub record Sound (pages : Pages) (blocks : ℕ) (s : LayerState) : Type 0 where
  pub knows : KnowsLengths pages (places blocks) s.table
  pub tops : Tops pages (places blocks) s.sequence
  pub strays : IsStrayless pages (places blocks) s.stray_end
  pub limit : limit_of s.table ≡ page_limit blocks
  -- there is memory for the length of a file more for each page more
  pub files : limit_of s.table ≤ page_len s.table + spare s.table.lens
  pub measured : (key : FilePage) (entry : Newest) → known s.table key ≡ Some entry → HasLen s.table key.file
  pub counted : IsCountedTable blocks s.table
  pub count : page_len s.table ≡ page_count pages (places blocks)
  -- there is memory for what is moved out of a block, which may be a record in each of its 64 pages
  pub memory : 64 ≤ vec_capacity s.moved
  -- the spare block may be erased
  pub within : s.spare < blocks
  pub is_spare : IsSpare pages (places blocks) s.spare
  pub agreed : IsFalse s.has_rivals → IsAgreed pages (places blocks)
  pub rivals : IsTrue s.has_rivals → HasRivals pages (places blocks)
  pub apart : IsFalse s.has_rivals → LeavesOut s.table s.spare
  pub fresh : s.fill < 64 → HasFreshPage pages blocks s
  pub empty : IsTrue s.cleared → IsEmptyBlock pages s.spare

-- what is kept fits the pages of a flash
abbrev pub IsSoundLayer : FlashMedium → LayerState → Type 0
IsSoundLayer m s = Sound m.state.pages m.blocks s

-- a record that may be added: there is room for it, and it shows nothing but what it says
pub record MayBeAdded (pages : Pages) (blocks : ℕ) (s : LayerState) (file page len : ℕ) (bytes : List ℕ) : Type 0 where
  pub place : HasPlace s.table (record { file = file; page = page })
  pub no_shorter : file_len pages (places blocks) file ≤ len
  pub zeros : (j : ℕ) → j < 256 → len ≤ 256 * page + j → slice_index bytes j ≡ 0
  pub grows : MayGrow pages (places blocks) file page len

-- the same of the pages of a flash
abbrev pub FitsIn : FlashMedium → LayerState → (file page len : ℕ) → List ℕ → Type 0
FitsIn m s file page len bytes = MayBeAdded m.state.pages m.blocks s file page len bytes

-- the record came to be in this place of the block that is being filled
pub record Enters (old new : Pages) (blocks : ℕ) (s : LayerState) (place : FlashPage) (r : PageRecord) : Type 0 where
  pub adds : AddsRecord old new (places blocks) place r
  pub fits : MayBeAdded old blocks s r.file r.page r.len r.bytes
  pub full : length r.bytes ≡ 256
  pub numbered : r.sequence ≤ s.sequence
  pub elsewhere : TornPage place.block place.page old new
  pub apart : place.block ≢ s.spare
  pub behind : place.block ≡ s.current → place.page < s.fill

-- what a page may hold in which a call that failed may have left anything
pub record Pends (sure pages : Pages) (blocks : ℕ) (s : LayerState) (place : FlashPage) : Type 0 where
  pub agreed : IsFalse s.has_rivals
  pub small : place.page < 64
  pub within : place.block < blocks
  pub apart : place.block ≢ s.spare
  pub behind : place.block ≡ s.current → place.page < s.fill
  pub nothing : record_at sure (number place) ≡ None
  pub elsewhere : TornPage place.block place.page sure pages
  pub may_enter : (r : PageRecord) → record_at pages (number place) ≡ Some r → Enters sure pages blocks s place r

-- the pages are those of which what is kept is sure, but for what the page that is unsure, if one is, may hold
abbrev pub PendsAt : Pages → Pages → ℕ → LayerState → Option FlashPage → Type 0
PendsAt sure pages blocks s None = pages ≡ sure
PendsAt sure pages blocks s (Some place) = Pends sure pages blocks s place

-- what is kept fits the pages but for one that a call that failed may have left anything in
pub record IsDescribedBy (m : FlashMedium) (s : LayerState) : Type 0 where
  pub sure : Pages
  pub sound : Sound sure m.blocks s
  pub pends : PendsAt sure m.state.pages m.blocks s s.unsure

-- the write of a part was done, or nothing was, the pages can be opened, and no rivals came
pub record LeavesPut (file at : ℕ) (bytes : List ℕ) (len : ℕ) (old : FlashMedium) (pages : Pages) : Type 0 where
  pub put : PutOrNot file at bytes len (files_on old) (flash_files pages old.blocks)
  pub usable : IsUsable pages old.blocks
  pub agreed : StaysAgreed old pages

-- and nothing came to be in any block but records of the file's copy in this one
pub record LeavesAdded (block file at : ℕ) (bytes : List ℕ) (len : ℕ) (old : FlashMedium) (pages : Pages) : Type 0 where
  pub put : LeavesPut file at bytes len old pages
  pub held : KeepsHeld (copy_of file) block (places old.blocks) old.state.pages pages

-- no byte of a file shows between its end and this byte
abbrev pub ShowsZeros : FlashMedium → (file until : ℕ) → Type 0
ShowsZeros m file until = (i : ℕ) → file_len m.state.pages (places m.blocks) file ≤ i → i < until
    → file_byte m.state.pages (places m.blocks) file i ≡ 0

-- no byte of any file changed, nor any past the end of it
abbrev pub ShowsSame : FlashMedium → FlashMedium → Type 0
ShowsSame old new = (f i : ℕ) → file_byte new.state.pages (places new.blocks) f i
    ≡ file_byte old.state.pages (places old.blocks) f i

-- a page of a file has these bytes, those past the end of the file too, and all other bytes are what they were
abbrev pub ShowsPage : FlashMedium → FlashMedium → (file page : ℕ) → List ℕ → Type 0
ShowsPage old new file page bytes = (f i : ℕ) → file_byte new.state.pages (places new.blocks) f i
    ≡ (if (f == file && i / 256 == page) then slice_index bytes (i % 256) else file_byte old.state.pages
    (places old.blocks) f i)

-- past the end of a file the bytes of one of its pages are zeros, and all other bytes are what they were
pub record WipesPage (old new : FlashMedium) (file page : ℕ) : Type 0 where
  pub len : (f : ℕ) → file_len new.state.pages (places new.blocks) f ≡ file_len old.state.pages (places old.blocks) f
  pub wiped : (i : ℕ) → i / 256 ≡ page → file_len old.state.pages (places old.blocks) file ≤ i
      → file_byte new.state.pages (places new.blocks) file i ≡ 0
  pub kept : (f i : ℕ) → (f ≢ file) ⊎ (i / 256 ≢ page) → file_byte new.state.pages (places new.blocks) f i
      ≡ file_byte old.state.pages (places old.blocks) f i
