-- What stays of a flash when pages change: the records that count, and the files that they denote.
use Rattle.std.specs.Prelude.{◌≡◌, ◌≢◌, ℕ, ◌/◌, ◌<◌, ◌≤◌, true, Option, Some, None}
use Rattle.flash_model.specs.Pages.{Pages}
use Rattle.flash_record.specs.PageRecord.{PageRecord}
use Rattle.flash_model.specs.FlashMedium.{FlashMedium}
use Rattle.flash_disk.specs.Newest.{Placed, record_at, is_of, newest, places, IsUsable}
use Rattle.flash_disk.specs.FlashFiles.{file_byte, file_len, flash_files}

-- what the newest record of a page says
abbrev pub said : Option Placed → Option PageRecord
said None = None
said (Some x) = Some x.says

-- all records of a page that have its greatest number are equal, so that it does not matter which of them counts
abbrev pub IsAgreed : Pages → ℕ → Type 0
IsAgreed pages n = (file page : ℕ) (x : Placed) → newest pages file page n ≡ Some x
    → (j : ℕ) (q : PageRecord) → j < n → record_at pages j ≡ Some q → is_of file page q ≡ true
    → q.sequence ≡ x.says.sequence → q ≡ x.says

-- another record of the page has the number of this one and says something else
pub record IsRivalled (pages : Pages) (n : ℕ) (x : Placed) : Type 0 where
  pub place : ℕ
  pub says : PageRecord
  pub within : place < n
  pub there : record_at pages place ≡ Some says
  pub of_page : is_of x.says.file x.says.page says ≡ true
  pub number : says.sequence ≡ x.says.sequence
  pub differs : says ≢ x.says

-- two records of one page that have its greatest number differ
abbrev pub HasRivals : Pages → ℕ → Type 0
HasRivals pages n = (file page : ℕ) × (x : Placed) × (newest pages file page n ≡ Some x) × IsRivalled pages n x

-- no record came that was not there, and of each newest record one is left
pub record KeepsRecords (old new : Pages) (n : ℕ) : Type 0 where
  pub only : (j : ℕ) (q : PageRecord) → j < n → record_at new j ≡ Some q
      → (k : ℕ) × (k < n) × (record_at old k ≡ Some q)
  pub stays : (file page : ℕ) (x : Placed) → newest old file page n ≡ Some x
      → (k : ℕ) × (k < n) × (record_at new k ≡ Some x.says)

-- no rivals came: the records agree if those of the flash did
abbrev pub StaysAgreed : FlashMedium → Pages → Type 0
StaysAgreed old pages = IsAgreed old.state.pages (places old.blocks) → IsAgreed pages (places old.blocks)

-- the pages denote the files that a flash denoted, they can be opened, and no rivals came
pub record DenotesFiles (old : FlashMedium) (pages : Pages) : Type 0 where
  pub files_are : flash_files pages old.blocks ≡ flash_files old.state.pages old.blocks
  pub usable : IsUsable pages old.blocks
  pub agreed : StaysAgreed old pages

-- no byte shows that is past the end of its file, from this byte on
abbrev pub IsStrayless : Pages → (n from : ℕ) → Type 0
IsStrayless pages n from = (file i : ℕ) → file_len pages n file ≤ i → from ≤ i → file_byte pages n file i ≡ 0

-- a file may grow to this length by a record of this page of it, of 256 bytes: no other byte past its end shows
abbrev pub MayGrow : Pages → (n file page len : ℕ) → Type 0
MayGrow pages n file page len = (i : ℕ) → file_len pages n file ≤ i → i < len → i / 256 ≢ page
    → file_byte pages n file i ≡ 0
