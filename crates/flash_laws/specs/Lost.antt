-- What a loss of pages leaves, wherever they were and whatever was in them: what was elsewhere is as it was, and
-- what was there blank or older. It is said of any number of blocks and of copies, so also of one. `old`, `new` are the
-- pages before and after the loss, of which the first n, 64 for each block, are looked at. A record *counts* that is
-- the newest of its page of a file (`newest`).
use Rattle.std.specs.Prelude.{◌≡◌, ◌⊎◌, ℕ, ◌/◌, ◌%◌, ◌<◌, ◌≤◌, Bool, true, Option, Some, None, slice_index}
use Rattle.flash_model.specs.Pages.{Pages}
use Rattle.flash_record.specs.PageRecord.{PageRecord, record_in}
use Rattle.flash_disk.specs.Apart.{copy_of, HoldsOneCopy}
use Rattle.flash_disk.specs.FlashFiles.{file_byte, file_len}
use Rattle.flash_disk.specs.Newest.{Placed, record_at, is_of, newest}

-- each record that counted for a page of this file is where it was
abbrev pub SparesFile : (old new : Pages) → (n file : ℕ) → Type 0
SparesFile old new n file = (page : ℕ) (x : Placed) → newest old file page n ≡ Some x
    → record_at new x.place ≡ Some x.says

-- of each record that counted for a page of this file an equal one is left
abbrev pub LeavesFileWhole : (old new : Pages) → (n file : ℕ) → Type 0
LeavesFileWhole old new n file = (page : ℕ) (x : Placed) → newest old file page n ≡ Some x
    → (j : ℕ) × (j < n) × (record_at new j ≡ Some x.says)

-- r is a record of this page that was there before the loss, no newer than the one that counted
pub record IsNoNewer (old : Pages) (n file page : ℕ) (counted : Placed) (r : PageRecord) : Type 0 where
  pub place : ℕ
  pub within : place < n
  pub there : record_at old place ≡ Some r
  pub of_page : is_of file page r ≡ true
  pub number : r.sequence ≤ counted.says.sequence

-- What counts of a page after the loss (`is`) is what counted before (`was`); or that was lost, and nothing counts, or
-- a record that was there, no newer than it. Where nothing counted nothing does.
abbrev pub IsPageLeft : (old new : Pages) → (n file page : ℕ) → (was is : Option Placed) → Type 0
IsPageLeft old new n file page None is = is ≡ None
IsPageLeft old new n file page (Some x) None = record_at new x.place ≡ None
IsPageLeft old new n file page (Some x) (Some y) = (y ≡ x)
    ⊎ ((record_at new x.place ≡ None) × IsNoNewer old n file page x y.says)

-- the record that counted for this page was lost, and `byte`, which is now the byte `at` of the page, is a zero, or
-- that of a record that was there, no newer than it
pub record IsOlderByte (old new : Pages) (n file page at byte : ℕ) : Type 0 where
  pub counted : Placed
  pub counted_is : newest old file page n ≡ Some counted
  pub lost : record_at new counted.place ≡ None
  pub is : (byte ≡ 0) ⊎ ((r : PageRecord) × IsNoNewer old n file page counted r × (byte ≡ slice_index r.bytes at))

-- the byte i of a file is as it was, or older; a page of a file has 256 bytes
abbrev pub IsKeptByte : (old new : Pages) → (n file i : ℕ) → Type 0
IsKeptByte old new n file i = (file_byte new n file i ≡ file_byte old n file i)
    ⊎ IsOlderByte old new n file (i / 256) (i % 256) (file_byte new n file i)

-- a file is empty, or as long as a record of it says that was there, no newer than the one that counted for its page
abbrev pub IsKeptLength : (old new : Pages) → (n file : ℕ) → Type 0
IsKeptLength old new n file = (file_len new n file ≡ 0) ⊎ ((page : ℕ) × (counted : Placed) × (r : PageRecord)
    × (newest old file page n ≡ Some counted) × IsNoNewer old n file page counted r × (file_len new n file ≡ r.len))

-- ---- of some copies

-- pages were lost, each in a block that held one copy alone (`own`), of those that `lost` names; all others are as they
-- were
abbrev pub LosesOfCopies : (lost : ℕ → Bool) → (n : ℕ) → (old new : Pages) → Type 0
LosesOfCopies lost n old new = (b p : ℕ) → (new b p ≡ old b p)
    ⊎ ((record_in (new b p) ≡ None) × (own : ℕ) × HoldsOneCopy old n b own × (lost own ≡ true))

-- ---- more than one loss

-- each block has records of one copy alone, also older ones
abbrev pub ArePure : Pages → (n : ℕ) → Type 0
ArePure pages n = (block : ℕ) → (copy : ℕ) × ((j : ℕ) (r : PageRecord) → j < n → j / 64 ≡ block
    → record_at pages j ≡ Some r → copy_of r.file ≡ copy)

-- records of one page that have one number are equal, also older ones
abbrev pub AgreeThroughout : Pages → (n : ℕ) → Type 0
AgreeThroughout pages n = (i j : ℕ) (q r : PageRecord) → i < n → j < n → record_at pages i ≡ Some q
    → record_at pages j ≡ Some r → q.file ≡ r.file → q.page ≡ r.page → q.sequence ≡ r.sequence → q ≡ r
