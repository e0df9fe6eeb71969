-- Which records of a flash count: the newest of each page of a file. Places are numbered through, 64 for each block.
use Rattle.std.specs.Prelude.{◌≡◌, ◌≢◌, ◌⊎◌, ℕ, zero, suc, ◌+◌, ◌-◌, ◌*◌, ◌/◌, ◌%◌, ◌<◌, ◌≤◌, ◌==◌, ◌&&◌, Bool, true}
use Rattle.std.specs.Prelude.{false, Option, Some, None, is_none, nat_lt, if◌then◌else◌}
use Rattle.flash_model.specs.Pages.{Pages}
use Rattle.flash_record.specs.PageRecord.{PageRecord, record_in}

-- the record in a place
abbrev pub record_at : Pages → ℕ → Option PageRecord
record_at pages i = record_in (pages (i / 64) (i % 64))

-- a record and its place
pub record Placed : Type 0 where
  pub place : ℕ
  pub says : PageRecord

-- whether a record is of this page of this file
abbrev pub is_of : ℕ → ℕ → PageRecord → Bool
is_of file page r = r.file == file && r.page == page

-- of two records of one page the one with the greater number is newer, and of two with one number the first
abbrev pub newer : Option Placed → Placed → Option Placed
newer None r = Some r
newer (Some best) r = if nat_lt best.says.sequence r.says.sequence then Some r else Some best

-- the newest record of a page once place i is looked at too: what it holds, and the newest one of those before it
abbrev pub with_record : ℕ → ℕ → ℕ → Option PageRecord → Option Placed → Option Placed
with_record file page i None best = best
with_record file page i (Some r) best = if is_of file page r then newer best (record { place = i; says = r }) else best

-- the newest record of a page of a file in the first n places
abbrev pub newest : Pages → ℕ → ℕ → ℕ → Option Placed
newest pages file page zero = None
newest pages file page (suc n) = with_record file page n (record_at pages n) (newest pages file page n)

-- whether this is the first record of its page
abbrev pub opens_page : Pages → ℕ → Option PageRecord → ℕ
opens_page pages n None = 0
opens_page pages n (Some r) = if is_none (newest pages r.file r.page n) then 1 else 0

-- how many pages of files have a record in the first n places, and so how many newest records there are
abbrev pub page_count : Pages → ℕ → ℕ
page_count pages zero = 0
page_count pages (suc n) = page_count pages n + opens_page pages n (record_at pages n)

-- how many places a flash of that many blocks has
abbrev pub places : ℕ → ℕ
places blocks = 64 * blocks

-- the record in place j is the same, and is in another block
pub record IsCopyOf (pages : Pages) (n : ℕ) (x : Placed) (j : ℕ) : Type 0 where
  pub within : j < n
  pub apart : j / 64 ≢ x.place / 64
  pub same : record_at pages j ≡ Some x.says

-- the newest record of its page, of which no other block has a copy
pub record IsNeeded (pages : Pages) (n : ℕ) (x : Placed) : Type 0 where
  pub newest_is : newest pages x.says.file x.says.page n ≡ Some x
  pub alone : (j : ℕ) → IsCopyOf pages n x j → ⊥

-- a block without a needed record
abbrev pub IsSpare : Pages → ℕ → ℕ → Type 0
IsSpare pages n block = (x : Placed) → IsNeeded pages n x → x.place / 64 ≢ block

-- a disk keeps at most that many pages on a flash: as many as all blocks but two have, 64 each
abbrev pub page_limit : ℕ → ℕ
page_limit blocks = 64 * (blocks - 2)

-- a flash that cannot be a disk: it has too many pages of files, or no block is spare
abbrev pub IsUnusable : Pages → ℕ → Type 0
IsUnusable pages blocks = (page_limit blocks < page_count pages (places blocks))
    ⊎ ((block : ℕ) → block < blocks → IsSpare pages (places blocks) block → ⊥)

-- a flash that can be one
pub record IsUsable (pages : Pages) (blocks : ℕ) : Type 0 where
  pub fits : page_count pages (places blocks) ≤ page_limit blocks
  pub block : ℕ
  pub within : block < blocks
  pub spare : IsSpare pages (places blocks) block

-- what makes a record the newest of its page in the first n places: no record of the page has a greater number, and
-- those before it a lesser one
pub record IsNewest (pages : Pages) (file page n : ℕ) (x : Placed) : Type 0 where
  pub of_page : is_of file page x.says ≡ true
  pub within : x.place < n
  pub there : record_at pages x.place ≡ Some x.says
  pub most : (j : ℕ) (r : PageRecord) → j < n → record_at pages j ≡ Some r → is_of file page r ≡ true
      → r.sequence ≤ x.says.sequence
  pub first : (j : ℕ) (r : PageRecord) → j < x.place → record_at pages j ≡ Some r → is_of file page r ≡ true
      → r.sequence < x.says.sequence

-- no record of a page is in the first n places
abbrev pub HasNone : Pages → (file page n : ℕ) → Type 0
HasNone pages file page n = (j : ℕ) (r : PageRecord) → j < n → record_at pages j ≡ Some r → is_of file page r ≡ true → ⊥

-- what makes this the newest record of a page in the first n places, or that there is none
abbrev pub IsNewestOf : Pages → (file page n : ℕ) → Option Placed → Type 0
IsNewestOf pages file page n None = HasNone pages file page n
IsNewestOf pages file page n (Some x) = IsNewest pages file page n x

-- a needed record is in this place
abbrev pub NeedsPlace : Pages → (n i : ℕ) → Type 0
NeedsPlace pages n i = (x : Placed) × IsNeeded pages n x × (x.place ≡ i)

-- a spare block was found, or there is none
abbrev pub FindsSpare : Pages → ℕ → ℕ → Bool → Type 0
FindsSpare pages blocks spare true = (spare < blocks) × IsSpare pages (places blocks) spare
FindsSpare pages blocks spare false = (block : ℕ) → block < blocks → IsSpare pages (places blocks) block → ⊥

-- whether a flash can be a disk
abbrev pub SaysUsable : Pages → ℕ → Bool → Type 0
SaysUsable pages blocks true = IsUsable pages blocks
SaysUsable pages blocks false = IsUnusable pages blocks
