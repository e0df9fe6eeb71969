-- Blocks in which nothing is, and what erasing makes of one: while some block is empty, no loss of pages leaves none to
-- spare.
use Rattle.std.specs.Prelude.{◌≡◌, ◌⊎◌, ℕ, ◌<◌, None, Some}
use Rattle.flash_model.specs.Pages.{Pages, blank_page, TornBlock}
use Rattle.flash_record.specs.PageRecord.{PageRecord, record_in}
use Rattle.flash_disk.specs.Newest.{record_at}

-- each of the 64 pages of a block is blank
abbrev pub IsEmptyBlock : Pages → ℕ → Type 0
IsEmptyBlock pages block = (p : ℕ) → p < 64 → pages block p ≡ blank_page

-- some block of a flash of that many blocks is empty
abbrev pub HasEmptyBlock : Pages → ℕ → Type 0
HasEmptyBlock pages blocks = (block : ℕ) × (block < blocks) × IsEmptyBlock pages block

-- what erasing a block leaves, whole or cut short: no record came, and outside the block each page is as it was
pub record Empties (block : ℕ) (old left : Pages) : Type 0 where
  pub only : (j : ℕ) (q : PageRecord) → record_at left j ≡ Some q → record_at old j ≡ Some q
  pub elsewhere : TornBlock block old left

-- pages anywhere were lost: each is as it was, or no record any more
abbrev pub LosesAnyPages : (old new : Pages) → Type 0
LosesAnyPages old new = (b p : ℕ) → (new b p ≡ old b p) ⊎ (record_in (new b p) ≡ None)
