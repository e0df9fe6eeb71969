-- Files that are kept where others are given up, and a flash as it is without the records of the others.
use Rattle.std.specs.Prelude.{◌≡◌, ℕ, ◌<◌, ◌&&◌, Bool, true, List, [], Option, Some, None, nat_le, nat_lt}
use Rattle.std.specs.Prelude.{if◌then◌else◌}
use Rattle.std.specs.List.{list_any}
use Rattle.disk_model.specs.Image.{Image}
use Rattle.flash_model.specs.Pages.{Pages, blank_page}
use Rattle.flash_record.specs.PageRecord.{PageRecord, record_in}
use Rattle.flash_disk.specs.declared.forgetting.FileRange.{FileRange}
use Rattle.flash_disk.specs.Newest.{record_at}

-- a file is in a range
abbrev pub lies_in : ℕ → FileRange → Bool
lies_in file range = nat_le range.first file && nat_lt file range.end

-- a file is in one of some ranges
abbrev pub in_ranges : List FileRange → ℕ → Bool
in_ranges ranges file = list_any (lies_in file) ranges

-- a page has no record of a file that is given up
abbrev pub spares_record : (kept : ℕ → Bool) → Option PageRecord → Bool
spares_record kept None = true
spares_record kept (Some r) = kept r.file

-- the pages as if each with a record of a file that is given up were blank
abbrev pub only_kept : (kept : ℕ → Bool) → Pages → Pages
only_kept kept pages b p = if spares_record kept (record_in (pages b p)) then pages b p else blank_page

-- none of the 64 pages of a block has a record of a file that is given up
abbrev pub HoldsKept : (kept : ℕ → Bool) → Pages → (block : ℕ) → Type 0
HoldsKept kept pages block = (p : ℕ) → p < 64 → spares_record kept (record_in (pages block p)) ≡ true

-- the files that are kept, and nothing in any other
abbrev pub kept_image : (kept : ℕ → Bool) → Image → Image
kept_image kept image file = if kept file then image file else []

-- each record of the new pages was one of the old
abbrev pub ComesFrom : (old new : Pages) → (n : ℕ) → Type 0
ComesFrom old new n = (j : ℕ) (q : PageRecord) → j < n → record_at new j ≡ Some q
    → (k : ℕ) × (k < n) × (record_at old k ≡ Some q)
