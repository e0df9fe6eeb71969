-- For which pages a table has entries, and whether there is room for more.
use Rattle.std.specs.Prelude.{◌≡◌, ℕ, ◌+◌, ◌≤◌, true, is_some, if◌then◌else◌}
use Rattle.flash_disk.specs.declared.table.FilePage.{FilePage}
use Rattle.flash_disk.specs.declared.table.Table.{Table}
use Rattle.flash_disk.specs.Known.{same_page, known, page_len, limit_of}
use Rattle.flash_disk.specs.Counted.{missing}

-- both have entries of the same pages, and as much room
pub record SameEntries (old new : Table) : Type 0 where
  pub has : (key : FilePage) → is_some (known new key) ≡ is_some (known old key)
  pub len : page_len new ≡ page_len old
  pub limit : limit_of new ≡ limit_of old

-- this page has an entry now, and of the others those that had one
pub record Occupies (old new : Table) (key : FilePage) : Type 0 where
  pub has : (k : FilePage) → is_some (known new k) ≡ (if same_page key k then true else is_some (known old k))
  pub len : page_len new ≡ page_len old + (if is_some (known old key) then 0 else 1)
  pub limit : limit_of new ≡ limit_of old

-- there is room for each of n pages of a file from one on
abbrev pub Affords : Table → (file from n : ℕ) → Type 0
Affords table file from n = missing table file from n + page_len table ≤ limit_of table
