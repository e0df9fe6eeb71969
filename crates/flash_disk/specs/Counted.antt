-- That a table counts for each block how many of its entries lead there.
use Rattle.std.specs.Prelude.{◌≡◌, ℕ, zero, suc, ◌+◌, ◌-◌, ◌*◌, ◌<◌, ◌≤◌, ◌==◌, ◌&&◌, nat_lt, Option, Some, is_none}
use Rattle.std.specs.Prelude.{IfSome, length, unwrap_or, option_map, if◌then◌else◌}
use Rattle.std.specs.List.{sum_by}
use Rattle.std.specs.HashMap.{values}
use Rattle.flash_disk.specs.declared.table.FilePage.{FilePage}
use Rattle.flash_disk.specs.declared.table.Newest.{Newest}
use Rattle.flash_disk.specs.declared.table.Table.{Table}
use Rattle.flash_disk.specs.Known.{known, page_len, limit_of, load_known}

-- 1 where an entry leads into a block, else 0
abbrev pub leads_into : ℕ → Newest → ℕ
leads_into block entry = if entry.place.block == block then 1 else 0

-- the same of an entry that may be missing, which is 0
abbrev pub had_in : ℕ → Option Newest → ℕ
had_in block entry = unwrap_or (option_map (leads_into block) entry) 0

-- how many entries lead into a block
abbrev pub entries_in : Table → ℕ → ℕ
entries_in table block = sum_by (leads_into block) (values table.newest)

-- 1 where an entry leads into the first few pages of a block, else 0
abbrev pub lies_below : (block done : ℕ) → Newest → ℕ
lies_below block done entry = if (entry.place.block == block && nat_lt entry.place.page done) then 1 else 0

-- how many lead into the first few pages of a block
abbrev pub copied_below : Table → (block done : ℕ) → ℕ
copied_below table block done = sum_by (lies_below block done) (values table.newest)

-- how many pages of a file have no entry among n from one on
abbrev pub missing : Table → (file from n : ℕ) → ℕ
missing table file from zero = 0
missing table file from (suc n) = missing table file from n
    + (if is_none (known table (record { file = file; page = from + n })) then 1 else 0)

-- an entry leads into one of these blocks, and its twin is in one
pub record IsInside (blocks : ℕ) (entry : Newest) : Type 0 where
  pub place : entry.place.block < blocks
  pub twin : IfSome entry.twin (λ twin. twin.block < blocks)

-- every entry of a table leads into one of these blocks, and into each block as many lead as the table counts; there
-- are 4 to 4,096 blocks, of 64 pages each, and entries for at most as many pages as all blocks but two have
pub record IsCountedTable (blocks : ℕ) (table : Table) : Type 0 where
  pub some : 4 ≤ blocks
  pub few : blocks ≤ 4096
  pub blocks_are : table.blocks ≡ blocks
  pub loads : length table.load.items ≡ blocks
  pub limit : limit_of table ≡ 64 * (blocks - 2)
  pub fits : page_len table ≤ limit_of table
  pub inside : (key : FilePage) (entry : Newest) → known table key ≡ Some entry → IsInside blocks entry
  pub counts : (block : ℕ) → block < blocks → load_known table block ≡ entries_in table block
