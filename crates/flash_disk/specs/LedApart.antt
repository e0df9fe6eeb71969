-- Tables whose newest records are, block by block, of one copy alone.
use Rattle.std.specs.Prelude.{◌≡◌, ◌≢◌, ℕ, ◌+◌, ◌<◌, ◌≤◌, Some, List, length, slice_index}
use Rattle.std.specs.HashMap.{IsUnique}
use Rattle.flash_disk.specs.declared.table.FilePage.{FilePage}
use Rattle.flash_disk.specs.declared.table.Newest.{Newest}
use Rattle.flash_disk.specs.declared.table.Table.{Table}
use Rattle.flash_disk.specs.Known.{known, same_page, load_known}
use Rattle.flash_disk.specs.Apart.{copy_of}

-- the newest records in each block are of the files of one copy, its owner
abbrev pub IsLedApart : Table → Type 0
IsLedApart table = (owner : ℕ → ℕ) × ((key : FilePage) (entry : Newest) → known table key ≡ Some entry
    → owner entry.place.block ≡ copy_of key.file)

-- every newest record in this block is of a file of this copy
abbrev pub LeadsOnly : Table → (copy block : ℕ) → Type 0
LeadsOnly table copy block = (key : FilePage) (entry : Newest) → known table key ≡ Some entry
    → entry.place.block ≡ block → copy_of key.file ≡ copy

-- some newest record in this block is of a file of this copy
abbrev pub LeadsSome : Table → (copy block : ℕ) → Type 0
LeadsSome table copy block = (key : FilePage) × (entry : Newest) × (known table key ≡ Some entry)
    × (entry.place.block ≡ block) × (copy_of key.file ≡ copy)

-- each page of a file has one entry at most
abbrev pub HasOneEach : Table → Type 0
HasOneEach table = IsUnique same_page table.newest

-- a block is one of those that can be marked, and is not
abbrev pub IsUnmarked : List ℕ → ℕ → Type 0
IsUnmarked marks block = (block < length marks) × (slice_index marks block ≡ 0)

-- two blocks other than the spare one that have newest records of one copy alone, and fewer together than a block has
-- pages
pub record IsPair (table : Table) (spare first second : ℕ) : Type 0 where
  pub copy : ℕ
  pub within : first < table.blocks
  pub second_within : second < table.blocks
  pub other : first ≢ spare
  pub second_other : second ≢ spare
  pub apart : first ≢ second
  pub own : LeadsOnly table copy first
  pub second_own : LeadsOnly table copy second
  pub few : load_known table first + load_known table second < 64

-- no two blocks other than the spare one that have newest records of a copy alone have fewer together
abbrev pub HasNoPair : Table → (spare copy : ℕ) → Type 0
HasNoPair table spare copy = (first second : ℕ) → first < table.blocks → second < table.blocks → first ≢ spare
    → second ≢ spare → first ≢ second → LeadsOnly table copy first → LeadsOnly table copy second
    → 64 ≤ load_known table first + load_known table second
