-- What a table says of the newest records.
use Rattle.std.specs.Prelude.{◌≡◌, ◌⊎◌, ℕ, ◌+◌, ◌*◌, ◌<◌, ◌≤◌, ◌&&◌, ◌==◌, Bool, List, Option, Some, None, max, nat_eq}
use Rattle.std.specs.Prelude.{is_some, unwrap_or, slice_index, IsSome, if◌then◌else◌}
use Rattle.std.specs.HashMap.{HashMap, get, hash_map_len, spare}
use Rattle.std.specs.Map.{update_all}
use Rattle.flash_record.specs.PageRecord.{PageRecord}
use Rattle.flash_disk.specs.declared.table.FilePage.{FilePage}
use Rattle.flash_disk.specs.declared.table.Newest.{Newest}
use Rattle.flash_disk.specs.declared.table.Table.{Table}

-- whether two are one page of one file
abbrev pub same_page : FilePage → FilePage → Bool
same_page a b = nat_eq a.file b.file && nat_eq a.page b.page

-- what the table has for a page
abbrev pub known : Table → FilePage → Option Newest
known table key = get same_page table.newest key

-- the page of a record
abbrev pub page_of : PageRecord → FilePage
page_of r = record { file = r.file; page = r.page }

-- for how many pages a table has something
abbrev pub page_len : Table → ℕ
page_len table = hash_map_len table.newest

-- for how many pages a table may have something
abbrev pub limit_of : Table → ℕ
limit_of table = table.limit

-- a table has memory for as many pages as it may have something of
abbrev pub HasCapacity : Table → Type 0
HasCapacity table = table.limit ≤ hash_map_len table.newest + spare table.newest

-- how long a file is by a table of lengths
abbrev pub len_in : {S : Type 0} → HashMap ℕ ℕ S → ℕ → ℕ
len_in lens file = unwrap_or (get nat_eq lens file) 0

-- a table of lengths has one for this file
abbrev pub HasLenIn : {S : Type 0} → HashMap ℕ ℕ S → ℕ → Type 0
HasLenIn lens file = IsSome (get nat_eq lens file)

-- a table has a length for this file
abbrev pub HasLen : Table → ℕ → Type 0
HasLen table file = HasLenIn table.lens file

-- how long a file is by the table
abbrev pub len_known : Table → ℕ → ℕ
len_known table file = len_in table.lens file

-- how many pages the table says that it takes to move the newest records of a block
abbrev pub load_known : Table → ℕ → ℕ
load_known table block = slice_index table.load.items block

-- a page now has this entry, and all others have what they had
pub record SetsEntry (old new : Table) (key : FilePage) (entry : Newest) : Type 0 where
  pub known_is : (k : FilePage) → known new k ≡ (if same_page key k then Some entry else known old k)
  pub len : page_len new ≡ page_len old + (if is_some (known old key) then 0 else 1)
  pub room : HasCapacity old → HasCapacity new
  pub fits : page_len old ≤ limit_of old → page_len new ≤ limit_of new

-- all pages have the entries that they had
pub record SameRecords (old new : Table) : Type 0 where
  pub known_is : (k : FilePage) → known new k ≡ known old k
  pub len : page_len new ≡ page_len old
  pub room : HasCapacity old → HasCapacity new
  pub fits : page_len old ≤ limit_of old → page_len new ≤ limit_of new

-- both have room for as many pages, the same lengths of files, and as many blocks
pub record SameBounds (old new : Table) : Type 0 where
  pub limit : limit_of new ≡ limit_of old
  pub lens : new.lens ≡ old.lens
  pub blocks : new.blocks ≡ old.blocks

-- the table with entries put in one after the other, each for a page that has one
abbrev pub PutsAll : Table → Table → List (FilePage × Newest) → Type 0
PutsAll old new news = (k : FilePage) → known new k ≡ update_all same_page (known old) news k

-- a file is now at least so long, and all others are as long as they were
abbrev pub Lengthens : Table → Table → ℕ → ℕ → Type 0
Lengthens old new file len = (f : ℕ) → len_known new f
    ≡ (if f == file then max (len_known old f) len else len_known old f)

-- every file is as long as it was
abbrev pub SameLens : Table → Table → Type 0
SameLens old new = (f : ℕ) → len_known new f ≡ len_known old f

-- the greatest length that an entry for a page of the file says; 0 where there is no entry
pub record IsLongest {S : Type 0} (entries : HashMap FilePage Newest S) (file len : ℕ) : Type 0 where
  pub most : (key : FilePage) (entry : Newest) → get same_page entries key ≡ Some entry → key.file ≡ file
      → entry.len ≤ len
  pub one : (len ≡ 0) ⊎ ((key : FilePage) × (entry : Newest) × (get same_page entries key ≡ Some entry)
      × (key.file ≡ file) × (len ≡ entry.len))

-- a table has nothing of any page, and memory for the lengths of as many files as pages
pub record IsEmptyTable (table : Table) : Type 0 where
  pub nothing : (key : FilePage) → known table key ≡ None
  pub len : page_len table ≡ 0
  pub room : HasCapacity table
  pub lens : (file : ℕ) → len_known table file ≡ 0
  pub len_room : table.limit ≤ spare table.lens

-- the bytes of a record that an entry says, other than zeros, end within its file or by this byte; records are of pages
-- below 2^32, each of 256 bytes
abbrev pub IsFilledUpTo : {S : Type 0} → HashMap ℕ ℕ S → FilePage → Newest → ℕ → Type 0
IsFilledUpTo lens key entry end = key.page < 4294967296 → 0 < entry.filled
    → (256 * key.page + entry.filled ≤ len_in lens key.file) ⊎ (256 * key.page + entry.filled ≤ end)
