-- How a table is tied to the records on a flash.
use Rattle.std.specs.Prelude.{◌≡◌, ◌≢◌, ◌⊎◌, ℕ, ◌+◌, ◌*◌, ◌<◌, ◌≤◌, Bool, true, false, List, Option, Some, None, IsTrue}
use Rattle.std.specs.Prelude.{IsFalse, IsSome, nat_lt, slice_index, if◌then◌else◌}
use Rattle.flash_model.specs.Pages.{Pages}
use Rattle.flash_disk.specs.declared.table.FilePage.{FilePage}
use Rattle.flash_disk.specs.declared.table.FlashPage.{FlashPage}
use Rattle.flash_disk.specs.declared.table.Newest.{Newest}
use Rattle.flash_disk.specs.declared.table.Table.{Table}
use Rattle.flash_disk.specs.Newest.{Placed, record_at, is_of, newest, page_count, IsCopyOf, IsSpare}
use Rattle.flash_record.specs.PageRecord.{PageRecord}
use Rattle.flash_disk.specs.Known.{known, page_len, limit_of, len_known, HasCapacity}
use Rattle.flash_disk.specs.Standing.{IsRivalled}
use Rattle.flash_disk.specs.FlashFiles.{file_byte, file_len, IsFileLen}

-- the number of a place of the flash: they are counted through, 64 for each block
abbrev pub number : FlashPage → ℕ
number place = 64 * place.block + place.page

-- an entry leads to this record, and says its number, its length and where its last byte other than zero ends
pub record EntryLeadsTo (pages : Pages) (entry : Newest) (x : Placed) : Type 0 where
  pub small : entry.place.page < 64
  pub there : record_at pages (number entry.place) ≡ Some x.says
  pub sequence : entry.sequence ≡ x.says.sequence
  pub len : entry.len ≡ x.says.len
  pub filled : (j : ℕ) → entry.filled ≤ j → slice_index x.says.bytes j ≡ 0

-- a twin is a copy in another block; without a twin there is none
abbrev pub TwinSays : Pages → ℕ → Placed → Option FlashPage → Type 0
TwinSays pages n x None = (j : ℕ) → IsCopyOf pages n x j → ⊥
TwinSays pages n x (Some place) = (place.page < 64) × IsCopyOf pages n x (number place)

-- an entry that is not rivalled: all records of the page that have its greatest number are equal
abbrev pub Unrivalled : Pages → ℕ → Placed → Type 0
Unrivalled pages n x = (j : ℕ) (q : PageRecord) → j < n → record_at pages j ≡ Some q
    → is_of x.says.file x.says.page q ≡ true
    → q.sequence ≡ x.says.sequence → q ≡ x.says

-- while the flash is learnt an entry is that of the newest record itself; records are of pages below 2^32
pub record Learns (pages : Pages) (n : ℕ) (entry : Newest) (x : Placed) : Type 0 where
  pub leads : EntryLeadsTo pages entry x
  pub place : number entry.place ≡ x.place
  pub twin : TwinSays pages n x entry.twin
  pub agreed : IsFalse entry.rivalled → Unrivalled pages n x
  pub rivals : IsTrue entry.rivalled → IsRivalled pages n x
  pub page : x.says.page < 4294967296

-- a page has an entry where it has a record, and only there, and the entry is such
abbrev pub LearnsOf : Pages → ℕ → Option Newest → Option Placed → Type 0
LearnsOf pages n None None = Unit {0}
LearnsOf pages n None (Some x) = ⊥
LearnsOf pages n (Some entry) None = ⊥
LearnsOf pages n (Some entry) (Some x) = Learns pages n entry x

-- the table has learnt the first n places
pub record HasLearnt (pages : Pages) (n : ℕ) (table : Table) : Type 0 where
  pub says : (key : FilePage) → LearnsOf pages n (known table key) (newest pages key.file key.page n)
  pub count : page_len table ≡ page_count pages n
  pub room : HasCapacity table
  pub fits : page_len table ≤ limit_of table

-- one place more is learnt, or there are more pages than there is room for
abbrev pub LearnsNext : Pages → ℕ → Table → Table → Bool → Type 0
LearnsNext pages n old new true = HasLearnt pages n new
LearnsNext pages n old new false = limit_of old < page_count pages n

-- the two records of one page and one number are equal
abbrev pub SaysTheSame : PageRecord → PageRecord → Type 0
SaysTheSame a b = (a.len ≡ b.len) × (a.bytes ≡ b.bytes)

-- where the twin is after a record with the newest one's number was found in this place: there, if it is equal and in
-- another block
pub record TwinAt (first : Option PageRecord) (r : PageRecord) (old : Newest) (place : FlashPage)
    (twin : Option FlashPage) : Type 0 where
  pub same_block : place.block ≡ old.place.block → twin ≡ old.twin
  pub equal : (q : PageRecord) → first ≡ Some q → place.block ≢ old.place.block → SaysTheSame q r → twin ≡ Some place
  pub other : (q : PageRecord) → first ≡ Some q → (SaysTheSame q r → ⊥) → twin ≡ old.twin

-- whether the newest record is rivalled after a record with its number was found: where it is not, the two are equal
pub record RivalledAt (first : Option PageRecord) (r : PageRecord) (old : Newest) (rivalled : Bool) : Type 0 where
  pub no_rivals : IsFalse rivalled → IsFalse old.rivalled × ((q : PageRecord) → first ≡ Some q → SaysTheSame q r)
  pub rivals : IsTrue rivalled → IsTrue old.rivalled ⊎ ((q : PageRecord) → first ≡ Some q → SaysTheSame q r → ⊥)

-- all these places are learnt, and there are not too many pages; or there are
abbrev pub LearnsAll : Pages → (n limit : ℕ) → Table → Bool → Type 0
LearnsAll pages n limit table true = HasLearnt pages n table
LearnsAll pages n limit table false = limit < page_count pages n

-- an entry leads to a record that is equal to the newest one
pub record Led (pages : Pages) (n : ℕ) (entry : Newest) (x : Placed) : Type 0 where
  pub within : number entry.place < n
  pub leads : EntryLeadsTo pages entry x

-- a page has an entry where it has a record, and only there, and the entry leads to one that is equal to the newest
abbrev pub LedOf : Pages → ℕ → Option Newest → Option Placed → Type 0
LedOf pages n None None = Unit {0}
LedOf pages n None (Some x) = ⊥
LedOf pages n (Some entry) None = ⊥
LedOf pages n (Some entry) (Some x) = Led pages n entry x

-- an entry while its block is left: it is still that of the newest record itself, or leads to an equal one outside of
-- the block
pub record IsLeavingBlock (pages : Pages) (n block : ℕ) (entry : Newest) (x : Placed) : Type 0 where
  pub led : Led pages n entry x
  pub twin : TwinSays pages n x entry.twin
  pub agreed : IsFalse entry.rivalled → Unrivalled pages n x
  pub rivals : IsTrue entry.rivalled → IsRivalled pages n x
  pub page : x.says.page < 4294967296
  pub moved : (number entry.place ≡ x.place) ⊎ (entry.place.block ≢ block)

-- a page has an entry where it has a record, and only there, and the entry is such
abbrev pub LeavesOf : Pages → (n block : ℕ) → Option Newest → Option Placed → Type 0
LeavesOf pages n block None None = Unit {0}
LeavesOf pages n block None (Some x) = ⊥
LeavesOf pages n block (Some entry) None = ⊥
LeavesOf pages n block (Some entry) (Some x) = IsLeavingBlock pages n block entry x

-- a table that leads to the newest records while a block is left, to the first few pages of which no entry leads any
-- more
pub record IsLeaving (pages : Pages) (n block done : ℕ) (table : Table) : Type 0 where
  pub says : (key : FilePage) → LeavesOf pages n block (known table key) (newest pages key.file key.page n)
  pub out : (key : FilePage) (entry : Newest) → known table key ≡ Some entry → entry.place.block ≡ block
      → done ≤ entry.place.page
  pub room : HasCapacity table
  pub fits : page_len table ≤ limit_of table

-- pages more of a spare block are left
abbrev pub LeavesBlock : Pages → (n block done next : ℕ) → Table → Table → Type 0
LeavesBlock pages n block done next old new = IsSpare pages n block → IsLeaving pages n block done old
    → IsLeaving pages n block next new

-- the table leads from each page of a file to its newest record, or an equal one
pub record IsLed (pages : Pages) (n : ℕ) (table : Table) : Type 0 where
  pub says : (key : FilePage) → LedOf pages n (known table key) (newest pages key.file key.page n)
  pub room : HasCapacity table
  pub fits : page_len table ≤ limit_of table

-- it also knows how long each file is
pub record KnowsLengths (pages : Pages) (n : ℕ) (table : Table) : Type 0 where
  pub led : IsLed pages n table
  pub lens : (file : ℕ) → IsFileLen pages n file (len_known table file)

-- the 256 bytes of a page of a file, with zeros past the end of the file
abbrev pub IsContent : Pages → ℕ → FilePage → List ℕ → Type 0
IsContent pages n key bytes = (j : ℕ) → j < 256
    → slice_index bytes j ≡ (if nat_lt (256 * key.page + j) (file_len pages n key.file) then file_byte pages n key.file
    (256 * key.page + j) else 0)

-- a record came to be where none was, newer than all others
pub record AddsRecord (old new : Pages) (n : ℕ) (place : FlashPage) (r : PageRecord) : Type 0 where
  pub small : place.page < 64
  pub within : number place < n
  pub nothing : record_at old (number place) ≡ None
  pub here : record_at new (number place) ≡ Some r
  pub elsewhere : (j : ℕ) → j ≢ number place → record_at new j ≡ record_at old j
  pub newer : (j : ℕ) (q : PageRecord) → j < n → record_at old j ≡ Some q → q.sequence < r.sequence

-- the table has an entry for the page, or room for one more
abbrev pub HasPlace : Table → FilePage → Type 0
HasPlace table key = IsSome (known table key) ⊎ (page_len table < limit_of table)

-- no record has a greater number
abbrev pub Tops : Pages → (n top : ℕ) → Type 0
Tops pages n top = (j : ℕ) (q : PageRecord) → j < n → record_at pages j ≡ Some q → q.sequence ≤ top

-- this is the greatest number of a record; 0 where there is no record
pub record IsTop (pages : Pages) (n top : ℕ) : Type 0 where
  pub most : Tops pages n top
  pub one : (top ≡ 0) ⊎ ((j : ℕ) × (q : PageRecord) × (j < n) × (record_at pages j ≡ Some q) × (q.sequence ≡ top))
