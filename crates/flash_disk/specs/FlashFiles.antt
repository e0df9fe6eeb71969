-- What a flash denotes as files: each has the bytes of its newest records, cut to the greatest length that one of
-- these says.
use Rattle.std.specs.Prelude.{◌≡◌, ◌⊎◌, ℕ, zero, suc, ◌/◌, ◌%◌, ◌≤◌, ◌==◌, ◌&&◌, Bool, false, max, map, Option, Some}
use Rattle.std.specs.Prelude.{None, slice_index, if◌then◌else◌}
use Rattle.std.specs.List.{range_with_len}
use Rattle.disk_model.specs.Image.{Image}
use Rattle.flash_model.specs.Pages.{Pages}
use Rattle.flash_record.specs.PageRecord.{PageRecord}
use Rattle.flash_disk.specs.Newest.{Placed, record_at, newest, places}

-- a byte of a record; where there is none, zeros
abbrev pub record_byte : Option PageRecord → ℕ → ℕ
record_byte None i = 0
record_byte (Some r) i = slice_index r.bytes i

-- a byte of a page of a file; a page without a record is zeros
abbrev pub byte_in : Option Placed → ℕ → ℕ
byte_in None i = 0
byte_in (Some x) i = slice_index x.says.bytes i

-- byte i of a file, as long as the file reaches there: a page of a file has 256 bytes
abbrev pub file_byte : Pages → (n file i : ℕ) → ℕ
file_byte pages n file i = byte_in (newest pages file (i / 256) n) (i % 256)

-- whether there is a record, and it is in place i
abbrev pub lies_at : ℕ → Option Placed → Bool
lies_at i None = false
lies_at i (Some x) = x.place == i

-- the length that the record in place i says, if it is the newest of a page of the file
abbrev pub len_in_place : Pages → (n file i : ℕ) → Option PageRecord → ℕ
len_in_place pages n file i None = 0
len_in_place pages n file i (Some r) = if (r.file == file && lies_at i (newest pages r.file r.page n)) then r.len else 0

-- the greatest of these lengths in the first k places
abbrev pub longest_below : Pages → (n file k : ℕ) → ℕ
longest_below pages n file zero = 0
longest_below pages n file (suc k) = max (longest_below pages n file k)
    (len_in_place pages n file k (record_at pages k))

-- how long a file is
unfoldable pub file_len : Pages → (n file : ℕ) → ℕ
file_len pages n file = longest_below pages n file n

-- the files of a flash of that many blocks
unfoldable pub flash_files : Pages → ℕ → Image
flash_files pages blocks file = map (file_byte pages (places blocks) file)
    (range_with_len 0 (file_len pages (places blocks) file))

-- what makes a number the length of a file: no newest record of a page of it says more, and one says as much, unless it
-- is empty
pub record IsFileLen (pages : Pages) (n file len : ℕ) : Type 0 where
  pub most : (page : ℕ) (x : Placed) → newest pages file page n ≡ Some x → x.says.len ≤ len
  pub one : (len ≡ 0) ⊎ ((page : ℕ) × (x : Placed) × (newest pages file page n ≡ Some x) × (len ≡ x.says.len))
