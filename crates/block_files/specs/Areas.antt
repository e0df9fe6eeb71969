-- What the blocks of an area hold: the bytes of a content, read from blocks or put into them. An area file is a row of
-- blocks of 256 bytes, numbered from 0; a content is stored in a list of them, in order, the last one filled in
-- part. `file` is the bytes of an area file.
use Rattle.std.specs.Prelude.{◌≡◌, ℕ, ◌+◌, ◌-◌, ◌*◌, ◌<◌, min, List, [], ◌∷◌, ◌++◌, length, take, drop, replicate}
use Rattle.std.specs.Prelude.{slice_index, flat_map, Bool, true, false, ◌&&◌, ◌||◌, nat_eq, nat_le}
use Rattle.disk_model.specs.Image.{Image}
use Rattle.disk_model.specs.Place.{area}
use Rattle.disk_model.specs.declared.place.Place.{Place}
use Rattle.block_files.specs.Parts.{is_changed}

-- the 256 bytes of the k-th block of an area file, with zeros past the file's end
abbrev pub block : List ℕ → ℕ → List ℕ
block file k = take 256 (drop (256 * k) file ++ replicate 256 0)

-- the bytes of an area file's blocks of these numbers, joined and cut to that many bytes
abbrev pub joined : List ℕ → List ℕ → ℕ → List ℕ
joined file blocks len = take len (flat_map (block file) blocks)

-- whether a file of this size in bytes reaches to the end of each byte of a content of `len` bytes in these blocks
abbrev pub is_within : ℕ → List ℕ → ℕ → Bool
is_within size [] len = true
is_within size (k ∷ blocks) len = nat_eq len 0 || (nat_le (256 * k + min 256 len) size
    && is_within size blocks (len - 256))

-- the same of a file with these bytes
abbrev pub has_all_bytes : List ℕ → List ℕ → ℕ → Bool
has_all_bytes file blocks len = is_within (length file) blocks len

-- the area file has these bytes in these blocks, all of them within the file
pub record IsFull (file blocks bytes : List ℕ) : Type 0 where
  pub bytes_are : joined file blocks (length bytes) ≡ bytes
  pub inside : has_all_bytes file blocks (length bytes) ≡ true

-- the area file of the copy of this number, counted from 1
abbrev pub area_of : Place → (number : ℕ) → ℕ
area_of place number = area place (number - 1)

-- every copy of a place has these bytes in these blocks of its area file
abbrev pub AllFull : Place → (blocks bytes : List ℕ) → Image → Type 0
AllFull place blocks bytes image = (c : ℕ) → c < place.copies → IsFull (image (area place c)) blocks bytes

-- each of these copies, counted from 1, has these bytes in these blocks of its area file
abbrev pub NamedFull : Place → (copies blocks bytes : List ℕ) → Image → Type 0
NamedFull place copies blocks bytes image = (i : ℕ) → i < length copies
    → IsFull (image (area_of place (slice_index copies i))) blocks bytes

-- ---- byte by byte

-- the i-th of the blocks has the bytes of the content's i-th part of 256 bytes, and the file reaches to their end
abbrev pub HoldsPart : (file blocks bytes : List ℕ) (i : ℕ) → Type 0
HoldsPart file blocks bytes i = (j : ℕ) → j < 256 → 256 * i + j < length bytes
    → (256 * slice_index blocks i + j < length file) × (slice_index file (256 * slice_index blocks i + j)
    ≡ slice_index bytes (256 * i + j))

-- each block has its part
abbrev pub HoldsBytes : (file blocks bytes : List ℕ) → Type 0
HoldsBytes file blocks bytes = (i : ℕ) → i < length blocks → HoldsPart file blocks bytes i

-- each block whose part is the same in the earlier content `was` has that part already
abbrev pub HoldsShared : (file blocks bytes was : List ℕ) → Type 0
HoldsShared file blocks bytes was = (i : ℕ) → i < length blocks → is_changed bytes was i ≡ false
    → HoldsPart file blocks bytes i
