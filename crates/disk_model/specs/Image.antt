-- What the files of a disk hold at one moment, and what a write makes of them, whole or torn.
use Rattle.std.specs.Prelude.{◌≡◌, ◌≢◌, ◌⊎◌, ℕ, ◌+◌, ◌-◌, ◌<◌, ◌≤◌, ◌==◌, max, List, ◌++◌, length, take, drop}
use Rattle.std.specs.Prelude.{replicate, slice_index, if◌then◌else◌}

-- the bytes of each file by its number; a file that was never written is empty
abbrev pub Image : Type 0
Image = ℕ → List ℕ

-- the end of a range of n bytes from the byte `at` on: the place after its last byte, and 0 where it has none
abbrev pub end_of : ℕ → ℕ → ℕ
end_of at n = if n == 0 then 0 else at + n

-- the bytes of a file, which held `old`, after `bytes` were written whole from the byte `at` on: a gap before them
-- reads as zeros, and a write of no bytes changes nothing
unfoldable pub put_bytes : List ℕ → ℕ → List ℕ → List ℕ
put_bytes old at bytes = if length bytes == 0 then old
    else (take at (old ++ replicate (at - length old) 0) ++ bytes ++ drop (at + length bytes) old)

-- the image after a whole write of these bytes into a file (its number) from the byte `at` on
abbrev pub put_image : Image → ℕ → ℕ → List ℕ → Image
put_image image file at bytes f = if f == file then put_bytes (image f) at bytes else image f

-- the bytes of a file, old and new, about a write of n bytes from the byte `at` on that was cut short: the range and
-- what is past the old end may hold anything, and the new end is from the old one up to that of the whole write
pub record Torn (at n : ℕ) (old new : List ℕ) : Type 0 where
  pub kept : (i : ℕ) → i < length old → (i < at) ⊎ (at + n ≤ i) → slice_index new i ≡ slice_index old i
  pub no_shorter : length old ≤ length new
  pub no_longer : length new ≤ max (length old) (end_of at n)

-- the images before and after such a write into this file: every other file stays
pub record TornImage (file at n : ℕ) (old new : Image) : Type 0 where
  pub others : (f : ℕ) → f ≢ file → new f ≡ old f
  pub torn : Torn at n (old file) (new file)
