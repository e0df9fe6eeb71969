-- What a write makes of the files of a disk part by part: a range has these bytes, the file is so long, and what is
-- between is zeros.
use Rattle.std.specs.Prelude.{◌≡◌, ◌≢◌, ◌⊎◌, ℕ, ◌+◌, ◌-◌, ◌<◌, ◌≤◌, ◌&&◌, Bool, List, length, slice_index, nat_le}
use Rattle.std.specs.Prelude.{nat_lt, if◌then◌else◌}
use Rattle.disk_model.specs.Image.{Image}

-- whether byte i is in a range of n bytes
abbrev pub in_range : (at n i : ℕ) → Bool
in_range at n i = nat_le at i && nat_lt i (at + n)

-- a file has these bytes from byte `at` on, is of this length, which is no less than before, and is else as it was,
-- with zeros where it had nothing; every other file is as it was
pub record PutPart (file at : ℕ) (bytes : List ℕ) (len : ℕ) (old new : Image) : Type 0 where
  pub others : (f : ℕ) → f ≢ file → new f ≡ old f
  pub long : length (new file) ≡ len
  pub no_shorter : length (old file) ≤ len
  pub bytes_are : (i : ℕ) → i < len → slice_index (new file) i
      ≡ (if in_range at (length bytes) i then slice_index bytes (i - at) else slice_index (old file) i)

-- the write of a part was done, or nothing was
abbrev pub PutOrNot : (file at : ℕ) → List ℕ → (len : ℕ) → Image → Image → Type 0
PutOrNot file at bytes len old new = (new ≡ old) ⊎ PutPart file at bytes len old new
