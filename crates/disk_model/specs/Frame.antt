-- What writes leave alone: files that are spared, and blocks of 256 bytes that are apart from what is written. `spared`
-- says which file numbers are spared, and `apart` which block numbers k are: block k is the bytes from 256 k on.
-- Read by `slice_index`, which gives 0 past the end, so that a gap that a write fills with zeros reads as before.
use Rattle.std.specs.Prelude.{◌≡◌, ℕ, ◌+◌, ◌*◌, ◌<◌, ◌≤◌, length, slice_index}
use Rattle.disk_model.specs.Image.{Image}
use Rattle.disk_model.specs.Case.{Case}

-- the files that are spared hold in the new image what they held in the old one
abbrev pub Spares : (spared : ℕ → Type 0) → Image → Image → Type 0
Spares spared old new = (f : ℕ) → spared f → new f ≡ old f

-- in these files nothing is pending, and a crash leaves them as in this image
pub record IsSettledOn (files : ℕ → Type 0) (image : Image) (c : Case) : Type 0 where
  pub base : Spares files image c.base
  pub full : Spares files image c.full
  pub left : Spares files image c.left

-- whole writes lead from the old image to the new: spared files stay, blocks apart read as before in every file (byte j
-- of block k of file f), and no file gets shorter
pub record Keeps (spared apart : ℕ → Type 0) (old new : Image) : Type 0 where
  pub files : Spares spared old new
  pub bytes : (f k j : ℕ) → j < 256 → apart k → slice_index (new f) (256 * k + j) ≡ slice_index (old f) (256 * k + j)
  pub no_shorter : (f : ℕ) → length (old f) ≤ length (new f)

-- the same of writes that a crash may have cut short: what is past the old end of a file may hold anything
pub record Tears (spared apart : ℕ → Type 0) (old new : Image) : Type 0 where
  pub files : Spares spared old new
  pub bytes : (f k j : ℕ) → j < 256 → apart k → 256 * k + j < length (old f)
      → slice_index (new f) (256 * k + j) ≡ slice_index (old f) (256 * k + j)
  pub no_shorter : (f : ℕ) → length (old f) ≤ length (new f)

-- a step from case to case by such writes, with no sync among them
pub record KeepsCase (spared apart : ℕ → Type 0) (old new : Case) : Type 0 where
  pub base : new.base ≡ old.base
  pub full : Keeps spared apart old.full new.full
  pub left : Tears spared apart old.left new.left
