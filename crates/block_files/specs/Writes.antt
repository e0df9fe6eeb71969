-- What calls that write blocks leave alone, at their end and where a crash or a failure stops them. `told`: the bytes
-- of the disk are modelled. `spared` says which files are left alone, and `apart` which blocks of every file, by
-- number. `old` and `new` are the disk before the calls and after them.
use Rattle.std.specs.Prelude.{◌≡◌, ◌≢◌, ℕ, ◌+◌, ◌-◌, ◌<◌, ◌≤◌, List, length, slice_index, Bool, true, IsTrue}
use Rattle.per_base.specs.Causes.{Rose}
use Rattle.per_base.specs.Contents.{blocks_for}
use Rattle.disk_model.specs.Case.{Follows}
use Rattle.disk_model.specs.Medium.{Medium, Elapses}
use Rattle.disk_model.specs.Frame.{Keeps, Tears, KeepsCase}
use Rattle.disk_model.specs.declared.place.Place.{Place}
use Rattle.block_files.specs.BlockSets.{contains}
use Rattle.block_files.specs.Parts.{is_changed}
use Rattle.block_files.specs.Areas.{area_of}

-- Writes that were all done, of at most n bytes: files that are spared and blocks that are apart read as before, and so
-- they do in each case of a crash after the writes or at any moment of them, but for what a crash may leave past an old
-- end. No call failed.
pub record Wrote (told : Bool) (spared apart : ℕ → Type 0) (n : ℕ) (old new : Medium) : Type 0 where
  pub keeps : IsTrue told → Keeps spared apart old.image new.image
  pub now : Follows (KeepsCase spared apart) old.now new.now
  pub during : Follows (KeepsCase spared apart) old.now (new.since old.moment)
  pub written : new.written ≤ old.written + n
  pub time : Elapses old new
  pub passes : new.faults ≡ old.faults

-- Writes of at most n bytes of which one failed: spared files and blocks apart read as before, but for what is past an
-- old end, at the end and in each case of a crash meanwhile. The count of faults rose.
pub record Tore (told : Bool) (spared apart : ℕ → Type 0) (n : ℕ) (old new : Medium) : Type 0 where
  pub tears : IsTrue told → Tears spared apart old.image new.image
  pub during : Follows (KeepsCase spared apart) old.now (new.since old.moment)
  pub written : new.written ≤ old.written + n
  pub time : Elapses old new
  pub cause : Rose old.faults new.faults

-- ---- files that are spared

-- the file is the area of none of these copies, counted from 1
abbrev pub IsNoneOf : Place → (copies : List ℕ) (file : ℕ) → Type 0
IsNoneOf place copies file = (i : ℕ) → i < length copies → file ≢ area_of place (slice_index copies i)

-- ---- blocks that are apart

-- the block is in the set
abbrev pub IsTaken : List Bool → ℕ → Type 0
IsTaken set k = contains set k ≡ true

-- the block k is none of those whose part of `bytes` differs from that of the earlier content `was`
abbrev pub IsApartFromChanged : (blocks bytes was : List ℕ) (k : ℕ) → Type 0
IsApartFromChanged blocks bytes was k = (i : ℕ) → i < length blocks → is_changed bytes was i ≡ true
    → k ≢ slice_index blocks i

-- ---- runs

-- from the first of these parts to the end each differs from that of an earlier content, and their blocks follow one
-- another
pub record IsRun (blocks bytes was : List ℕ) (first end : ℕ) : Type 0 where
  pub some : first < end
  pub within : end ≤ blocks_for (length bytes)
  pub differ : (i : ℕ) → first ≤ i → i < end → is_changed bytes was i ≡ true
  pub follow : (i : ℕ) → first ≤ i → i < end → slice_index blocks i ≡ slice_index blocks first + (i - first)
