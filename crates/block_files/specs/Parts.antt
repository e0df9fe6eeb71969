-- Contents in parts of 256 bytes, one for each block, and which parts differ from those of an earlier content.
use Rattle.std.specs.Prelude.{◌≡◌, ℕ, zero, suc, ◌+◌, ◌<◌, List, length, slice_index, Bool, not, cond}
use Rattle.std.specs.Str.{bytes_eq}
use Rattle.per_base.specs.Contents.{blocks_for}
use Rattle.changed_runs.specs.Changed.{run_of}

-- whether the i-th parts of two contents differ, counted from 0; a part past the end is empty
unfoldable pub is_changed : List ℕ → List ℕ → ℕ → Bool
is_changed bytes was i = not (bytes_eq (run_of bytes i) (run_of was i))

-- how many of the first n parts differ
abbrev pub changed_below : List ℕ → List ℕ → ℕ → ℕ
changed_below bytes was zero = 0
changed_below bytes was (suc n) = changed_below bytes was n + cond (is_changed bytes was n) 1 0

-- how many parts of the new content `bytes` differ from those of the old one, `was`, which
-- is how many blocks are written
abbrev pub changed_blocks : List ℕ → List ℕ → ℕ
changed_blocks bytes was = changed_below bytes was (blocks_for (length bytes))

-- the blocks of a content `bytes` that shares with an earlier one, `was` in the blocks `old`: the earlier block where
-- both parts are equal, else the next of the fresh ones
pub record IsMerged (bytes was old fresh blocks : List ℕ) : Type 0 where
  pub count : length blocks ≡ blocks_for (length bytes)
  pub each : (i : ℕ) → i < length blocks
      → slice_index blocks i ≡ cond (is_changed bytes was i) (slice_index fresh (changed_below bytes was i))
      (slice_index old i)
