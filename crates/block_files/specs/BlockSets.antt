-- Sets of blocks as contracts see them: a list of flags, true for each block that is taken.
use Rattle.std.specs.Prelude.{◌≡◌, ◌≢◌, ℕ, ◌+◌, ◌<◌, ◌≤◌, List, [], ◌∷◌, length, slice_index, slice_index_or, Bool}
use Rattle.std.specs.Prelude.{true, false, not, count_by}
use Rattle.block_files.specs.Parts.{is_changed}

-- whether the block is in the set; no set holds a block past its capacity
abbrev pub contains : List Bool → ℕ → Bool
contains set block = slice_index_or set block false

-- how many blocks below the capacity are free: not in the set
abbrev pub free_of : List Bool → ℕ
free_of set = count_by not set

-- the free blocks of a set whose flags begin at this block, ascending
abbrev pub free_from : ℕ → List Bool → List ℕ
free_from block [] = []
free_from block (true ∷ flags) = free_from (block + 1) flags
free_from block (false ∷ flags) = block ∷ free_from (block + 1) flags

-- the blocks below the capacity that are not in the set, ascending
abbrev pub free_blocks : List Bool → List ℕ
free_blocks set = free_from 0 set

-- the lowest block that is free, or the capacity
pub record IsFirstFree (set : List Bool) (block : ℕ) : Type 0 where
  pub within : block ≤ length set
  pub taken : (b : ℕ) → b < block → contains set b ≡ true
  pub free : block < length set → contains set block ≡ false

-- each number is above those before it
abbrev pub Ascend : List ℕ → Type 0
Ascend numbers = (i j : ℕ) → i < j → j < length numbers → slice_index numbers i < slice_index numbers j

-- no block occurs twice
abbrev pub AreDistinct : List ℕ → Type 0
AreDistinct blocks = (i j : ℕ) → i < j → j < length blocks → slice_index blocks i ≢ slice_index blocks j

-- the block is none of these
abbrev pub IsNotAmong : List ℕ → ℕ → Type 0
IsNotAmong blocks k = (i : ℕ) → i < length blocks → k ≢ slice_index blocks i

-- these blocks are below the capacity and not in the set, ascending, so each once
pub record AreFree (set : List Bool) (blocks : List ℕ) : Type 0 where
  pub below : (i : ℕ) → i < length blocks → slice_index blocks i < length set
  pub free : (i : ℕ) → i < length blocks → contains set (slice_index blocks i) ≡ false
  pub ascend : Ascend blocks

-- the new set has these blocks, and is otherwise as the old one: at most as many are free no longer
pub record IsAdded (blocks : List ℕ) (old new : List Bool) : Type 0 where
  pub added : (i : ℕ) → i < length blocks → contains new (slice_index blocks i) ≡ true
  pub kept : (b : ℕ) → IsNotAmong blocks b → contains new b ≡ contains old b
  pub capacity : length new ≡ length old
  pub free : free_of old ≤ free_of new + length blocks

-- the blocks of a content `bytes` beside an earlier one, `was` in `old_blocks`: the earlier block where the parts of
-- 256 bytes are equal, else one that is not in the set
pub record SharesBlocks (bytes was old_blocks : List ℕ) (set : List Bool) (blocks : List ℕ) : Type 0 where
  pub equal : (i : ℕ) → i < length blocks → is_changed bytes was i ≡ false
      → slice_index blocks i ≡ slice_index old_blocks i
  pub fresh : (i : ℕ) → i < length blocks → is_changed bytes was i ≡ true
      → (slice_index blocks i < length set) × (contains set (slice_index blocks i) ≡ false)
