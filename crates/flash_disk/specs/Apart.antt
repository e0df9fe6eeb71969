-- Copies that are kept apart: no block holds what counts of two of them, so that the loss of a block costs one. Pages
-- are numbered through: a block has 64, and page j is in block j / 64.
use Rattle.std.specs.Prelude.{◌≡◌, ◌≢◌, ◌⊎◌, ℕ, ◌+◌, ◌*◌, ◌/◌, ◌%◌, ◌<◌, ◌≤◌, None, Some}
use Rattle.disk_model.specs.Damage.{AtLeast}
use Rattle.flash_model.specs.Pages.{Pages}
use Rattle.flash_record.specs.PageRecord.{record_in}
use Rattle.flash_disk.specs.Newest.{Placed, record_at, newest, places, IsSpare}
use Rattle.flash_disk.specs.FlashFiles.{flash_files}

-- which copy a file is of, from 0 to 7: a place has 4 files for each of at most 8 copies, and begins at a multiple of
-- 32
abbrev pub copy_of : ℕ → ℕ
copy_of file = file / 4 % 8

-- a block in which nothing counts but files of one copy: each newest record of another copy, or an equal one, is in
-- another block
abbrev pub IsOfCopy : Pages → (n block copy : ℕ) → Type 0
IsOfCopy pages n block copy = (file page : ℕ) (x : Placed) → newest pages file page n ≡ Some x → copy_of file ≢ copy
    → (j : ℕ) × (j < n) × (j / 64 ≢ block) × (record_at pages j ≡ Some x.says)

-- each block of a flash of that many blocks is of one copy
abbrev pub IsApart : Pages → ℕ → Type 0
IsApart pages blocks = (block : ℕ) → (copy : ℕ) × IsOfCopy pages (places blocks) block copy

-- a block in which nothing counts but files of one copy, also where another block has an equal record
abbrev pub HoldsOneCopy : Pages → (n block copy : ℕ) → Type 0
HoldsOneCopy pages n block copy = (file page : ℕ) (x : Placed) → newest pages file page n ≡ Some x → (j : ℕ) → j < n
    → j / 64 ≡ block → record_at pages j ≡ Some x.says → copy_of file ≡ copy

-- what held only one copy holds only that copy, but for one block, which may come to hold this copy too
abbrev pub KeepsHeld : (copy home n : ℕ) → (old new : Pages) → Type 0
KeepsHeld copy home n old new = (block own : ℕ) → (block ≡ home → copy ≡ own) → HoldsOneCopy old n block own
    → HoldsOneCopy new n block own

-- in each block of a flash of that many blocks nothing counts but files of one copy
abbrev pub StandApart : Pages → ℕ → Type 0
StandApart pages blocks = (block : ℕ) → (copy : ℕ) × HoldsOneCopy pages (places blocks) block copy

-- a record that is equal to the newest of its page of a file is in this place
abbrev pub Counts : Pages → (n place : ℕ) → Type 0
Counts pages n place = (file page : ℕ) × (x : Placed) × (newest pages file page n ≡ Some x)
    × (record_at pages place ≡ Some x.says)

-- at least this many of the 64 pages of a block hold such a record
abbrev pub HoldsCounting : Pages → (n block count : ℕ) → Type 0
HoldsCounting pages n block count = AtLeast (λ p. Counts pages n (64 * block + p)) 64 count

-- at least 57 of them do, so that fewer than 8 hold none
abbrev pub IsPacked : Pages → (n block : ℕ) → Type 0
IsPacked pages n block = HoldsCounting pages n block 57

-- such records of two blocks take all 64 pages of a block, or more
pub record FillOne (pages : Pages) (n first second : ℕ) : Type 0 where
  pub some : ℕ
  pub others : ℕ
  pub many : 64 ≤ some + others
  pub in_first : HoldsCounting pages n first some
  pub in_second : HoldsCounting pages n second others

-- No block but a spare one has room for a copy, and none can get it: all others in which nothing else counts are
-- packed, and of no copy are there two blocks whose records would fit in one and leave a page of it.
pub record HasNoRoom (pages : Pages) (blocks copy : ℕ) : Type 0 where
  pub spare : ℕ
  pub within : spare < blocks
  pub is_spare : IsSpare pages (places blocks) spare
  pub packed : (block : ℕ) → block < blocks → block ≢ spare → HoldsOneCopy pages (places blocks) block copy
      → IsPacked pages (places blocks) block
  pub unjoined : (first second own : ℕ) → first < blocks → second < blocks → first ≢ spare → second ≢ spare
      → first ≢ second → HoldsOneCopy pages (places blocks) first own → HoldsOneCopy pages (places blocks) second own
      → FillOne pages (places blocks) first second

-- pages of a block were lost: each is no record any more, or as it was, and all others are as they were
pub record LosesPages (block : ℕ) (old new : Pages) : Type 0 where
  pub elsewhere : (b p : ℕ) → b ≢ block → new b p ≡ old b p
  pub here : (p : ℕ) → (new block p ≡ old block p) ⊎ (record_in (new block p) ≡ None)

-- every file but those of this copy is as it was
abbrev pub CostsOneCopy : (copy blocks : ℕ) → (old new : Pages) → Type 0
CostsOneCopy copy blocks old new = (file : ℕ) → copy_of file ≢ copy
    → flash_files new blocks file ≡ flash_files old blocks file
