-- Plans: entries and jobs for contents, whose blocks are chosen before anything is written.
use Rattle.std.specs.Prelude.{◌≡◌, ◌≢◌, ℕ, ◌+◌, ◌*◌, ◌<◌, ◌≤◌, List, [], ◌∷◌, length, slice_index, Bool, true, false}
use Rattle.std.specs.Prelude.{sum_by, ⊤}
use Rattle.std.specs.List.{All, AllZip, AllByRecursion}
use Rattle.sha2.specs.Sha256.{sha256}
use Rattle.per_base.specs.declared.elements.Fresh.{Fresh}
use Rattle.per_base.specs.Names.{IsName}
use Rattle.per_base.specs.Contents.{blocks_for}
use Rattle.disk_model.specs.declared.place.Place.{Place}
use Rattle.disk_model.specs.Image.{Image}
use Rattle.block_files.specs.Parts.{is_changed}
use Rattle.block_files.specs.BlockSets.{contains, free_of, AreDistinct}
use Rattle.index_text.specs.declared.entries.IndexEntry.{IndexEntry}
use Rattle.element_state.specs.Views.{entry_view}
use Rattle.element_state.specs.States.{fresh_entry, fresh_element}
use Rattle.element_store.specs.declared.jobs.Job.{Job}
use Rattle.element_store.specs.Jobs.{IsRoomy, AreApart, IsJobWritten, jobs_cost}

-- the set has all of these blocks
abbrev pub HasAll : List Bool → List ℕ → Type 0
HasAll set blocks = (i : ℕ) → i < length blocks → contains set (slice_index blocks i) ≡ true

-- the set keeps what it has
abbrev pub KeepsTaken : (old new : List Bool) → Type 0
KeepsTaken old new = (b : ℕ) → contains old b ≡ true → contains new b ≡ true

-- no number is in both lists
abbrev pub AreDisjoint : List ℕ → List ℕ → Type 0
AreDisjoint xs ys = (i j : ℕ) → i < length xs → j < length ys → slice_index xs i ≢ slice_index ys j

-- no block occurs twice in these entries
abbrev pub AreLaidApart : List IndexEntry → Type 0
AreLaidApart [] = ⊤
AreLaidApart (e ∷ entries) = AreDistinct e.blocks × AllByRecursion (λ (f : IndexEntry). AreDisjoint e.blocks f.blocks)
    entries × AreLaidApart entries

-- the blocks of a job: all are in the set now, those that it writes were not in the set at the start, and the others
-- were
pub record IsPlacedJob (start now : List Bool) (job : Job) : Type 0 where
  pub taken : HasAll now job.blocks
  pub written : (i : ℕ) → i < length job.blocks → is_changed job.bytes.now job.was.now i ≡ true
      → contains start (slice_index job.blocks i) ≡ false
  pub shared : (i : ℕ) → i < length job.blocks → is_changed job.bytes.now job.was.now i ≡ false
      → contains start (slice_index job.blocks i) ≡ true

-- jobs whose blocks take their bytes and are placed by these sets, none of which writes a block of another
pub record ArePlacedJobs (start now : List Bool) (jobs : List Job) : Type 0 where
  pub roomy : All IsRoomy jobs
  pub placed : All (IsPlacedJob start now) jobs
  pub apart : AreApart jobs

-- the entry of a content that this generation writes
pub record IsWrittenEntry (generation : ℕ) (f : Fresh) (e : IndexEntry) : Type 0 where
  pub name : e.name ≡ f.name
  pub info : e.info ≡ f.info
  pub changed : e.changed ≡ generation
  pub len : e.len ≡ length f.bytes
  pub hash : e.hash ≡ sha256 f.bytes
  pub count : length e.blocks ≡ blocks_for (length f.bytes)
  pub named : IsName e.name

-- the blocks that contents take
abbrev pub blocks_of_all : List Fresh → ℕ
blocks_of_all contents = sum_by (λ (f : Fresh). blocks_for (length f.bytes)) contents

-- the entries and the jobs of contents that are written whole, in blocks that the set did not have
pub record IsPlanOf (generation : ℕ) (contents : List Fresh) (start now : List Bool) (entries : List IndexEntry)
    (jobs : List Job) : Type 0 where
  pub made : AllZip (IsWrittenEntry generation) contents entries
  pub laid : AreLaidApart entries
  pub taken : AllByRecursion (λ (e : IndexEntry). HasAll now e.blocks) entries
  pub placed : ArePlacedJobs start now jobs
  pub whole : All (λ (job : Job). job.was.now ≡ []) jobs
  pub keeps : KeepsTaken start now
  pub capacity : length now ≡ length start
  pub free : free_of start ≤ free_of now + blocks_of_all contents
  pub cost : jobs_cost jobs ≤ 256 * blocks_of_all contents
  -- once the jobs are done, the entries show the contents
  pub views : (image : Image) (place : Place) (m : ℕ) → 1 ≤ m → m ≤ place.copies
      → All (IsJobWritten image place) jobs
      → AllZip (λ f e. entry_view image place m e ≡ fresh_entry generation (fresh_element f)) contents entries
