-- A commit on its way: what is ready once its contents are durable, and how it fails.
use Rattle.std.specs.Prelude.{◌≡◌, ℕ, ◌*◌, ◌+◌, ◌≤◌, List, length, sum_by, Bool, IsTrue}
use Rattle.std.specs.List.{All}
use Rattle.per_base.specs.declared.elements.StoreKind.{StoreKind}
use Rattle.per_base.specs.declared.elements.Entry.{Entry}
use Rattle.per_base.specs.declared.elements.Change.{Change}
use Rattle.per_base.specs.Contents.{blocks_for}
use Rattle.disk_model.specs.Medium.{Medium, Quiet, EachCase, Elapses}
use Rattle.disk_model.specs.Frame.{Keeps, Spares}
use Rattle.disk_model.specs.Place.{IsNoArea}
use Rattle.index_text.specs.declared.entries.Index.{Index}
use Rattle.index_text.specs.Sizes.{area_blocks, info_length}
use Rattle.index_text.specs.Spelling.{index_text}
use Rattle.element_store.specs.declared.jobs.Job.{Job}
use Rattle.element_store.specs.declared.store.Store.{Store}
use Rattle.element_store.specs.Jobs.{IsJobWritten, IsLeftByAll, IsJobsCase, jobs_cost}
use Rattle.element_store.specs.Commits.{IsCommitPlan}
use Rattle.element_store.specs.Changing.{IsTraced}
use Rattle.element_store.specs.Stores.{view_in}

-- the index of a storage in use, which every copy holds
abbrev pub index_in : Store → Index
index_in store = store.index

-- how many bytes an element with this name and a content of `len` bytes takes in the text of an index of format 2: 45
-- for the lengths of its name (1) and content (4), its last change (8) and its hash (32); its info, its name, and 4 for
-- each of its blocks
abbrev pub listed_length : StoreKind → (name : List ℕ) → (len : ℕ) → ℕ
listed_length kind name len = 45 + info_length kind + length name + 4 * blocks_for len

-- how long the text of an index of these elements is in format 2, with the 4 bytes before them
abbrev pub index_length : StoreKind → List Entry → ℕ
index_length kind entries = 4 + sum_by (λ (f : Entry). listed_length kind f.name f.len) entries

-- The next index, the jobs that write its contents, and the set of its blocks and those of the standing index: all in
-- memory.
pub record IsPrepared (store : Store) (changes : List Change) (next : Index) (text : List ℕ) (used : List Bool)
    (jobs : List Job) : Type 0 where
  pub plan : IsCommitPlan store.shape store.index (view_in store) changes store.used used next jobs
  pub spelled : text ≡ index_text next
  pub format : next.format ≡ 2
  pub traced : IsTraced store.index.entries store.used used changes next.entries
  pub capacity : length used ≡ area_blocks store.shape.allowed

-- The same, once the contents were made durable.
pub record IsReadyToPut (told : Bool) (store : Store) (changes : List Change) (old mid : Medium) (next : Index)
    (text : List ℕ) (used : List Bool) : Type 0 where
  pub jobs : List Job
  pub prepared : IsPrepared store changes next text used jobs
  pub done : IsTrue told → All (IsJobWritten mid.image store.shape.place) jobs
  pub keeps : IsTrue told → Keeps (IsNoArea store.shape.place) (IsLeftByAll jobs)
      old.image mid.image
  pub each : EachCase (IsJobsCase store.shape.place jobs old mid (Unit {0})) old mid
  pub elsewhere : IsTrue told → Spares (IsNoArea store.shape.place) old.image mid.image
  pub cost : mid.written ≤ old.written + store.shape.place.copies * jobs_cost jobs
  pub time : Elapses old mid
  pub quiet : Quiet mid
