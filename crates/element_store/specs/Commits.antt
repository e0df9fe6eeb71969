-- What a commit is to do, settled in memory before anything is written.
use Rattle.std.specs.Prelude.{◌≡◌, ◌⊎◌, ℕ, ◌+◌, ◌<◌, ◌≤◌, List, [], length, slice_index, slice_index_or, Bool, Some}
use Rattle.std.specs.Prelude.{false}
use Rattle.std.specs.List.{All, AllZip, Contains}
use Rattle.sha2.specs.Sha256.{sha256}
use Rattle.per_base.specs.declared.elements.Content.TheVariants.{Good}
use Rattle.per_base.specs.declared.elements.Entry.{Entry}
use Rattle.per_base.specs.declared.elements.Change.{Change}
use Rattle.block_files.specs.Parts.{is_changed}
use Rattle.index_text.specs.declared.entries.Index.{Index}
use Rattle.index_text.specs.declared.entries.IndexEntry.{IndexEntry}
use Rattle.index_text.specs.Spelling.{index_text}
use Rattle.element_state.specs.declared.shapes.Shape.{Shape}
use Rattle.element_state.specs.declared.shapes.View.{View}
use Rattle.element_state.specs.Changes.{after_changes}
use Rattle.element_state.specs.Clean.{where_of}
use Rattle.element_state.specs.Conditions.{IsGoodEntry}
use Rattle.element_state.specs.Kept.{IsHeaded}
use Rattle.element_state.specs.Written.{commit_cost}
use Rattle.element_store.specs.declared.jobs.Job.{Job}
use Rattle.element_store.specs.Jobs.{jobs_cost}
use Rattle.element_store.specs.Plans.{ArePlacedJobs}
use Rattle.element_store.specs.Spelled.{IsTextOf}

-- the two stand at one place of their lists
pub record AreBeside {X Y : Type 0} (xs : List X) (ys : List Y) (x : X) (y : Y) : Type 0 where
  pub at : ℕ
  pub inside : at < length xs
  pub within : at < length ys
  pub one : slice_index_or xs at x ≡ x
  pub two : slice_index_or ys at y ≡ y

-- an element keeps its content where one of these entries has it; where it is good, it may be that no copy lacks it any
-- more
pub record IsCarriedFrom (standing : List IndexEntry) (views : List Entry) (e : IndexEntry) (f : Entry) : Type 0 where
  pub was : IndexEntry
  pub seen : Entry
  pub beside : AreBeside standing views was seen
  pub named : e.name ≡ was.name
  pub place : where_of e ≡ where_of was
  pub headed : IsHeaded e f
  pub content : f.content ≡ seen.content
  pub lacking : (f.lacking ≡ seen.lacking) ⊎ ((f.lacking ≡ []) × IsGoodEntry (Some seen))

-- it keeps its content where the standing index has it
abbrev pub IsCarriedOver : Index → View → IndexEntry → Entry → Type 0
IsCarriedOver index v e f = IsCarriedFrom index.entries v.entries e f

-- an element whose content one of the jobs writes
pub record IsWrittenBy (jobs : List Job) (e : IndexEntry) (f : Entry) : Type 0 where
  pub job : Job
  pub among : Contains jobs job
  pub blocks : e.blocks ≡ job.blocks
  pub hash : e.hash ≡ sha256 job.bytes.now
  pub len : e.len ≡ length job.bytes.now
  pub headed : IsHeaded e f
  pub content : f.content ≡ Good job.bytes.now
  pub lacking : f.lacking ≡ []

-- the earlier content of a job is that of a good element, in whose blocks it has the parts that it does not write
pub record IsBesideOne (standing : List IndexEntry) (views : List Entry) (job : Job) : Type 0 where
  pub was : IndexEntry
  pub seen : Entry
  pub beside : AreBeside standing views was seen
  pub content : seen.content ≡ Good job.was.now
  pub shared : (i : ℕ) → i < length job.blocks → is_changed job.bytes.now job.was.now i ≡ false
      → (i < length was.blocks) × (slice_index job.blocks i ≡ slice_index was.blocks i)

-- the earlier content of a job is that of a good element of this index and view
abbrev pub IsBesideOld : Index → View → Job → Type 0
IsBesideOld index v job = IsBesideOne index.entries v.entries job

-- a job writes its content whole, or beside an earlier one
abbrev pub SharesWith : List IndexEntry → List Entry → Job → Type 0
SharesWith standing views job = (job.was.now ≡ []) ⊎ IsBesideOne standing views job

-- a job writes its content whole, or beside an earlier one of this index and view
abbrev pub SharesOld : Index → View → Job → Type 0
SharesOld index v job = SharesWith index.entries v.entries job

-- The next index of a storage and the jobs that write its contents, from the standing index with its view and from
-- changes. The first set has the blocks of the standing index, and the second besides those that the jobs write.
pub record IsCommitPlan (shape : Shape) (index : Index) (v : View) (changes : List Change) (set used : List Bool)
    (next : Index) (jobs : List Job) : Type 0 where
  pub entries : AllZip (λ e f. IsWrittenBy jobs e f ⊎ IsCarriedOver index v e f) next.entries
      (after_changes (v.generation + 1) v.entries changes)
  pub placed : ArePlacedJobs set used jobs
  pub text : IsTextOf shape (index_text next) next
  pub shares : All (SharesOld index v) jobs
  pub cost : jobs_cost jobs ≤ commit_cost shape.kind v.entries changes
