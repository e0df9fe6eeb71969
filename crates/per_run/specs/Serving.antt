-- What the parts of a run that stays keep, from line to line and from byte to byte.
use Rattle.std.specs.Prelude.{◌≡◌, ◌≢◌, ◌⊎◌, ℕ, List, [], ◌∷◌, ◌++◌, length, take, min, ◌-◌, ◌^◌, Option, Bool}
use Rattle.std.specs.Prelude.{true, false, IsTrue}
use Rattle.std.specs.List.{AllByRecursion, flat_map}
use Rattle.std.specs.Io.KnownBytes.{Appends, Consumes, IsAtEnd}
use Rattle.disk_model.specs.Medium.{Medium, Elapses}
use Rattle.run_model.specs.Endings as endings
use Rattle.run_model.specs.Lines.{lines_of}
use Rattle.run_model.specs.Moments.{last_of}
use Rattle.run_model.specs.Runs.{DiskSide, IsSettled, without_sink}
use Rattle.run_model.specs.Runtimes.{Memory, StartKeeps, Starts}
use Rattle.run_model.specs.Turns.{CountsFailures, worlds_of}
use Rattle.run_model.specs.Worlds.{after_start, world_at}
use Rattle.per_run.specs.declared.endings.Ending.{Ending}
use Rattle.per_run.specs.Serves.{HadNothing, HasNoBytes, Heard, IsHeard, IsPreparedDisk, IsServedInput, ServesBy}
use Rattle.per_run.specs.Serves.{heard_line, heard_texts, lines_in, turns_in}
use Rattle.per_run.specs.Steps.{Goes, HasNoFeed, Outset, ReaderAt, ending_of, with_feed}

-- ---- the start

-- the answer is true exactly where P holds
abbrev pub IsExactly : Bool → Type 0 → Type 0
IsExactly true P = P
IsExactly false P = P → ⊥

-- the runtime started on the disk that was prepared
pub record IsReadied {D : Type 0} (told : Bool) (medium : D → Medium) (memory : Memory) (old new : D) : Type 0 where
  pub start : D
  pub prepared : IsPreparedDisk told medium old start
  pub passes : (medium new).faults ≡ (medium start).faults
  pub starts : IsTrue told → Starts memory (medium start) (medium new)
  pub time : Elapses (medium start) (medium new)

-- the runtime did not start: on a disk that is not empty, or before the preparation came so far
abbrev pub IsUnready : {D : Type 0} → (told : Bool) → (medium : D → Medium) → (old new : D) → Type 0
IsUnready told medium old new = ((IsTrue told → HasNoBytes (medium old).image → ⊥)
    × (IsTrue told → StartKeeps (medium old) (medium new))) ⊎ HadNothing told medium old new

-- ---- the run so far

-- These lines were handled since the start, and what came of each was written.
pub record Hearing (from : Outset) (heard : List Heard) (now : Option (List ℕ)) (memory : Memory)
    (medium : Medium) : Type 0 where
  pub are : AllByRecursion IsHeard heard
  pub wrote : Appends from.before now (heard_texts heard)
  pub goes : Goes from.told from.converters from.start (turns_in heard) memory medium

-- these lines and one more were handled since the start, and what came of each was written
abbrev pub HearsOne : Outset → (heard : List Heard) → (text : List ℕ) → (now : Option (List ℕ)) → Memory → Medium
    → Type 0
HearsOne from heard text now memory medium = (h : Heard) × (heard_line h ≡ text)
    × Hearing from (heard ++ h ∷ []) now memory medium

-- how the handling of lines ended, of the lines `all`
pub record Service (from : Outset) (ending : endings.Ending) (all : List (List ℕ)) (now : Option (List ℕ))
    (medium : Medium) : Type 0 where
  pub heard : List Heard
  pub are : AllByRecursion IsHeard heard
  pub ends : ServesBy (IsTrue from.told
      → IsSettled (last_of (after_start (world_at from.start.image)) (worlds_of (turns_in heard))) medium)
      ending heard all from.before now
  pub failures : CountsFailures (ending ≢ endings.device) from.start.faults (turns_in heard) medium.faults
  pub disk : IsTrue from.told
      → DiskSide from.converters ending (without_sink (lines_in heard) all (turns_in heard)) from.start medium

-- ---- bytes

-- The bytes `given` were taken since the runtime started: all their whole lines are handled, which are counted up to
-- 2^64 - 1, and of the rest a prefix is kept, of at most 262145 bytes, one more than a line may have.
pub record Listened (from : Outset) (given : List ℕ) (now : Option (List ℕ)) (reader : ReaderAt)
    (medium : Medium) : Type 0 where
  pub heard : List Heard
  pub rest : List ℕ
  pub split : given ≡ flat_map with_feed (lines_in heard) ++ rest
  pub clean : AllByRecursion HasNoFeed (lines_in heard)
  pub clean_rest : HasNoFeed rest
  pub kept_is : reader.kept ≡ take 262145 rest
  pub number_is : reader.number ≡ min (length heard) (2 ^ 64 - 1)
  pub hearing : Hearing from heard now reader.memory medium

-- the input that was read, and what came of it
pub record Served (from : Outset) (ending : Ending) (left_before left_now now : Option (List ℕ))
    (medium : Medium) : Type 0 where
  pub given : List ℕ
  pub taken : Consumes left_before left_now given
  pub ended : Bool
  pub end_seen : IsTrue ended → IsAtEnd left_now
  pub input : IsServedInput (ending_of ending) ended (length given)
  pub course : Service from (ending_of ending) (lines_of false given) now medium
