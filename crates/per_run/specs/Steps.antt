-- What the parts of a run keep, from line to line and from byte to byte. Of bytes `before` and `now` are what the sink
-- took before and has taken now, `left_before` and `left_now` what the source has left, each None where nothing is said
-- of it.
use Rattle.std.specs.Prelude.{◌≡◌, ◌≢◌, ◌⊎◌, ◌≤◌, ◌<◌, ◌+◌, ◌*◌, ℕ, List, [], ◌∷◌, ◌++◌, length, take, Option, None}
use Rattle.std.specs.Prelude.{Bool, false}
use Rattle.std.specs.Prelude.{IsTrue, Result, Ok, Err, IsErrOf, IfErr, count_by, ⊤}
use Rattle.std.specs.List.{AllByRecursion, flat_map}
use Rattle.std.specs.Io.KnownBytes.{Appends, Consumes, IsAtEnd}
use Rattle.per_base.specs.Causes.{Rose}
use Rattle.disk_model.specs.Frame.{Spares}
use Rattle.disk_model.specs.Medium.{Medium, Quiet, Elapses}
use Rattle.disk_model.specs.declared.disk.Disk.{Ghosts as DiskOf}
use Rattle.deploy_laws.specs.Apps.{IsCleanApp}
use Rattle.command_text.specs.declared.calls.Event.{Event}
use Rattle.command_text.specs.declared.lines.Line.TheVariants as line
use Rattle.command_text.specs.declared.replies.Reply.{Reply}
use Rattle.command_text.specs.Grammar.{IsLine, has_feed}
use Rattle.command_text.specs.Replies.{HasText}
use Rattle.deploy_rows.specs.Costs.{format_cost}
use Rattle.run_model.specs.Converters.{Converters}
use Rattle.run_model.specs.Endings as endings
use Rattle.run_model.specs.Endings.{EndsBy, IsInput}
use Rattle.run_model.specs.Lines.{Give, IsBad, lines_of}
use Rattle.run_model.specs.RunLaws.{Going}
use Rattle.run_model.specs.Runs.{DiskSide}
use Rattle.run_model.specs.Runtimes.{IsDoubt, IsNoRoot, Memory, Starts, Stepped, Stopped, RuntimeAt, runtime_at}
use Rattle.run_model.specs.Turns.{Turn, events_of, replies_of, replies_text, IsBlamed, AreBlamed, CountsFailures}
use Rattle.run_model.specs.Worlds.{Doubt, world_at, formatted}
use Rattle.run_model.specs.Writes.{AreRootsAlone}
use Rattle.per_run.specs.declared.answering.LineOutcome.{LineOutcome}
use Rattle.per_run.specs.declared.answering.LineOutcome.TheVariants as outcome
use Rattle.per_run.specs.declared.endings.Ending.{Ending}
use Rattle.per_run.specs.declared.endings.Ending.TheVariants.{AllRead, EndLine, BadLine, OutOfMemory, Source, Sink}
use Rattle.per_run.specs.declared.endings.Ending.TheVariants.{TooLong}
use Rattle.per_run.specs.declared.tally.Tally.{Tally}
use Rattle.per_run.specs.declared.words.JobKind.{JobKind}
use Rattle.per_run.specs.declared.words.JobKind.TheVariants.{Generate, Export, Import, RecoverRoot}
use Rattle.per_run.specs.Jobs.{WroteProperPrefix, IsInputTaken, is_done, is_other, is_error, size_given}

-- ---- endings

-- the ending of a run whose start ended
abbrev pub ending_of : Ending → endings.Ending
ending_of AllRead = endings.all_read
ending_of EndLine = endings.end_line
ending_of BadLine = endings.bad_line
ending_of OutOfMemory = endings.memory
ending_of Source = endings.source
ending_of Sink = endings.sink
ending_of TooLong = endings.too_long

-- an ending inside the handling of a piece of the input
abbrev pub IsBroken : Ending → Type 0
IsBroken AllRead = ⊥
IsBroken Source = ⊥
IsBroken TooLong = ⊥
IsBroken other = ⊤

-- the sink's count of failures never falls, and the handling ends for the sink only where it rose
pub record Blamed (ending : Ending) (before now : ℕ) : Type 0 where
  pub later : before ≤ now
  pub sink : ending ≡ Sink → Rose before now

-- the sink's count of failures never falls; an error ends the handling midway, and it is the sink's only where the
-- count rose
pub record Blames {T : Type 0} (before now : ℕ) (result : Result T Ending) : Type 0 where
  pub later : before ≤ now
  pub sink : IsErrOf result Sink → Rose before now
  pub broken : IfErr result IsBroken

-- ---- a text to the sink

-- the sink took all of the text; or it failed and took a proper prefix; or memory ran out and it took nothing
abbrev pub PutsOutput : {T : Type 0} → (text : List ℕ) → (before now : Option (List ℕ)) → Result T Ending → Type 0
PutsOutput text before now (Ok x) = Appends before now text
PutsOutput text before now (Err Sink) = WroteProperPrefix before now text
PutsOutput text before now (Err OutOfMemory) = Appends before now []
PutsOutput text before now (Err other) = ⊥

-- of the answer to a line outside the grammar, which ends the handling: the sink took all of it, or as the ending says
abbrev pub IsBadLineAnswer : (text : List ℕ) → (before now : Option (List ℕ)) → Ending → Type 0
IsBadLineAnswer text before now BadLine = Appends before now text
IsBadLineAnswer text before now Sink = WroteProperPrefix before now text
IsBadLineAnswer text before now OutOfMemory = Appends before now []
IsBadLineAnswer text before now other = ⊥

-- ---- one line

-- the command of the line was answered
pub record IsLineAnswered (told : Bool) (converters : Converters) (text : List ℕ) (old new : RuntimeAt Medium)
    (reply : Reply) : Type 0 where
  pub event : Event
  pub spelled : IsLine text (line.Event event)
  pub has_text : HasText reply.answer
  pub blamed : IsBlamed old.disk.faults new.disk.faults reply
  pub stepped : IsTrue told → (doubt : Option Doubt) → IsDoubt old.memory doubt
      → Stepped converters event reply doubt old new

-- memory ran out in the command of the line, in which no call of the disk had failed
pub record IsStopped (told : Bool) (converters : Converters) (text : List ℕ) (before : Memory)
    (old new : Medium) : Type 0 where
  pub event : Event
  pub spelled : IsLine text (line.Event event)
  pub stopped : IsTrue told → (doubt : Option Doubt) → IsDoubt before doubt
      → Stopped converters event doubt (runtime_at before old) new
  pub fed : new.faults ≡ old.faults

-- what came of a line
abbrev pub IsLineOutcome : {D : Type 0} → DiskOf D → Converters → (text : List ℕ) → (old new : RuntimeAt D)
    → LineOutcome → Type 0
IsLineOutcome of_disk converters text old new outcome.Nothing =
    IsLine text line.Nothing × (new.memory ≡ old.memory) × (new.disk ≡ old.disk)
IsLineOutcome of_disk converters text old new outcome.End = IsLine text line.End × (new.disk ≡ old.disk)
IsLineOutcome of_disk converters text old new outcome.Bad =
    IsBad text × (new.memory ≡ old.memory) × (new.disk ≡ old.disk)
IsLineOutcome of_disk converters text old new (outcome.Answered reply) =
    IsLineAnswered of_disk.told converters text (runtime_at old.memory (of_disk.medium old.disk))
    (runtime_at new.memory (of_disk.medium new.disk)) reply
IsLineOutcome of_disk converters text old new outcome.OutOfMemory = (new.disk ≡ old.disk)
    ⊎ IsStopped of_disk.told converters text old.memory (of_disk.medium old.disk) (of_disk.medium new.disk)

-- ---- the run so far

-- on a disk whose bytes are modelled: there is a doubt (a command failed at the device, and nobody knows how much of it
-- was done) or none, and the run goes on from there
abbrev pub IsGoing : Converters → (start : Medium) → List Turn → Memory → (now : Medium) → Type 0
IsGoing converters start turns memory now = (doubt : Option Doubt) × IsDoubt memory doubt
    × Going converters start turns doubt (runtime_at memory now)

-- The commands were answered since the start of the run, each with its cause.
pub record Goes (told : Bool) (converters : Converters) (start : Medium) (turns : List Turn) (memory : Memory)
    (now : Medium) : Type 0 where
  pub blamed : AreBlamed start.faults turns now.faults
  pub disk : IsTrue told → IsGoing converters start turns memory now

-- what a run sets out with: whether the bytes of its disk are modelled, its converters, the disk when the runtime
-- started, and what the sink had taken then
pub record Outset : Type 1 where
  pub told : Bool
  pub converters : Converters
  pub start : Medium
  pub before : Option (List ℕ)

abbrev pub outset : {D : Type 0} → DiskOf D → Converters → (start : D) → (before : Option (List ℕ)) → Outset
outset of_disk converters start before = record {
  told = of_disk.told;
  converters = converters;
  start = of_disk.medium start;
  before = before;
}

-- These lines were handled since the start of the run: their commands are answered, and the replies written. The
-- `turns` are those commands, each with its reply.
pub record Handled (from : Outset) (lines : List (List ℕ)) (now : Option (List ℕ)) (memory : Memory)
    (medium : Medium) : Type 0 where
  pub turns : List Turn
  pub gives : Give lines (events_of turns)
  pub wrote : Appends from.before now (replies_text turns)
  pub goes : Goes from.told from.converters from.start turns memory medium

-- How the handling of lines ended, of the lines `all`: `lines` are those that were handled, and `turns` their commands,
-- each with its reply.
pub record Course (from : Outset) (ending : endings.Ending) (all : List (List ℕ)) (now : Option (List ℕ))
    (medium : Medium) : Type 0 where
  pub lines : List (List ℕ)
  pub turns : List Turn
  pub gives : Give lines (events_of turns)
  pub ends : EndsBy ending lines all turns from.before now
  pub failures : CountsFailures (ending ≢ endings.device) from.start.faults turns medium.faults
  pub disk : IsTrue from.told → DiskSide from.converters ending
      (record { lines = lines; all = all; turns = turns; before = from.before; now = now }) from.start medium

-- ---- bytes

-- a line with its line feed
abbrev pub with_feed : List ℕ → List ℕ
with_feed line = line ++ 10 ∷ []

-- no line feed is among the bytes
abbrev pub HasNoFeed : List ℕ → Type 0
HasNoFeed bytes = has_feed bytes ≡ false

-- the reader at one moment: what its runtime keeps in memory, the prefix that it keeps of a line, and the number of
-- lines that it counted
pub record ReaderAt : Type 0 where
  pub memory : Memory
  pub kept : List ℕ
  pub number : ℕ

abbrev pub reading : Memory → (kept : List ℕ) → (number : ℕ) → ReaderAt
reading memory kept number = record { memory = memory; kept = kept; number = number }

-- The bytes `given` were taken since the runtime started: all their whole lines are handled, and of the rest a prefix
-- is kept, of at most 262145 bytes, one more than a line may have.
pub record Reached (from : Outset) (given : List ℕ) (now : Option (List ℕ)) (reader : ReaderAt)
    (medium : Medium) : Type 0 where
  pub lines : List (List ℕ)
  pub rest : List ℕ
  pub split : given ≡ flat_map with_feed lines ++ rest
  pub clean : AllByRecursion HasNoFeed lines
  pub clean_rest : HasNoFeed rest
  pub kept_is : reader.kept ≡ take 262145 rest
  pub number_is : reader.number ≡ length lines
  pub handled : Handled from lines now reader.memory medium

-- The input that was read, of at most 67108864 bytes (`INPUT_BYTES`), and what came of it; `ended` says that its end
-- was seen.
pub record RanOverInput (from : Outset) (ending : Ending) (left_before left_now now : Option (List ℕ))
    (medium : Medium) : Type 0 where
  pub given : List ℕ
  pub taken : Consumes left_before left_now given
  pub bound : length given ≤ 67108864
  pub ended : Bool
  pub end_seen : IsTrue ended → IsAtEnd left_now × (length given < 67108864)
  pub input : IsInput (ending_of ending) ended (length given)
  pub course : Course from (ending_of ending) (lines_of ended given) now medium

-- ---- an input that is read whole

-- why it was not, after that many bytes, of which 67108864 are allowed (`INPUT_BYTES`)
abbrev pub IsCut : Ending → (count : ℕ) → Type 0
IsCut OutOfMemory count = ⊤
IsCut Source count = count < 67108864
IsCut TooLong count = count ≡ 67108864
IsCut other count = ⊥

-- some bytes were taken, and the end was not seen
pub record Breaks (left_before left_now : Option (List ℕ)) (ending : Ending) : Type 0 where
  pub given : List ℕ
  pub taken : IsInputTaken left_before left_now given false
  pub cut : IsCut ending (length given)

-- ---- a synthetic workload, generated from a number

-- the replies of each sort are counted, and the first number that one gave is kept
pub record Tallies (replies : List Reply) (tally : Tally) : Type 0 where
  pub done : tally.done ≡ count_by is_done replies
  pub other : tally.other ≡ count_by is_other replies
  pub errors : tally.errors ≡ count_by is_error replies
  pub size : tally.size ≡ size_given replies

-- These lines were handled since the start: each gave a command, and the replies are counted.
pub record Counted (from : Outset) (lines : List (List ℕ)) (memory : Memory) (tally : Tally)
    (medium : Medium) : Type 0 where
  pub turns : List Turn
  pub gives : Give lines (events_of turns)
  pub each : length turns ≡ length lines
  pub goes : Goes from.told from.converters from.start turns memory medium
  pub tallies : Tallies (replies_of turns) tally

-- memory ran out in the handling of the lines `all`, of which no reply is written
abbrev pub RunsShort : Outset → (all : List (List ℕ)) → Medium → Type 0
RunsShort from all medium = Course from endings.memory all None medium

-- A runtime that started on a disk which was formatted before; no more was written until then than the formatting of
-- eight roots costs, and each root is held alone, so that the start writes nothing.
pub record IsServeBegun (told : Bool) (memory : Memory) (old middle new : Medium) : Type 0 where
  pub passes : middle.faults ≡ old.faults
  pub roots : IsTrue told → Spares IsNoRoot old.image middle.image
  pub written : middle.written ≤ old.written + 8 * format_cost
  pub alone : IsTrue told → AreRootsAlone middle.image
  pub started : new.faults ≡ middle.faults
  pub world : IsTrue told → world_at middle.image ≡ formatted
  pub clean : IsTrue told → (app : ℕ) → app < 8 → IsCleanApp app middle.image
  pub quiet : Quiet middle
  pub formats : Elapses old middle
  pub starts : IsTrue told → Starts memory middle new
  pub time : Elapses middle new

-- ---- jobs

-- the number that a synthetic workload is generated from is at most 100000, and that of an application below 8
abbrev pub IsInRange : JobKind → Type 0
IsInRange (Generate n) = n ≤ 100000
IsInRange (Export app name) = app < 8
IsInRange (Import app name) = app < 8
IsInRange (RecoverRoot app) = app < 8
IsInRange other = ⊤
