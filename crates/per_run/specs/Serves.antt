-- What a run that stays promises: its input has no bound, a line outside the grammar is answered and changes nothing,
-- and an empty disk is formatted first.
use Rattle.std.specs.Prelude.{◌≡◌, ◌≢◌, ◌⊎◌, ◌≤◌, ◌<◌, ◌+◌, ◌*◌, ◌-◌, ◌^◌, min, ℕ, List, [], ◌∷◌, ◌++◌, length, map}
use Rattle.std.specs.Prelude.{take, Option, Bool, false, IsTrue, IsFalse, codes, ⊤}
use Rattle.std.specs.List.{AllByRecursion, flat_map}
use Rattle.std.specs.Io.KnownBytes.{Appends, Consumes, IsAtEnd, Keeps}
use Rattle.per_base.specs.Causes.{Rose}
use Rattle.disk_model.specs.Frame.{Spares}
use Rattle.disk_model.specs.Image.{Image}
use Rattle.disk_model.specs.Medium.{Medium, Quiet, Elapses, OnlyReads}
use Rattle.disk_model.specs.declared.disk.Disk.{Ghosts as DiskOf}
use Rattle.command_text.specs.declared.lines.Line.TheVariants as line
use Rattle.command_text.specs.Grammar.{IsLine}
use Rattle.command_text.specs.Replies.{reply_text}
use Rattle.deploy_laws.specs.Apps.{IsCleanApp}
use Rattle.deploy_rows.specs.Costs.{format_cost}
use Rattle.run_model.specs.Converters.{Converters}
use Rattle.run_model.specs.Edges.{Edges, failures_at, modelled}
use Rattle.run_model.specs.Endings as endings
use Rattle.run_model.specs.Endings.{Ending, HasCauseOf, bad_line_text, ending_status}
use Rattle.run_model.specs.Lines.{IsBad, lines_of}
use Rattle.run_model.specs.Moments.{last_of}
use Rattle.run_model.specs.Runs.{DiskSide, IsSettled, without_sink}
use Rattle.run_model.specs.Runtimes.{IsNoRoot}
use Rattle.run_model.specs.Turns.{DiskBytes, Turn, CountsFailures, bytes_now, worlds_of}
use Rattle.run_model.specs.Worlds.{after_start, formatted, world_at}
use Rattle.run_model.specs.Writes.{AreRootsAlone}

-- ---- the lines that were handled

-- a line that says nothing; one whose command was answered; one outside the grammar
pub data Heard : Type 0 where
  passed : (text : List ℕ) → Heard
  answered : (text : List ℕ) → Turn → Heard
  refused : (text : List ℕ) → Heard

-- the line itself
abbrev pub heard_line : Heard → List ℕ
heard_line (passed text) = text
heard_line (answered text t) = text
heard_line (refused text) = text

-- the line is of the sort that is said of it
abbrev pub IsHeard : Heard → Type 0
IsHeard (passed text) = IsLine text line.Nothing
IsHeard (answered text t) = IsLine text (line.Event t.event)
IsHeard (refused text) = IsBad text

-- the command of the line with its reply, where it has one
abbrev pub turn_in : Heard → List Turn
turn_in (passed text) = []
turn_in (answered text t) = t ∷ []
turn_in (refused text) = []

-- the lines themselves
abbrev pub lines_in : List Heard → List (List ℕ)
lines_in heard = map heard_line heard

-- the commands among them, which were answered in this order
abbrev pub turns_in : List Heard → List Turn
turns_in heard = flat_map turn_in heard

-- ---- what is written of them

-- the number of a line after that many others, counted from 1: all after the last number of 64 bits have that one
abbrev pub next_line_number : ℕ → ℕ
next_line_number count = min (count + 1) (2 ^ 64 - 1)

-- of a line of this number: nothing, the reply of its command, or its number
abbrev pub heard_text : (number : ℕ) → Heard → List ℕ
heard_text number (passed text) = []
heard_text number (answered text t) = reply_text t.reply
heard_text number (refused text) = bad_line_text number

-- of lines after that many others
abbrev pub texts_after : (count : ℕ) → List Heard → List ℕ
texts_after count [] = []
texts_after count (h ∷ hs) = heard_text (next_line_number count) h ++ texts_after (count + 1) hs

-- what is written of all lines since the start
abbrev pub heard_texts : List Heard → List ℕ
heard_texts heard = texts_after 0 heard

-- ---- how it ends: `heard` were handled, of the lines `all`

-- all lines are handled
pub record HasServedAll (heard : List Heard) (all : List (List ℕ)) (before now : Option (List ℕ)) : Type 0 where
  pub next : all ≡ lines_in heard
  pub wrote : Appends before now (heard_texts heard)

-- the next line is `end`
pub record HasServedToEnd (heard : List Heard) (all : List (List ℕ)) (before now : Option (List ℕ)) : Type 0 where
  pub others : List (List ℕ)
  pub next : all ≡ lines_in heard ++ codes "end" ∷ others
  pub wrote : Appends before now (heard_texts heard)

-- the start did not end
pub record HasServedNone (heard : List Heard) (before now : Option (List ℕ)) : Type 0 where
  pub no_line : heard ≡ []
  pub wrote : Appends before now []

-- the run was interrupted after some line
pub record HasServedSome (heard : List Heard) (all : List (List ℕ)) (before now : Option (List ℕ)) : Type 0 where
  pub others : List (List ℕ)
  pub next : all ≡ lines_in heard ++ others
  pub wrote : Appends before now (heard_texts heard)

-- of the last line's text that many bytes were written, and fewer than all
pub record IsCutAfter (count : ℕ) (heard : List Heard) (all : List (List ℕ)) (before now : Option (List ℕ)) : Type 0
  where
    pub others : List (List ℕ)
    pub next : all ≡ lines_in heard ++ others
    pub earlier : List Heard
    pub last : Heard
    pub heard_are : heard ≡ earlier ++ last ∷ []
    pub short : count < length (heard_text (next_line_number (length earlier)) last)
    pub wrote : Appends before now (heard_texts earlier
        ++ take count (heard_text (next_line_number (length earlier)) last))

-- `Rests` is what holds where no command is in progress: memory ran out at the next line, after the texts of all lines
-- before it; or for the text of the last one, whose command has ended
abbrev pub ServesBy : (Rests : Type 0) → Ending → List Heard → (all : List (List ℕ)) → (before now : Option (List ℕ))
    → Type 0
ServesBy Rests endings.all_read heard all before now = HasServedAll heard all before now
ServesBy Rests endings.end_line heard all before now = HasServedToEnd heard all before now
ServesBy Rests endings.bad_line heard all before now = ⊥
ServesBy Rests endings.device heard all before now = HasServedNone heard before now
ServesBy Rests endings.start_memory heard all before now = HasServedNone heard before now
ServesBy Rests endings.memory heard all before now = HasServedSome heard all before now
    ⊎ (Rests × IsCutAfter 0 heard all before now)
ServesBy Rests endings.source heard all before now = HasServedAll heard all before now
ServesBy Rests endings.sink heard all before now = (count : ℕ) × IsCutAfter count heard all before now
ServesBy Rests endings.too_long heard all before now = HasServedAll heard all before now

-- whether the end of the input was seen, and how many bytes were taken: it is too long where nobody can count them
abbrev pub IsServedInput : Ending → (ended : Bool) → (count : ℕ) → Type 0
IsServedInput endings.all_read ended count = IsTrue ended
IsServedInput endings.device ended count = IsFalse ended × (count ≡ 0)
IsServedInput endings.start_memory ended count = IsFalse ended × (count ≡ 0)
IsServedInput endings.source ended count = IsFalse ended
IsServedInput endings.too_long ended count = IsFalse ended × (2 ^ 64 - 1 ≤ count)
IsServedInput other ended count = ⊤

-- ---- a run that stays, from its start on

-- A last line without its line feed is none of the lines. Of the disk is promised what a run promises, but with None
-- for what was written, as for a sink that models nothing: here `ends` says that.
pub record Serve (told : Bool) (converters : Converters) (status : ℕ) (before after : Edges Medium) : Type 0 where
  pub ending : Ending
  pub status_is : status ≡ ending_status ending
  pub given : List ℕ
  pub taken : Consumes before.left after.left given
  pub ended : Bool
  pub end_seen : IsTrue ended → IsAtEnd after.left
  pub input : IsServedInput ending ended (length given)
  pub heard : List Heard
  pub are : AllByRecursion IsHeard heard
  pub ends : ServesBy (IsTrue told
      → IsSettled (last_of (after_start (world_at before.disk.image)) (worlds_of (turns_in heard))) after.disk)
      ending heard (lines_of false given) before.taken after.taken
  pub cause : HasCauseOf ending (failures_at before) (failures_at after)
  pub failures : CountsFailures (ending ≢ endings.device) before.disk.faults (turns_in heard) after.disk.faults
  pub time : Elapses before.disk after.disk
  pub disk : IsTrue told → DiskSide converters ending
      (without_sink (lines_in heard) (lines_of false given) (turns_in heard)) before.disk after.disk

-- ---- the disk that it starts on

-- no file of an application has a byte: eight have 4096 files each
abbrev pub HasNoBytes : Image → Type 0
HasNoBytes image = (file : ℕ) → file < 32768 → image file ≡ []

-- The formatting of eight roots and the start on them, however far they came: only slots of roots change, and no more
-- is written than the formatting costs. The start writes nothing.
pub record FormatsWithin (old new : DiskBytes) : Type 0 where
  pub roots : Spares IsNoRoot old.image new.image
  pub written : new.written ≤ old.written + 8 * format_cost

-- eight applications of which nothing is installed, in clean places, and nothing pending; only slots of roots changed,
-- and no more was written than the formatting of eight roots costs; and each root is held alone, so that the start then
-- writes nothing
pub record IsFreshlyFormatted (told : Bool) (old start : Medium) : Type 0 where
  pub world : IsTrue told → world_at start.image ≡ formatted
  pub clean : IsTrue told → (app : ℕ) → app < 8 → IsCleanApp app start.image
  pub quiet : Quiet start
  pub passes : start.faults ≡ old.faults
  pub roots : IsTrue told → Spares IsNoRoot old.image start.image
  pub written : start.written ≤ old.written + 8 * format_cost
  pub alone : IsTrue told → AreRootsAlone start.image
  pub time : Elapses old start

-- a run that stays starts on the disk as it was; or on one that it formatted, since it was empty
pub data IsPreparedDisk {D : Type 0} (told : Bool) (medium : D → Medium) (old start : D) : Type 0 where
  as_it_was : (IsTrue told → HasNoBytes (medium old).image → ⊥) → start ≡ old → IsPreparedDisk told medium old start
  formatted_first : (IsTrue told → HasNoBytes (medium old).image) → IsFreshlyFormatted told (medium old) (medium start)
      → IsPreparedDisk told medium old start

-- the disk was empty, and no more than the formatting and the start was done; or it failed while it was looked at, and
-- nothing changed
abbrev pub HadNothing : {D : Type 0} → (told : Bool) → (medium : D → Medium) → (old new : D) → Type 0
HadNothing told medium old new = ((IsTrue told → HasNoBytes (medium old).image)
    × (IsTrue told → FormatsWithin (bytes_now (medium old)) (bytes_now (medium new))))
    ⊎ OnlyReads (medium old) (medium new)

-- A run that stays went over the disk that was prepared; or that was empty or could not be read, and the runtime did
-- not start: no line was taken and nothing written, and where memory ran out no call of the disk had failed.
pub data Serves {D : Type 0} (of_disk : DiskOf D) (converters : Converters) (status : ℕ)
    (before after : Edges D) : Type 0
  where
    served : (start : D) → IsPreparedDisk of_disk.told of_disk.medium before.disk start
        → Serve of_disk.told converters status (modelled of_disk (record before { disk = start }))
        (modelled of_disk after) → Serves of_disk converters status before after
    unprepared : HadNothing of_disk.told of_disk.medium before.disk after.disk
        → ((status ≡ 3) × Rose (of_disk.medium before.disk).faults (of_disk.medium after.disk).faults)
        ⊎ ((status ≡ 4) × ((of_disk.medium after.disk).faults ≡ (of_disk.medium before.disk).faults))
        → Keeps before.left after.left → Keeps before.taken after.taken
        → Serves of_disk converters status before after
