-- A run: what holds of the disk at its end and at every moment, and all of it together.
use Rattle.std.specs.Prelude.{◌≡◌, ◌≢◌, ◌⊎◌, ◌≤◌, ◌<◌, ℕ, List, [], ◌∷◌, ◌++◌, length, Option, Some, None, Bool}
use Rattle.std.specs.Prelude.{IsTrue, ⊤}
use Rattle.std.specs.List.{AllByRecursion}
use Rattle.std.specs.Io.KnownBytes.{Appends, Consumes, IsAtEnd}
use Rattle.disk_model.specs.Case.{Case}
use Rattle.disk_model.specs.Medium.{Medium, Quiet, OnlyReads, EachCase, Elapses}
use Rattle.command_text.specs.declared.calls.Event.{Event}
use Rattle.command_text.specs.declared.lines.Line.TheVariants as line
use Rattle.command_text.specs.Grammar.{IsLine}
use Rattle.deploy_laws.specs.Apps.{IsCleanApp}
use Rattle.deploy_laws.specs.Pieces.{IsSoundApp}
use Rattle.run_model.specs.Bounds.{AreBounded, IsBegunWithin, StartsWithin, bytes_after}
use Rattle.run_model.specs.Converters.{Converters}
use Rattle.run_model.specs.Edges.{Edges, failures_at}
use Rattle.run_model.specs.Endings.{Ending, device, ending_status, HasStarted, HasEnded, HasCauseOf, EndsBy, IsInput}
use Rattle.run_model.specs.Lasting.{IsWorld}
use Rattle.run_model.specs.Lines.{lines_of, Give}
use Rattle.run_model.specs.Moments.{AreImaged, IsMomentOf, OrBefore, last_of, AreSoundDoubts, AreDecided}
use Rattle.run_model.specs.Steps.{Leads}
use Rattle.run_model.specs.Turns.{DiskBytes, Turn, bytes_now, events_of, worlds_of, replies_text, Follow}
use Rattle.run_model.specs.Turns.{CountsFailures}
use Rattle.run_model.specs.Worlds.{Disks, Doubt, World, disks, world_at, after_start, after_run}

-- ---- doubts

-- the case of a doubt is one of these
abbrev pub IsCaseOfDoubt : (since : Case → Type 0) → Option Doubt → Type 0
IsCaseOfDoubt since None = ⊤
IsCaseOfDoubt since (Some d) = since d.case

-- the case of the doubt of each world is one of these
abbrev pub AreCases : (since : Case → Type 0) → List World → Type 0
AreCases since worlds = AllByRecursion (λ (w : World). IsCaseOfDoubt since w.doubt) worlds

-- a case of the disk since the start of the run, which leaves what reads gave at that moment
abbrev pub IsReadSince : (old new : Medium) → Case → Type 0
IsReadSince old new c = new.gave old.moment c

-- ---- every moment

-- What a stop leaves of each application, for a run that reached these worlds one after another, with `next` in
-- progress after the last. Until the start has synchronised the disk it may also leave what one before the run might
-- have left.
pub record Everywhen (entry : World) (reached : List World) (next : Disks) (old new : Medium) : Type 0 where
  -- each moment of the run, for each application whose places were clean at the start
  pub always : (app : ℕ) → app < 8 → IsCleanApp app old.image → AreSoundDoubts app reached
      → EachCase (OrBefore old (IsMomentOf app entry reached next)) old new
  -- what reads gave after each command that failed stands between what was there before it and what it leads to
  pub decided : (app : ℕ) → app < 8 → IsCleanApp app old.image → AreSoundDoubts app reached
      → AreDecided app reached
  -- and the moments of the exit: where the start came after its sync nothing from before the run is left, and else the
  -- run did nothing
  pub at_exit : (app : ℕ) → app < 8 → IsCleanApp app old.image → AreSoundDoubts app reached → (c : Case) → new.now c
      → ((reached ≡ []) × OnlyReads old new) ⊎ IsMomentOf app (last_of entry reached) [] next c

-- ---- the end

-- every command that was begun has ended: the disk holds the last world, and nothing is pending unless a doubt is left
pub record IsSettled (w : World) (new : Medium) : Type 0 where
  pub world : world_at new.image ≡ after_run w
  pub quiet : w.doubt ≡ None → Quiet new

-- The lines that were handled, in order and none left out, of the lines `all`; the commands that they gave, each with
-- its reply; and what the sink had taken before, and has taken now.
pub record Handling : Type 0 where
  pub lines : List (List ℕ)
  pub all : List (List ℕ)
  pub turns : List Turn
  pub before : Option (List ℕ)
  pub now : Option (List ℕ)

-- the same where nothing is said of the sink
abbrev pub without_sink : (lines all : List (List ℕ)) → List Turn → Handling
without_sink lines all turns = record { lines = lines; all = all; turns = turns; before = None; now = None }

-- how far a run came: the worlds, what was in progress, and the disk's bytes after the start and at the end
pub record Reach : Type 0 where
  pub worlds : List World
  pub next : Disks
  pub begun : DiskBytes
  pub held : DiskBytes

-- a command in progress is that of the next line, from the last world on, and leads to `next`; it began at the bytes
-- that the last command left, from the bytes `begun` of the start on, and the disk's bytes are `held` now
pub record IsInProgress (converters : Converters) (start : World) (handling : Handling) (next : Disks)
    (begun held : DiskBytes) : Type 0 where
  pub text : List ℕ
  pub others : List (List ℕ)
  pub event : Event
  pub is_next : handling.all ≡ handling.lines ++ text ∷ others
  pub spelled : IsLine text (line.Event event)
  pub leads : Leads converters (last_of start (worlds_of handling.turns)) event next
  pub bounded : IsBegunWithin converters (last_of start (worlds_of handling.turns)) event
      (bytes_after begun handling.turns) held

-- how far a run came, through the commands that were answered
pub data Progress (converters : Converters) (ending : Ending) (start : World) (handling : Handling)
    (reach : Reach) : Type 0
  where
    -- the start did not end: no line was taken, and nothing was handled
    starting : ¬ (HasStarted ending) → handling.lines ≡ [] → handling.all ≡ [] → handling.turns ≡ []
        → reach.worlds ≡ [] → reach.next ≡ disks start → reach.held ≡ reach.begun
        → Progress converters ending start handling reach
    -- nothing is in progress, and nothing was written after the last command
    between : HasStarted ending → reach.worlds ≡ start ∷ worlds_of handling.turns
        → reach.next ≡ disks (last_of start (worlds_of handling.turns))
        → reach.held ≡ bytes_after reach.begun handling.turns → Progress converters ending start handling reach
    -- the command of the next line is, and the text of every reply was written before it was begun
    within : HasStarted ending → ¬ (HasEnded ending)
        → Appends handling.before handling.now (replies_text handling.turns)
        → reach.worlds ≡ start ∷ worlds_of handling.turns
        → IsInProgress converters start handling reach.next reach.begun reach.held
        → Progress converters ending start handling reach

-- At the end of a run nothing of the application passes its hash by chance: every command that was begun has ended; or
-- no byte was written after the last one that did, which left these bytes; or what reads now give is sound.
pub data IsSoundEnd (app : ℕ) (ending : Ending) (last : DiskBytes) (new : Medium) : Type 0 where
  all_ended : HasEnded ending → IsSoundEnd app ending last new
  none_written : HasStarted ending → bytes_now new ≡ last → IsSoundEnd app ending last new
  sound_reads : (c : Case) → new.now c → c.left ≡ new.image → IsSoundApp app c → IsSoundEnd app ending last new

-- what a run promises of a disk whose bytes are modelled
pub record DiskSide (converters : Converters) (ending : Ending) (handling : Handling) (old new : Medium) : Type 0 where
  -- each reply and each world is the specified one
  pub follow : Follow converters (after_start (world_at old.image)) handling.turns
  pub worlds : AllByRecursion IsWorld (after_start (world_at old.image) ∷ worlds_of handling.turns)
  -- a doubt has a case of the disk since the start, and what reads then gave
  pub cases : AreCases (IsReadSince old new) (worlds_of handling.turns)
  -- the end of the last command
  pub settled : HasEnded ending
      → IsSettled (last_of (after_start (world_at old.image)) (worlds_of handling.turns)) new
  pub reached : List World
  pub next : Disks
  -- what the start and each command wrote; `begun` are the bytes that the start left, however it ended
  pub begun : DiskBytes
  pub starts : StartsWithin (bytes_now old) begun
  pub bounded : AreBounded converters (after_start (world_at old.image)) begun
      handling.turns
  pub progress : Progress converters ending (after_start (world_at old.image)) handling
      (record { worlds = reached; next = next; begun = begun; held = bytes_now new })
  -- each application, and what was there before a command that left a doubt, is what some image denotes
  pub imaged : (app : ℕ) → app < 8 → AreImaged app reached
  -- the places that were clean are clean again, however the run ended
  pub clean : (app : ℕ) → app < 8 → IsCleanApp app old.image → AreSoundDoubts app (worlds_of handling.turns)
      → IsSoundEnd app ending (bytes_after begun handling.turns) new → IsCleanApp app new.image
  -- every moment
  pub everywhen : Everywhen (world_at old.image) reached next old new

-- ---- a run over accepted words

-- One course of lines, commands, replies and worlds serves all of it.
pub record Run (told : Bool) (converters : Converters) (status : ℕ) (before after : Edges Medium) : Type 0 where
  pub ending : Ending
  pub status_is : status ≡ ending_status ending
  -- the bytes that the source gave, and whether its end was seen; after as many as are allowed nobody looks for the
  -- end
  pub given : List ℕ
  pub taken : Consumes before.left after.left given
  -- at most 64 MiB
  pub bound : length given ≤ 67108864
  pub ended : Bool
  pub end_seen : IsTrue ended → IsAtEnd after.left × (length given < 67108864)
  pub input : IsInput ending ended (length given)
  -- the lines that were handled, in order and none left out, and the commands that they gave
  pub lines : List (List ℕ)
  pub turns : List Turn
  pub gives : Give lines (events_of turns)
  pub ends : EndsBy ending lines (lines_of ended given) turns before.taken after.taken
  -- also over a disk that models nothing: what a failure has to do with the status and with each reply, and how time
  -- goes on
  pub cause : HasCauseOf ending (failures_at before) (failures_at after)
  pub failures : CountsFailures (ending ≢ device) before.disk.faults turns after.disk.faults
  pub time : Elapses before.disk after.disk
  pub disk : IsTrue told → DiskSide converters ending (record {
    lines = lines;
    all = lines_of ended given;
    turns = turns;
    before = before.taken;
    now = after.taken;
  }) before.disk after.disk
