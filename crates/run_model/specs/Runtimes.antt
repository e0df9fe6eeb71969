-- The runtime in memory, the world that it makes with what is on the disk, and what its start and each of its
-- commands promise.
use Rattle.std.specs.Prelude.{◌≡◌, ◌⊎◌, ◌<◌, ◌≤◌, ◌+◌, ◌||◌, ◌&&◌, ℕ, List, [], ◌∷◌, length, not, Option}
use Rattle.std.specs.Prelude.{Bool, true, false}
use Rattle.std.specs.Prelude.{Some, None, Ok, is_some, ⊤}
use Rattle.per_base.specs.declared.errors.PerError.TheVariants as error
use Rattle.disk_model.specs.Frame.{Spares, IsSettledOn}
use Rattle.disk_model.specs.Image.{Image}
use Rattle.disk_model.specs.Case.{Case}
use Rattle.disk_model.specs.Medium.{Medium, Quiet, OnlyReads, EachCase}
use Rattle.disk_model.specs.Place.{IsNoSlot}
use Rattle.element_state.specs.declared.shapes.View.{View}
use Rattle.element_state.specs.States.{Opens}
use Rattle.element_state.specs.Written.{IsWithin, map_cost}
use Rattle.element_maps.specs.Sessions.{same_map, view_once_synced}
use Rattle.element_store.specs.Committing.{index_length}
use Rattle.command_text.specs.declared.calls.Call.{Call}
use Rattle.command_text.specs.declared.calls.Call.TheVariants as call
use Rattle.command_text.specs.declared.calls.Event.{Event}
use Rattle.command_text.specs.declared.calls.Event.TheVariants as event
use Rattle.command_text.specs.declared.replies.Answer.{Answer}
use Rattle.command_text.specs.declared.replies.Answer.TheVariants as answer
use Rattle.command_text.specs.declared.replies.Reply.{Reply}
use Rattle.deploy_laws.specs.Apps.{App, app_at, IsCleanApp}
use Rattle.deploy_laws.specs.Places.{IsBeside, IsNoFileOf, root_place}
use Rattle.run_model.specs.Calls.{session_at}
use Rattle.run_model.specs.Converters.{Converters}
use Rattle.run_model.specs.Costs.{roots_cost}
use Rattle.run_model.specs.Found.{FoundStorage, shape_in}
use Rattle.run_model.specs.Lasting.{IsWorld}
use Rattle.run_model.specs.Sessions.{Session, synced_in_session, seen_of}
use Rattle.run_model.specs.Worlds.{Application, Stage, is_to_open, Sessions, Disks, Doubt, World, app_of, disks}
use Rattle.run_model.specs.Worlds.{world_at, after_start}
use Rattle.run_model.specs.Steps.{Step, SyncFails, FailsElsewhere, Leads, calls_device, found_named}
use Rattle.run_model.specs.Moments.{Between, OrBefore, StepKeeps, StopKeeps}
use Rattle.run_model.specs.Turns.{IsBlamed, bytes_now}
use Rattle.run_model.specs.Writes.{AllNeedNothing, IsCommandWithin, LeavesRoots, OnlyOpens}

-- ---- what is kept in memory

-- of an application: its stage, and its sessions
pub record Running : Type 0 where
  pub stage : Stage
  pub sessions : Sessions

-- the moment, the eight applications, and whether a command failed since the last sync
pub record Memory : Type 0 where
  pub now : ℕ
  pub apps : List Running
  pub in_doubt : Bool

-- the runtime at one moment: what it keeps in memory, and the disk
pub record RuntimeAt {ℓ} (D : Type ℓ) : Type ℓ where
  pub memory : Memory
  pub disk : D

abbrev pub runtime_at {ℓ} : {D : Type ℓ} → Memory → D → RuntimeAt D
runtime_at memory disk = record { memory = memory; disk = disk }

-- ---- the world

-- the applications from number `app` on: of each what is on the disk, and what is kept in memory
abbrev pub with_disk : (ℕ → App) → ℕ → List Running → List Application
with_disk disk app [] = []
with_disk disk app (r ∷ rs) = record { disk = disk app; stage = r.stage; sessions = r.sessions }
    ∷ with_disk disk (app + 1) rs

-- what is on the disk is what its image denotes, and all else is in memory; only the sides of a doubt are in
-- neither
abbrev pub world_of : Image → Memory → Option Doubt → World
world_of image memory doubt = record
    { now = memory.now; apps = with_disk (app_at image) 0 memory.apps; doubt = doubt }

-- the same of the runtime at one moment
abbrev pub world_in : RuntimeAt Medium → Option Doubt → World
world_in at doubt = world_of at.disk.image at.memory doubt

-- there is a doubt exactly where the memory says so
abbrev pub IsDoubt : Memory → Option Doubt → Type 0
IsDoubt memory doubt = is_some doubt ≡ memory.in_doubt

-- ---- the start

-- the file is no slot of a root
abbrev pub IsNoRoot : ℕ → Type 0
IsNoRoot file = (app : ℕ) → app < 8 → IsNoSlot (root_place app) file

-- at each moment each application stands between what it was and itself with its root mended, also where the start does
-- not end; until the start has synchronised the disk, a crash may also leave what one before the start might have left
pub record StartKeeps (old new : Medium) : Type 0 where
  pub always : (app : ℕ) → app < 8 → IsCleanApp app old.image
      → EachCase (OrBefore old (Between app (disks (world_at old.image)) (disks (after_start (world_at old.image)))))
      old
      new
  -- one that ended before it had synchronised the disk did nothing; after any other nothing from before it is left
  pub at_exit : OnlyReads old new ⊎ ((app : ℕ) → app < 8 → IsCleanApp app old.image → (c : Case) → new.now c
      → Between app (disks (world_at old.image)) (disks (after_start (world_at old.image))) c)
  -- only slots of roots change, of none that needs nothing, and no more is written than the eight roots cost, each
  -- once; and nothing where none needs anything
  pub roots : Spares IsNoRoot old.image new.image
  pub written : new.written ≤ old.written + roots_cost old.image 8
  pub left : LeavesRoots old.image new.image
  pub already : AllNeedNothing old.image → bytes_now new ≡ bytes_now old

-- A start that ended well: eight applications in memory, no doubt, the world of the disk with each root mended, nothing
-- pending, and clean places where they were clean.
pub record Starts (memory : Memory) (old new : Medium) : Type 0 where
  pub eight : length memory.apps ≡ 8
  pub sure : memory.in_doubt ≡ false
  pub world : world_of new.image memory None ≡ after_start (world_at old.image)
  pub quiet : Quiet new
  pub clean : (app : ℕ) → app < 8 → IsCleanApp app old.image → IsCleanApp app new.image
  pub keeps : StartKeeps old new

-- ---- what one command may touch

-- a file of any other application than the command's, or of none; where the moment alone is set, any file
abbrev pub IsElsewhere : Event → ℕ → Type 0
IsElsewhere (event.Now t) file = ⊤
IsElsewhere (event.App app c) file = IsNoFileOf app file

-- No file of another application changes, whatever its places hold: at the end, and in each case since the start, which
-- leaves them as they were. In a doubt, where something may still be pending, a case may also be one that might have
-- come before the command.
pub record StaysAside (e : Event) (doubt : Option Doubt) (old new : Medium) : Type 0 where
  pub elsewhere : Spares (IsElsewhere e) old.image new.image
  pub elsewhere_always : (doubt ≡ None → Quiet old) → EachCase
      (λ c. old.now c ⊎ IsSettledOn (IsElsewhere e) old.image c) old new

-- A file beside those of the storage that a command names, of an application whose root is in use: the command leaves
-- it as it was.
abbrev pub IsBesideNamed : World → Event → ℕ → Type 0
IsBesideNamed w (event.Now t) file = ⊤
IsBesideNamed w (event.App app c) file = (is_to_open (app_of w app).stage ≡ false)
    × ((f : FoundStorage) × (found_named (app_of w app) c ≡ Some (Ok f)) × IsBeside app f.bank f.number file)

-- no byte is written, and reads give what they gave
abbrev pub IsUnwritten : (old new : Medium) → Type 0
IsUnwritten old new = (new.image ≡ old.image) × (new.written ≡ old.written)

-- the command calls no device
abbrev pub calls_none : World → Event → Bool
calls_none w (event.Now t) = true
calls_none w (event.App app c) = not (calls_device (app_of w app) c)

-- refused, and not for a device that failed
abbrev pub is_refusal : Answer → Bool
is_refusal (answer.Error error.PhysicalStorageFailure) = false
is_refusal (answer.Error e) = true
is_refusal other = false

-- the root of the application is to be opened before the command
abbrev pub opens_root : World → Event → Bool
opens_root w (event.Now t) = false
opens_root w (event.App app c) = is_to_open (app_of w app).stage

-- a call that begins an update reads what the storages hold, and plans
abbrev pub only_plans : Call → Bool
only_plans (call.UpdateBegin text) = true
only_plans other = false

-- the command begins an update
abbrev pub plans_update : Event → Bool
plans_update (event.Now t) = false
plans_update (event.App app c) = only_plans c

-- a command that calls no device; and one that only plans, where no root is to be opened before
abbrev pub only_looks : World → Event → Bool
only_looks w e = calls_none w e || (plans_update e && not (opens_root w e))

-- the command only looks, or it is refused and no root is opened before it
abbrev pub writes_none : World → Event → Reply → Bool
writes_none w e reply = only_looks w e || (is_refusal reply.answer && not (opens_root w e))

-- the calls that make a session durable
abbrev pub is_durable : Call → Bool
is_durable (call.Sync n) = true
is_durable (call.Flush n h) = true
is_durable (call.Close n) = true
is_durable other = false

-- nothing where both maps are the same; and never more, in each copy, than the contents that are new or differ and the
-- next index
pub record CostsWithin (app : ℕ) (f : FoundStorage) (s : Session) (before now : ℕ) : Type 0 where
  pub same : same_map (synced_in_session s) (seen_of s) ≡ true → now ≡ before
  pub at_most : (v : View) (others : List View) → f.state ≡ Opens v others
      → IsWithin (shape_in app f).place.copies (map_cost f.config.kind (synced_in_session s) (seen_of s))
      (index_length f.config.kind (view_once_synced (shape_in app f) v (synced_in_session s) (seen_of s)).entries)
      before now

-- from old to new at most the bytes are written that making this session durable may cost
abbrev pub WritesWithin : (app : ℕ) → FoundStorage → Session → (old new : Medium) → Type 0
WritesWithin app f s old new = CostsWithin app f s old.written new.written

-- however a call ends that is to make an open storage durable
abbrev pub CostsBy : World → Event → (before now : ℕ) → Type 0
CostsBy w (event.Now t) before now = ⊤
CostsBy w (event.App app c) before now = is_durable c ≡ true → (f : FoundStorage) (s : Session)
    → found_named (app_of w app) c ≡ Some (Ok f)
    → session_at (app_of w app) f.number ≡ Some s → CostsWithin app f s before now

-- the bound of `CostsBy`, on the bytes written from old to new
abbrev pub WrittenBy : World → Event → (old new : Medium) → Type 0
WrittenBy w e old new = CostsBy w e old.written new.written

-- ---- one command

-- A step. In a doubt no byte is written before the sync that is to end it, so that one whose sync failed only read:
-- `Idle` says so of the disk.
abbrev pub StepsOn : Converters → World → Event → Reply → World → (Idle : Type 0) → Type 0
StepsOn converters w e reply w' idle = Step converters w e reply w'
    ⊎ ((SyncFails w e reply w' × idle) ⊎ FailsElsewhere converters w e reply w')

-- A command that was answered, where the runtime was in this doubt: it leads from the world before it to one after it,
-- and keeps each application at every moment. A doubt that is new has a case of the disk, whose image is what reads now
-- give.
pub record Stepped (converters : Converters) (e : Event) (reply : Reply) (doubt : Option Doubt)
    (old new : RuntimeAt Medium) : Type 0 where
  pub eight : length new.memory.apps ≡ 8
  -- the doubt after the command: there is one where the memory says so
  pub doubt' : Option Doubt
  pub is_doubt : IsDoubt new.memory doubt'
  -- the command leads from the world before it to the one after it, in which all holds that holds of every world
  pub step : StepsOn converters (world_in old doubt) e reply (world_in new doubt') (OnlyReads old.disk new.disk)
  pub world : IsWorld (world_in new doubt')
  -- each application is kept at each moment of the command
  pub keeps : (app : ℕ) → app < 8 → StepKeeps app (world_in old doubt) (world_in new doubt') old.disk new.disk
  -- a doubt is the one from before, or its case is one of the disk now; without a doubt nothing is pending
  pub case : (d : Doubt) → doubt' ≡ Some d
      → (doubt ≡ Some d) ⊎ (new.disk.now d.case × (d.case.left ≡ new.disk.image))
  pub quiet : doubt' ≡ None → Quiet new.disk
  -- no file of another application changes, nor one beside those of the storage that the command names
  pub aside : StaysAside e doubt old.disk new.disk
  pub place : Spares (IsBesideNamed (world_in old doubt) e) old.disk.image new.disk.image
  -- a command that only looks, or is refused with no root opened before it, writes no byte; and a sync, a flush or a
  -- close writes no more than what differs may cost
  pub unwritten : writes_none (world_in old doubt) e reply ≡ true → IsUnwritten old.disk new.disk
  pub written : WrittenBy (world_in old doubt) e old.disk new.disk
  -- it writes no more than it costs (`call_cost`), and beside slots of the root no file changes but in the places of
  -- the storages that it makes or names
  pub within : IsCommandWithin converters (world_in old doubt) e (bytes_now old.disk) (bytes_now new.disk)
  -- one that is refused writes no more than the opening of its root, where that is to be opened
  pub refused : is_refusal reply.answer ≡ true
      → OnlyOpens (world_in old doubt) e (bytes_now old.disk) (bytes_now new.disk)
  -- the reply that the device failed has its cause in this command
  pub blamed : IsBlamed old.disk.faults new.disk.faults reply

-- A command for which memory ran out, where the runtime was in this doubt: it is in progress.
pub record Stopped (converters : Converters) (e : Event) (doubt : Option Doubt) (old : RuntimeAt Medium)
    (new : Medium) : Type 0 where
  -- what the command leads to on the disk of each application, or what was there before
  pub after : Disks
  pub leads : Leads converters (world_in old doubt) e after
  -- at each moment each application stands between what was and that
  pub keeps : (app : ℕ) → app < 8 → StopKeeps app (world_in old doubt) after old.disk new
  -- which files it may touch, and how much it may write
  pub aside : StaysAside e doubt old.disk new
  pub place : Spares (IsBesideNamed (world_in old doubt) e) old.disk.image new.image
  pub unwritten : only_looks (world_in old doubt) e ≡ true → IsUnwritten old.disk new
  pub written : WrittenBy (world_in old doubt) e old.disk new
  pub within : IsCommandWithin converters (world_in old doubt) e (bytes_now old.disk) (bytes_now new)
