-- The statements of the laws. `converters` are the stored converters and what they may answer; `w` is a world
-- before a command and `w'` the one after it; `old`, `now` and `new` are what the model knows of the disk at moments
-- one after another; `ds` is what is on the disk of each application, `d` a doubt and `c` a call or a case of a crash.
-- `app`, `other`, `a` and `b` are numbers of applications, `e` is a command, `reply` its answer, and `f` a storage that
-- was found by its name; `v` is another world, but where it is a view.
use Rattle.std.specs.Prelude.{◌≡◌, ◌≢◌, ◌⊎◌, ◌<◌, ◌+◌, ℕ, List, [], ◌∷◌, ◌++◌, length, true, false, Option, Some, None}
use Rattle.std.specs.Prelude.{Ok}
use Rattle.std.specs.Io.KnownBytes.{Appends}
use Rattle.disk_model.specs.Case.{Case}
use Rattle.disk_model.specs.Medium.{Medium, Quiet, Elapses, OnlyReads, WritesNothing, EachCase}
use Rattle.deployment_model.specs.Data.{StorageData}
use Rattle.element_state.specs.declared.shapes.View.{View}
use Rattle.element_state.specs.Kept.{HasEnough}
use Rattle.element_state.specs.States.{State, Opens, store_at}
use Rattle.command_text.specs.declared.calls.Call.{Call}
use Rattle.command_text.specs.declared.calls.Event.{Event}
use Rattle.command_text.specs.declared.calls.Event.TheVariants as event
use Rattle.command_text.specs.declared.lines.Line.TheVariants as line
use Rattle.command_text.specs.declared.replies.Reply.{Reply}
use Rattle.command_text.specs.Grammar.{IsLine}
use Rattle.deploy_laws.specs.Places.{storage_shape}
use Rattle.deploy_laws.specs.Apps.{nothing, App, app_at, says_at, IsCleanApp}
use Rattle.deploy_laws.specs.Pieces.{IsSoundApp}
use Rattle.deploy_laws.specs.Stands.{IsLater, Stands}
use Rattle.deploy_rows.specs.Rows.{reopened}
use Rattle.run_model.specs.AppLaws.{IsDiskOf, Calls, OpensRoot}
use Rattle.run_model.specs.Converters.{Converters}
use Rattle.run_model.specs.Decided.{one_storage, OpensAsEither}
use Rattle.run_model.specs.Moments.{Between, IsReady, StepKeeps, IsMomentOf, IsDecided}
use Rattle.run_model.specs.KeepLaws.{StaysOnTheWay}
use Rattle.run_model.specs.Starting.{OpenedUpTo}
use Rattle.run_model.specs.Found.{FoundStorage, storage_in, with_storage_state}
use Rattle.run_model.specs.Calls.{session_at}
use Rattle.run_model.specs.Worlds.{Disks, Doubt, World, disks, disk_at, app_of, without_doubt}
use Rattle.run_model.specs.Steps.{Step, StepsTo, SyncFails, FailsElsewhere, calls_device, root_opened, device_storage}
use Rattle.run_model.specs.Lasting.{IsWorld}
use Rattle.run_model.specs.LastingLaws.{AreSeenAgain, synchronises, IsReadBeside}
use Rattle.run_model.specs.Runtimes.{Memory, world_of, Stepped, Stopped, Starts, StartKeeps, runtime_at}
use Rattle.run_model.specs.Endings.{Ending, HasStarted, HasEnded}
use Rattle.run_model.specs.Turns.{Turn, turn, replies_text, IsBlamed, AreBlamed}
use Rattle.run_model.specs.Runs.{DiskSide}
use Rattle.run_model.specs.RunLaws.{Going}
use Rattle.run_model.specs.Lives.{BeginsAfterStop, IsAmong, Job, JobMayLeave, Known, Life, Pair, pairs_of}

-- ---- single commands

-- Two worlds that agree on an application and on the moment answer a command of it alike, where no device fails, and
-- lead it to the same.
abbrev pub AlikeLaw : Converters → Type 0
AlikeLaw converters = (v w v' : World) (app : ℕ) (c : Call) (reply : Reply) → app < length v.apps
    → app < length w.apps → app_of v app ≡ app_of w app
    → v.now ≡ w.now → Step converters v (event.App app c) reply v'
    → (w' : World) × Step converters w (event.App app c) reply w' × (app_of w' app ≡ app_of v' app)

-- A command of one application leaves every other as it was, however it is answered.
abbrev pub OthersStayLaw : Converters → Type 0
OthersStayLaw converters = (w w' : World) (app other : ℕ) (c : Call) (reply : Reply) → other ≢ app
    → StepsTo converters w (event.App app c) reply w'
    → app_of w' other ≡ app_of w other

-- A command that calls no device ends no doubt and makes none, also where it is refused: nothing but a sync ends one.
abbrev pub DoubtStaysLaw : Converters → Type 0
DoubtStaysLaw converters = (w w' : World) (app : ℕ) (c : Call) (reply : Reply)
    → calls_device (app_of w app) c ≡ false
    → StepsTo converters w (event.App app c) reply w' → w'.doubt ≡ w.doubt

-- A command on a storage that failed at the device ends its session.
abbrev pub SessionEndsLaw : Converters → Type 0
SessionEndsLaw converters = (w w' : World) (app : ℕ) (c : Call) (reply : Reply) (name : List ℕ) (f : FoundStorage)
    → app < length w.apps → device_storage c ≡ Some name
    → storage_in (app_of w app).disk name None ≡ Ok f → FailsElsewhere converters w (event.App app c) reply w'
    → session_at (app_of w' app) f.number ≡ None

-- A storage in another state comes later, as each row of a deployment does.
abbrev pub StorageLaterLaw : Type 0
StorageLaterLaw = (a : App) (f : FoundStorage) (state : State) → IsLater a (with_storage_state a f state)

-- ---- what holds of every world

-- Setting the moment keeps what holds of every world.
abbrev pub NowLastsLaw : Converters → Type 0
NowLastsLaw converters = (w w' : World) (t : ℕ) (reply : Reply) → IsWorld w
    → StepsTo converters w (event.Now t) reply w' → IsWorld w'

-- A command that was answered keeps what holds of every world. Where it makes a session durable, this needs that the
-- session shows, once it is on the disk, what it shows now.
abbrev pub AnswersLastLaw : Converters → Type 0
AnswersLastLaw converters = (w w' : World) (app : ℕ) (c : Call) (reply : Reply)
    → (synchronises c ≡ true → AreSeenAgain app (root_opened (app_of w app))) → IsWorld w
    → Step converters w (event.App app c) reply w' → IsWorld w'

-- A failed sync that was to end a doubt keeps what holds of every world.
abbrev pub FailedSyncLastsLaw : Type 0
FailedSyncLastsLaw = (w w' : World) (app : ℕ) (c : Call) (reply : Reply) → IsWorld w
    → SyncFails w (event.App app c) reply w' → IsWorld w'

-- A command that names no storage and whose device failed keeps what holds of every world, whatever was read then.
abbrev pub FailureLastsLaw : Converters → Type 0
FailureLastsLaw converters = (w w' : World) (app : ℕ) (c : Call) (reply : Reply) → device_storage c ≡ None
    → IsWorld w
    → FailsElsewhere converters w (event.App app c) reply w' → IsWorld w'

-- A command on a storage whose device failed keeps what holds of every world, where what was read is what was there but
-- for that storage.
abbrev pub StorageFailureLastsLaw : Converters → Type 0
StorageFailureLastsLaw converters = (w w' : World) (app : ℕ) (c : Call) (reply : Reply) (name : List ℕ)
    (f : FoundStorage) → device_storage c ≡ Some name
    → storage_in (root_opened (app_of w app)).disk name None ≡ Ok f
    → (fails : FailsElsewhere converters w (event.App app c) reply w')
    → IsReadBeside (root_opened (app_of w app)) f (app_at fails.2.left app) → IsWorld w → IsWorld w'

-- ---- moments

-- After the last command the root says what it said then, or what the command in progress leads to: nothing from
-- further back. This is without a doubt, of a root that says something and that no copy lacks; `next` is where the
-- command in progress leads.
abbrev pub NotFurtherBackLaw : Type 0
NotFurtherBackLaw = (app : ℕ) (w : World) (next : Disks) (c : Case) → IsSoundApp app c → w.doubt ≡ None
    → ¬ ((disk_at (disks w) app).says ≡ nothing)
    → (disk_at (disks w) app).lacking ≡ [] → IsMomentOf app w [] next c
    → (says_at c.left app ≡ (disk_at (disks w) app).says) ⊎ (says_at c.left app ≡ (disk_at next app).says)

-- A storage whose command failed at the device opens, by what reads then gave, at the view before or at the one
-- after: it is not emptied. It is the storage `s` of an application that has no other, in its one version, under the
-- root's generation `g`; it opened at `v`, with `others` as views of the other texts, in as many copies as must agree.
abbrev pub OpensAsEitherLaw : Type 0
OpensAsEitherLaw = (app g bank version : ℕ) (s : StorageData) (v : View) (others : List View) (after : State)
    (d : Doubt)
    → disk_at d.before app ≡ one_storage g bank version s (Opens v others)
    → disk_at d.after app ≡ one_storage g bank version s after
    → IsSoundApp app d.case → HasEnough (storage_shape app bank 0 s) [] v.lacking → IsDecided app (Some d)
    → OpensAsEither (store_at d.case.left (storage_shape app bank 0 s)) v after

-- ---- how each kind of command keeps each application

-- a command that calls no disk keeps each application
abbrev pub IdleKeepsLaw : Medium → Type 0
IdleKeepsLaw m = (app : ℕ) (w w' : World) → app < 8 → IsDiskOf app (disks w) m → disks w' ≡ disks w → w'.doubt
    ≡ w.doubt
    → StepKeeps app w w' m m

-- a command in a doubt whose sync failed keeps each application
abbrev pub FailedSyncKeepsLaw : (old new : Medium) → Type 0
FailedSyncKeepsLaw old new = (app : ℕ) (w : World) (d : Doubt) → w.doubt ≡ Some d → OnlyReads old new
    → StepKeeps app w w old new

-- a command in a doubt whose sync succeeded keeps each application, as it does without a doubt
abbrev pub SyncedKeepsLaw : (old now new : Medium) → Type 0
SyncedKeepsLaw old now new = (app : ℕ) (w w' : World) (d : Doubt) → w.doubt ≡ Some d → Elapses old now
    → WritesNothing old now → Quiet now → Elapses now new
    → StepKeeps app (without_doubt w) w' now new → StepKeeps app w w' old new

-- the opening of a root keeps each application on its way
abbrev pub OnTheWayLaw : (old new : Medium) → Type 0
OnTheWayLaw old new = (a app : ℕ) (ds : Disks) → app < 8 → IsDiskOf app ds old → Quiet old → IsCleanApp app old.image
    → OpensRoot a old new → StaysOnTheWay app ds old new

-- a command whose application's root was opened first keeps each application
abbrev pub RootKeepsLaw : (old now new : Medium) → Type 0
RootKeepsLaw old now new = (app : ℕ) (w v w' : World) → IsLater (disk_at (disks w) app) (disk_at (disks w') app)
    → w.doubt ≡ None → v.doubt ≡ None
    → (disk_at (disks v) app ≡ disk_at (disks w) app) ⊎ (disk_at (disks v) app ≡ reopened (disk_at (disks w) app))
    → Elapses old now → Elapses now new → StaysOnTheWay app (disks w) old now → IsReady app v now
    → StepKeeps app v w' now new → w'.doubt ≡ None
    → StepKeeps app w w' old new

-- Where a command fails or stops after its application's root was opened, each moment is between what was before that
-- and what the command leads to.
abbrev pub RootThenLaw : (old now new : Medium) → Type 0
RootThenLaw old now new = (app : ℕ) (before opened after : Disks) → IsLater (disk_at before app) (disk_at after app)
    → (disk_at opened app ≡ disk_at before app) ⊎ (disk_at opened app ≡ reopened (disk_at before app))
    → Elapses old now → Elapses now new → StaysOnTheWay app before old now
    → EachCase (Between app opened after) now new → EachCase (Between app before after) old new

-- a command on an application that was answered keeps each application
abbrev pub CallKeepsLaw : (old new : Medium) → Type 0
CallKeepsLaw old new = (a app : ℕ) (w w' : World) → app < 8 → Calls a (disks w') old new
    → ((b : ℕ) → a ≢ b → disk_at (disks w') b ≡ disk_at (disks w) b)
    → w.doubt ≡ None → w'.doubt ≡ None → (IsCleanApp a old.image → IsCleanApp a new.image)
    → IsDiskOf app (disks w) old
    → StepKeeps app w w' old new

-- A command whose device failed keeps each application: the world after it is in doubt between what was and what the
-- command leads to, with a case whose image is what reads give.
abbrev pub CallFailsLaw : (old new : Medium) → Type 0
CallFailsLaw old new = (a app : ℕ) (w w' : World) (d : Doubt) → app < 8 → Elapses old new → Calls a d.after old new
    → ((b : ℕ) → a ≢ b → disk_at d.after b ≡ disk_at (disks w) b) → w.doubt ≡ None → w'.doubt ≡ Some d
    → d.before ≡ disks w → new.now d.case
    → d.case.left ≡ new.image → IsDiskOf app (disks w) old → StepKeeps app w w' old new

-- A command whose device failed keeps each application also where its moments include those of a root that was opened
-- before it.
abbrev pub FailureKeepsLaw : (old new : Medium) → Type 0
FailureKeepsLaw old new = (app : ℕ) (w w' : World) (d : Doubt) → w'.doubt ≡ Some d → d.before ≡ disks w
    → Elapses old new → IsDiskOf app (disks w) old
    → new.now d.case → d.case.left ≡ new.image
    → (IsReady app w old → EachCase (Between app (disks w) d.after) old new)
    → StepKeeps app w w' old new

-- ---- the start

-- a start whose sync has ended has opened no root yet
abbrev pub NoneOpenedLaw : (old now : Medium) → Type 0
NoneOpenedLaw old now = Elapses old now → WritesNothing old now → Quiet now → OpenedUpTo 0 old now

-- a start goes on by opening one root more
abbrev pub OneOpenedLaw : (old now new : Medium) → Type 0
OneOpenedLaw old now new = (a : ℕ) → a < 8 → OpenedUpTo a old now → OpensRoot a now new → OpenedUpTo (a + 1) old new

-- a start that has opened all eight roots keeps what was there
abbrev pub AllOpenedLaw : (old now : Medium) → Type 0
AllOpenedLaw old now = OpenedUpTo 8 old now → StartKeeps old now

-- ---- a life

-- Over any number of jobs of a life (a run, an audit, an export or an import each), the places of each application are
-- clean, and it stands between the two states of one of the pairs that the life keeps.
abbrev pub LifeLaw : {D : Type 0} → (medium : D → Medium) → Converters → Type 0
LifeLaw {D} medium converters = (app : ℕ) → app < 8 → (m : D) (pairs : List Pair)
    → Life medium converters app m pairs → Known app (medium m) pairs

-- By what a power loss leaves, with its damage, the application stands between the two states of one of the pairs that
-- were there before.
abbrev pub LifeStopsLaw : {D : Type 0} → (medium : D → Medium) → Converters → Type 0
LifeStopsLaw {D} medium converters = (app : ℕ) → app < 8 → (old new m : D) (pairs : List Pair)
    → Life medium converters app old pairs → (job : Job converters app (medium old) (medium new))
    → (stop : BeginsAfterStop app (JobMayLeave (medium old) (medium new) job)
    (pairs_of app (medium old) (medium new) job pairs) (medium m))
    → (p : Pair) × IsAmong (pairs_of app (medium old) (medium new) job pairs) p
    × Stands app (medium m).image (p.damaged ++ stop.damaged) p.before p.after

-- ---- a run: `turns` (`ts`) are its commands so far, `memory` is what the runtime keeps beside the disk, `lines` are
-- the lines that were handled, of its lines `all`; `before` and `after` are the output before the run and after it

-- where each failed reply of a run has its cause in its command, so it is with one such command more; here `before` and
-- `after` are the counts of faults
abbrev pub BlamedLaw : Type 0
BlamedLaw = (before : ℕ) (ts : List Turn) (t : Turn) (after : ℕ) → AreBlamed before ts after
    → IsBlamed after t.faults t.reply → AreBlamed before (ts ++ t ∷ []) t.faults

-- a start that ended is a run without a command
abbrev pub RunBeginsLaw : Converters → (old new : Medium) → Type 0
RunBeginsLaw converters old new = (memory : Memory) → Elapses old new → Starts memory old new
    → Going converters old [] None (runtime_at memory new)

-- a start that did not end is a run that ended there, before any line was taken
abbrev pub StartStopsLaw : Converters → (old new : Medium) → Type 0
StartStopsLaw converters old new = (ending : Ending) (before after : Option (List ℕ)) → Elapses old new
    → ¬ (HasStarted ending) → StartKeeps old new
    → DiskSide converters ending
    (record { lines = []; all = []; turns = []; before = before; now = after }) old new

-- A run that came through these turns from `old` to `now`, and then a command that is answered, also by the failure of
-- the device, which leads from `now` to `new`, are a run that came one turn further: with this command, its reply and
-- the world after it.
abbrev pub RunGoesOnLaw : Converters → (old now new : Medium) → Type 0
RunGoesOnLaw converters old now new = (turns : List Turn) (e : Event) (reply : Reply) (memory memory' : Memory)
    (doubt : Option Doubt) → Elapses now new
    → Going converters old turns doubt (runtime_at memory now)
    → (s : Stepped converters e reply doubt (runtime_at memory now) (runtime_at memory' new))
    → Going converters old (turns ++ turn e reply new (world_of new.image memory' s.doubt') ∷ []) s.doubt'
    (runtime_at memory' new)

-- where every command has ended, all that a run promises of the disk follows
abbrev pub RunEndsLaw : Converters → (old now : Medium) → Type 0
RunEndsLaw converters old now = (ending : Ending) (lines all : List (List ℕ)) (turns : List Turn)
    (before after : Option (List ℕ)) (memory : Memory) (doubt : Option Doubt)
    → HasStarted ending → Going converters old turns doubt (runtime_at memory now)
    → DiskSide converters ending
    (record { lines = lines; all = all; turns = turns; before = before; now = after }) old now

-- all that a run promises of the disk follows also where the command `e` of the next line, `text`, is in progress, once
-- the text of every reply before it is written; `others` are the lines after it
abbrev pub RunStopsLaw : Converters → (old now new : Medium) → Type 0
RunStopsLaw converters old now new = (ending : Ending) (lines all others : List (List ℕ)) (text : List ℕ)
    (turns : List Turn) (before after : Option (List ℕ)) (e : Event)
    (memory : Memory) (doubt : Option Doubt) → Elapses now new → HasStarted ending → ¬ (HasEnded ending)
    → Appends before after (replies_text turns) → all ≡ lines ++ text ∷ others → IsLine text (line.Event e)
    → Going converters old turns doubt (runtime_at memory now)
    → Stopped converters e doubt (runtime_at memory now) new
    → DiskSide converters ending
    (record { lines = lines; all = all; turns = turns; before = before; now = after }) old new
