-- One command: its reply, and the world after it.
use Rattle.std.specs.Prelude.{◌≡◌, ◌⊎◌, ℕ, List, [], Bool, true, false, cond, ◌&&◌, ◌||◌, Option, Some, None, Result}
use Rattle.std.specs.Prelude.{Ok, Err, option_map, is_some, is_none, is_ok, IsTrue}
use Rattle.per_base.specs.declared.elements.StoreKind.TheVariants as kinds
use Rattle.per_base.specs.declared.errors.PerError.{PerError}
use Rattle.per_base.specs.declared.errors.PerError.TheVariants as error
use Rattle.disk_model.specs.Case.{Case}
use Rattle.command_text.specs.declared.calls.Call.{Call}
use Rattle.command_text.specs.declared.calls.Call.TheVariants as call
use Rattle.command_text.specs.declared.calls.Event.{Event}
use Rattle.command_text.specs.declared.calls.Event.TheVariants as event
use Rattle.command_text.specs.declared.replies.Answer.TheVariants as answer
use Rattle.command_text.specs.declared.replies.Reply.{Reply}
use Rattle.deploy_laws.specs.Apps.{App, app_at}
use Rattle.deploy_rows.specs.Rows.{◌>>=◌, reopened, offered}
use Rattle.run_model.specs.Converters.{Converters}
use Rattle.run_model.specs.Found.{FoundStorage, storage_in}
use Rattle.run_model.specs.Calls.{Outcome, StepBeside, without_session, unless_open, local_on, least_open}
use Rattle.run_model.specs.Calls.{beside_update, app_step}
use Rattle.run_model.specs.Worlds.{Application, none_open, to_open, at_rest, is_to_open, update_in, Disks, Doubt, World}
use Rattle.run_model.specs.Worlds.{world_at, after_run, disks, app_of, with_app, without_doubt, ApplicationAt}
use Rattle.run_model.specs.Worlds.{application_at, application_in}

-- ---- the step of an application whose device does not fail

-- a root that is to be opened again is opened first
abbrev pub root_opened : Application → Application
root_opened r = cond (is_to_open r.stage) (record r { disk = reopened r.disk; stage = at_rest }) r

-- the same of one at a moment
abbrev pub with_root_opened : ApplicationAt → ApplicationAt
with_root_opened at = application_at at.app at.now (root_opened at.application)

-- A call of an application may have this outcome, a reply and the application after it, where no device fails: its root
-- is opened first where it is to be, and beside an update in progress most calls are refused.
abbrev pub AppStep : Converters → ApplicationAt → Call → Outcome → Type 0
AppStep converters at c outcome = StepBeside converters (with_root_opened at) c
    (beside_update (update_in (root_opened at.application).stage) c) outcome

-- ---- which commands call the device

-- whether the command itself calls the device, refused or not; a close does so for files alone
abbrev pub uses_device : App → Call → Bool
uses_device a call.Status = false
uses_device a call.UpdateAbort = false
uses_device a (call.Close n) = is_ok (storage_in a n (Some kinds.Files))
uses_device a other = is_none (local_on other)

-- whether a command calls the device, if only to open its application's root
abbrev pub calls_device : Application → Call → Bool
calls_device r c = is_to_open r.stage || uses_device r.disk c

-- the doubt after a command: one that calls the device begins in a doubt with a sync, before every refusal, which ends
-- it
abbrev pub doubt_after : (calls : Bool) → Option Doubt → Option Doubt
doubt_after true doubt = None
doubt_after false doubt = doubt

-- ---- an ordinary step

-- The command may take the world w to w' with this reply, where no device fails; all other applications stay.
abbrev pub Step : Converters → World → Event → Reply → World → Type 0
Step converters w (event.Now t) reply w' = (reply ≡ record { reports = []; answer = answer.Done })
    × (w' ≡ record w { now = t })
Step converters w (event.App app c) reply w' = (outcome : Outcome)
    × AppStep converters (application_in w app) c outcome × (reply ≡ outcome.0)
    × (w' ≡ record (with_app w app outcome.1) { doubt = doubt_after (calls_device (app_of w app) c) w.doubt })

-- ---- a device that fails

-- the reply that the device failed
abbrev pub failure : Reply
failure = record { reports = []; answer = answer.Error error.PhysicalStorageFailure }

-- the device fails in the sync that was to end the doubt of w: nothing changes, so that w' is w
abbrev pub SyncFails : World → Event → Reply → World → Type 0
SyncFails w (event.Now t) reply w' = ⊥
SyncFails w (event.App app c) reply w' = IsTrue (calls_device (app_of w app) c && is_some w.doubt) × (reply ≡ failure)
    × (w' ≡ w)

-- the storage that a command works on, of those that call the device
abbrev pub device_storage : Call → Option (List ℕ)
device_storage (call.OpenKvs n) = Some n
device_storage (call.OpenFiles n) = Some n
device_storage (call.Sync n) = Some n
device_storage (call.Flush n h) = Some n
device_storage (call.Close n) = Some n
device_storage (call.RecoverStorage n) = Some n
device_storage (call.ResetStorage n) = Some n
device_storage other = None

-- the storage on which a command works that may call the device, or the refusal where it is not found
abbrev pub found_named : Application → Call → Option (Result FoundStorage PerError)
found_named r c = option_map (λ n. storage_in r.disk n None) (device_storage c)

-- A failure in a storage that is named ends its session. Any other, and one in opening the root, ends all sessions and
-- the update, and the root is to be opened again. What is on the disk is what reads then give.
abbrev pub after_failure : App → Application → Option (Result FoundStorage PerError) → Application
after_failure a r None = record { disk = a; stage = to_open; sessions = none_open }
after_failure a r (Some (Err e)) = record r { disk = a }
after_failure a r (Some (Ok f)) = record (without_session r f.number) { disk = a }

-- whether the command gets past the refusals that are known without a device
abbrev pub passes_refusals : (app : ℕ) → Application → (now : ℕ) → Call → Bool
passes_refusals app r now (call.Update text) = is_ok (offered (least_open r) text r.disk)
passes_refusals app r now (call.UpdateBegin text) = is_ok (offered (least_open r) text r.disk)
passes_refusals app r now (call.RecoverStorage n) = is_ok (storage_in r.disk n None >>= λ f. unless_open r f (Ok f))
passes_refusals app r now (call.ResetStorage n) = is_ok (storage_in r.disk n None >>= λ f. unless_open r f (Ok f))
passes_refusals app r now other = is_ok (app_step app r now other)

-- the call reaches the device by itself: it uses it, and is not refused before
abbrev pub reaches_device : (app : ℕ) → Application → (now : ℕ) → Call → Bool
reaches_device app r now c = uses_device r.disk c && is_none (beside_update (update_in r.stage) c)
    && passes_refusals app r now c

-- the device fails in opening the root, or in the call itself: application r becomes r', with what reads then give on
-- the disk, `a`
abbrev pub FailsAs : (app now : ℕ) → App → Application → Call → Application → Type 0
FailsAs app now a r c r' = (IsTrue (is_to_open r.stage) × (r' ≡ after_failure a r None))
    ⊎ (IsTrue (reaches_device app (root_opened r) now c)
    × (r' ≡ after_failure a (root_opened r) (found_named (root_opened r) c)))

-- `ds` may be what is on the disk once a command in progress has ended: what it leads to, or what was there before
abbrev pub Leads : Converters → World → Event → Disks → Type 0
Leads converters w e ds = (ds ≡ disks w) ⊎ ((reply : Reply) × (w' : World)
    × Step converters (without_doubt w) e reply w' × (ds ≡ disks w'))

-- The device failed elsewhere. The doubt is between what was on the disk before and what the command leads to, with a
-- case of the disk whose image is what reads then give; what is on the disk is what that image denotes.
abbrev pub FailsElsewhere : Converters → World → Event → Reply → World → Type 0
FailsElsewhere converters w (event.Now t) reply w' = ⊥
FailsElsewhere converters w (event.App app c) reply w' = (r' : Application) × (after : Disks) × (read : Case)
    × FailsAs app w.now (app_at read.left app) (app_of w app) c r' × Leads converters w (event.App app c) after
    × (reply ≡ failure)
    × (w' ≡ record (with_app w app r') { doubt = Some (record { before = disks w; after = after; case = read }) })
    × (world_at read.left ≡ after_run w')

-- ---- a step

-- The command is answered so, and leads there: as an ordinary step, or as one whose device failed.
abbrev pub StepsTo : Converters → World → Event → Reply → World → Type 0
StepsTo converters w e reply w' = Step converters w e reply w'
    ⊎ (SyncFails w e reply w' ⊎ FailsElsewhere converters w e reply w')
