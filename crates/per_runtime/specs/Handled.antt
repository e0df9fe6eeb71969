-- A call of one application, whose root is opened first where it is to be opened: what it promises, by how it ends.
use Rattle.std.specs.Prelude.{◌≡◌, ◌≢◌, ◌⊎◌, ℕ, Bool, true, false, IsTrue, Some, Result, Ok, Err}
use Rattle.std.specs.Prelude.{IsErrOf}
use Rattle.per_base.specs.Causes.{Rose}
use Rattle.per_base.specs.declared.errors.PerError.TheVariants as error
use Rattle.disk_model.specs.Medium.{Medium, Quiet, Elapses}
use Rattle.command_text.specs.declared.calls.Call.{Call}
use Rattle.command_text.specs.declared.replies.Answer.TheVariants as answer
use Rattle.command_text.specs.declared.replies.Reply.{Reply}
use Rattle.command_text.specs.Replies.{HasText}
use Rattle.deploy.specs.declared.errors.Stop.{Stop}
use Rattle.deploy.specs.declared.errors.Stop.TheVariants.{Device, OutOfMemory}
use Rattle.deploy_laws.specs.Apps.{App, app_at, IsCleanApp}
use Rattle.deploy_laws.specs.Stands.{IsLater}
use Rattle.run_model.specs.Converters.{Converters}
use Rattle.run_model.specs.Worlds.{Application, is_to_open, application_at}
use Rattle.run_model.specs.Sessions.{Session}
use Rattle.run_model.specs.Found.{FoundStorage}
use Rattle.run_model.specs.Calls.{Outcome, session_at}
use Rattle.run_model.specs.Steps.{AppStep, FailsAs, calls_device, found_named}
use Rattle.run_model.specs.Runtimes.{IsUnwritten, WritesWithin, is_refusal, is_durable, only_plans}
use Rattle.run_model.specs.Turns.{bytes_now}
use Rattle.run_model.specs.Writes.{IsCallWithin, OpensAtMost}
use Rattle.per_runtime.specs.storages.Answers.{CallsTo}
use Rattle.per_runtime.specs.storages.Handled.{StaysInPlace}
use Rattle.per_runtime.specs.declared.application.running.Running.{Running}
use Rattle.per_runtime.specs.application.Running.{IsRunning, application, stage_in}
use Rattle.per_runtime.specs.Needs.{OpensOrStarves}

-- by how a call ends: answered, failed at the device, or out of memory
abbrev pub IfEnded : Result Reply Stop → (answered : Reply → Type 0) → (failed stopped : Type 0) → Type 0
IfEnded (Ok reply) answered failed stopped = answered reply
IfEnded (Err Device) answered failed stopped = failed
IfEnded (Err OutOfMemory) answered failed stopped = stopped

-- the application is as the step leads to
pub record IsStepDone (converters : Converters) (app now : ℕ) (c : Call) (before after : Application)
    (reply : Reply) (old new : Medium) : Type 0 where
  pub step : AppStep converters (application_at app now before) c (reply, after)
  pub later : IsLater before.disk after.disk
  pub calls : CallsTo app (app_at new.image app) old new
  pub clean : IsCleanApp app old.image → IsCleanApp app new.image

-- what is on the disk after a call that is in progress: what its step leads to, or what was there before
abbrev pub IsLedTo : Converters → (app now : ℕ) → Call → (before : Application) → App → Type 0
IsLedTo converters app now c before next = (next ≡ before.disk)
    ⊎ ((outcome : Outcome) × AppStep converters (application_at app now before) c outcome × (next ≡ outcome.1.disk))

-- a call ended in the middle: the application is between what it was and `next`, which is what the call leads to or
-- what it was
pub record IsCallInProgress (converters : Converters) (app now : ℕ) (c : Call) (before : Application)
    (old new : Medium) : Type 0 where
  pub next : App
  pub leads : IsLedTo converters app now c before next
  pub later : IsLater before.disk next
  pub calls : CallsTo app next old new

-- the call `c` was answered, at the moment `now` in seconds: `a` is the application before it and `a'` after it
pub record IsCommandAnswered (told : Bool) (converters : Converters) (now : ℕ) (c : Call) (a a' : Running)
    (old new : Medium) (reply : Reply) : Type 0 where
  pub app : a'.app ≡ a.app
  pub memory : IsRunning told new.image a'
  pub text : HasText reply.answer
  pub passes : new.faults ≡ old.faults
  pub unfailed : reply.answer ≢ answer.Error error.PhysicalStorageFailure
  pub quiet : Quiet old → Quiet new
  pub unwritten : is_refusal reply.answer ≡ true → is_to_open (stage_in a.stage) ≡ false → IsUnwritten old new
  -- a refused call writes nothing but the opening of its root
  pub refused : IsTrue told → is_refusal reply.answer ≡ true
      → OpensAtMost a.app (stage_in a.stage) (bytes_now old) (bytes_now new)
  pub done : IsTrue told → IsStepDone converters a.app now c (application old.image a)
      (application new.image a') reply
      old new

-- the device failed in the call `c`
pub record IsFailed (told : Bool) (converters : Converters) (now : ℕ) (c : Call) (a a' : Running)
    (old new : Medium) : Type 0 where
  pub app : a'.app ≡ a.app
  pub memory : IsRunning told new.image a'
  pub cause : Rose old.faults new.faults
  pub fails : IsTrue told → FailsAs a.app now (app_at new.image a.app) (application old.image a) c
      (application new.image a')
  pub progress : IsTrue told → IsCallInProgress converters a.app now c (application old.image a) old new

-- the call `c` was answered, or the device failed, or memory ran out; `Untouched` says that the disk is as it was
pub record IsHandled (told : Bool) (converters : Converters) (now : ℕ) (c : Call) (a a' : Running)
    (Untouched : Type 0) (old new : Medium) (result : Result Reply Stop) : Type 0 where
  pub end : IfEnded result (IsCommandAnswered told converters now c a a' old new)
      (IsFailed told converters now c a a' old new)
      (IsTrue told → IsCallInProgress converters a.app now c (application old.image a) old new)
  -- memory ran out only for a call that may need it
  pub needs : IsTrue told → IsErrOf result OutOfMemory → OpensOrStarves a.app now c (application old.image a)
  -- and no call of the disk had failed
  pub fed : IsErrOf result OutOfMemory → new.faults ≡ old.faults
  -- a call that begins an update only plans, however it ends
  pub looks : only_plans c ≡ true → is_to_open (stage_in a.stage) ≡ false → IsUnwritten old new
  -- a call that needs no device calls none
  pub idle : IsTrue told → calls_device (application old.image a) c ≡ false → Untouched
  pub written : IsTrue told → is_durable c ≡ true → (f : FoundStorage) (s : Session)
      → found_named (application old.image a) c ≡ Some (Ok f)
      → session_at (application old.image a) f.number ≡ Some s → WritesWithin a.app f s old new
  -- no more is written than the call costs, and the opening of a root before it; and no file changes elsewhere
  pub within : IsTrue told
      → IsCallWithin converters (application_at a.app now (application old.image a)) c (bytes_now old)
      (bytes_now new)
  -- no file changes beside those of a storage that the call names
  pub place : IsTrue told → is_to_open (stage_in a.stage) ≡ false
      → StaysInPlace a.app c (application old.image a) old.image new.image
  pub time : Elapses old new
