-- All that a call of an application promises, however it ends.
use Rattle.std.specs.Prelude.{◌≡◌, ◌≢◌, ℕ, Bool, true, false, IsTrue, Some, Result, Ok, IfOk, OnOk, IsErrOf}
use Rattle.per_base.specs.Causes.{Rose}
use Rattle.per_base.specs.declared.errors.PerError.TheVariants as error
use Rattle.disk_model.specs.Medium.{Medium, Quiet, Elapses}
use Rattle.command_text.specs.declared.calls.Call.{Call}
use Rattle.command_text.specs.declared.replies.Answer.TheVariants as answer
use Rattle.command_text.specs.declared.replies.Reply.{Reply}
use Rattle.command_text.specs.Replies.{HasText}
use Rattle.deploy.specs.declared.errors.Stop.{Stop}
use Rattle.deploy.specs.declared.errors.Stop.TheVariants as stop
use Rattle.deploy_laws.specs.Apps.{app_at}
use Rattle.run_model.specs.Calls.{session_at}
use Rattle.run_model.specs.Converters.{Converters}
use Rattle.run_model.specs.Found.{FoundStorage}
use Rattle.run_model.specs.Runtimes.{IsUnwritten, WritesWithin, is_durable, is_refusal, only_plans}
use Rattle.run_model.specs.Sessions.{Session}
use Rattle.run_model.specs.Steps.{found_named, uses_device}
use Rattle.run_model.specs.Turns.{bytes_now}
use Rattle.run_model.specs.Worlds.{application_at}
use Rattle.run_model.specs.Writes.{IsCallWithin}
use Rattle.per_runtime.specs.storages.Handled.{StaysInPlace}
use Rattle.per_runtime.specs.declared.application.running.Running.{Running}
use Rattle.per_runtime.specs.application.Answers.{HasFailed, HasStopped, IsAnswered}
use Rattle.per_runtime.specs.application.Running.{IsRunning, application}

-- `Untouched` says that the disk is the one that it was
pub record Promises (told : Bool) (converters : Converters) (now : ℕ) (c : Call) (before after : Running)
    (Untouched : Type 0) (old new : Medium) (result : Result Reply Stop) : Type 0 where
  pub app : after.app ≡ before.app
  pub memory : ¬ (IsErrOf result stop.OutOfMemory) → IsRunning told new.image after
  pub answered : IsTrue told → IfOk result (λ reply. IsAnswered converters before.app now c
      (application old.image before) (application new.image after) reply old new)
  pub failed : IsTrue told → IsErrOf result stop.Device
      → HasFailed converters before.app now c (application old.image before) (application new.image after) old new
  pub stopped : IsTrue told → IsErrOf result stop.OutOfMemory
      → HasStopped converters before.app now c (application old.image before) old new
  pub quiet : Quiet old → OnOk result (Quiet new)
  pub idle : IsTrue told → uses_device (app_at old.image before.app) c ≡ false → Untouched
  pub unwritten : IfOk result (λ reply. is_refusal reply.answer ≡ true → IsUnwritten old new)
  -- a call that begins an update only plans, however it ends
  pub looks : only_plans c ≡ true → IsUnwritten old new
  pub written : IsTrue told → is_durable c ≡ true → (f : FoundStorage) (s : Session)
      → found_named (application old.image before) c ≡ Some (Ok f)
      → session_at (application old.image before) f.number ≡ Some s → WritesWithin before.app f s old new
  -- no more is written than the call costs, and no file changes elsewhere
  pub within : IsTrue told
      → IsCallWithin converters (application_at before.app now (application old.image before)) c (bytes_now old)
      (bytes_now new)
  -- no file changes beside those of a storage that the call names
  pub place : IsTrue told → StaysInPlace before.app c (application old.image before) old.image new.image
  pub cause : IsErrOf result stop.Device → Rose old.faults new.faults
  pub passes : OnOk result (new.faults ≡ old.faults)
  pub fed : IsErrOf result stop.OutOfMemory → new.faults ≡ old.faults
  -- that the device failed is no reply, and every reply has a text
  pub unfailed : IfOk result (λ reply. reply.answer ≢ answer.Error error.PhysicalStorageFailure)
  pub text : IfOk result (λ reply. HasText reply.answer)
  pub time : Elapses old new
