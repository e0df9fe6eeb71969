-- What a call of an application promises: all fifty-one.
use Rattle.std.specs.Prelude.{◌≡◌, ◌⊎◌, ℕ, IsTrue}
use Rattle.disk_model.specs.Medium.{Medium}
use Rattle.command_text.specs.declared.calls.Call.{Call}
use Rattle.command_text.specs.declared.replies.Reply.{Reply}
use Rattle.deploy_laws.specs.Apps.{App, app_at, IsCleanApp}
use Rattle.deploy_laws.specs.Stands.{IsLater}
use Rattle.run_model.specs.Converters.{Converters}
use Rattle.run_model.specs.Worlds.{Application, update_in, application_at}
use Rattle.run_model.specs.Calls.{Outcome, StepBeside, beside_update}
use Rattle.run_model.specs.Steps.{reaches_device, after_failure, found_named}
use Rattle.per_runtime.specs.storages.Answers.{CallsTo}
use Rattle.per_runtime.specs.application.Needs.{MayStarve}

-- the row of a call of application `app` at the moment `now` in seconds, by these converters and what they may answer:
-- with an update in progress a call that does not go beside it is refused
abbrev pub HasRow : Converters → (app now : ℕ) → Call → (before : Application) → Outcome → Type 0
HasRow converters app now c before outcome = StepBeside converters (application_at app now before) c
    (beside_update (update_in before.stage) c) outcome

-- A call was answered by its row, which leads to a later application; each moment stands between before and after, and
-- clean places stay so.
pub record IsAnswered (converters : Converters) (app now : ℕ) (c : Call) (before after : Application)
    (reply : Reply) (old new : Medium) : Type 0 where
  pub row : HasRow converters app now c before (reply, after)
  pub later : IsLater before.disk after.disk
  pub calls : CallsTo app after.disk old new
  pub clean : IsCleanApp app old.image → IsCleanApp app new.image

-- what is on the disk after a call that did not end: what its row leads to, or what was there before
abbrev pub MayLead : Converters → (app now : ℕ) → Call → (before : Application) → App → Type 0
MayLead converters app now c before next = (next ≡ before.disk)
    ⊎ ((outcome : Outcome) × HasRow converters app now c before outcome × (next ≡ outcome.1.disk))

-- A call failed at the device, which it reaches: it was to lead to `next`, each moment stands between that and what
-- was, and what is kept is as after a failure.
pub record HasFailed (converters : Converters) (app now : ℕ) (c : Call) (before after : Application)
    (old new : Medium) : Type 0 where
  pub reaches : IsTrue (reaches_device app before now c)
  pub next : App
  pub leads : MayLead converters app now c before next
  pub later : IsLater before.disk next
  pub is_after : after ≡ after_failure (app_at new.image app) before (found_named before c)
  pub calls : CallsTo app next old new

-- Memory ran out in a call that needs it: it was to lead to `next`, and each moment stands between that and what was.
pub record HasStopped (converters : Converters) (app now : ℕ) (c : Call) (before : Application)
    (old new : Medium) : Type 0 where
  pub needs : MayStarve app now c before
  pub next : App
  pub leads : MayLead converters app now c before next
  pub later : IsLater before.disk next
  pub calls : CallsTo app next old new
