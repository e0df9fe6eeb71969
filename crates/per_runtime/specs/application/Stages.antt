-- The stage of an application in memory: its root, and how a call leaves it.
use Rattle.std.specs.Prelude.{◌≡◌, [], Option, Some, None, option_map, Result, Ok, Err, IsErrOf}
use Rattle.per_base.specs.declared.errors.PerError.{PerError}
use Rattle.per_base.specs.declared.errors.PerError.TheVariants as error
use Rattle.per_base.specs.declared.errors.Unit.TheVariants as unit
use Rattle.command_text.specs.declared.replies.Answer.{Answer}
use Rattle.command_text.specs.declared.replies.Answer.TheVariants as answer
use Rattle.command_text.specs.declared.replies.AppStatus.TheVariants as status
use Rattle.command_text.specs.declared.replies.Reply.{Reply}
use Rattle.deploy.specs.declared.errors.Stop.{Stop}
use Rattle.deploy.specs.declared.roots.Installed as parts
use Rattle.deploy.specs.declared.roots.Outcome.{Outcome}
use Rattle.deploy.specs.declared.roots.Root.{Root}
use Rattle.deploy.specs.declared.roots.Root.TheVariants.{Bad, Absent, Installed}
use Rattle.deploy.specs.declared.updating.Begin.{Begin}
use Rattle.deploy.specs.declared.updating.Begin.TheVariants as begin
use Rattle.deploy.specs.declared.updating.Staged.{Staged}
use Rattle.deploy.specs.Building.{staged_root}
use Rattle.deploy.specs.Roots.{root_says}
use Rattle.deploy_laws.specs.Apps.{Says, nothing, absent, installed}
use Rattle.deploy_laws.specs.Places.{Named}
use Rattle.per_runtime.specs.declared.application.running.Running.{Running}
use Rattle.per_runtime.specs.declared.application.running.Stage.{Stage}
use Rattle.per_runtime.specs.declared.application.running.Stage.TheVariants.{ToOpen, AtRest, Updating}
use Rattle.per_runtime.specs.application.Running.{NoneOpen}

-- the root that is in memory: of an update in progress the one over which it was begun; one that is to be opened says
-- nothing
abbrev pub stage_root : Stage → Root
stage_root ToOpen = Bad
stage_root (AtRest root) = root
stage_root (Updating staged) = staged_root staged

-- the update in progress, where one is
abbrev pub staged_in : Stage → Option Staged
staged_in ToOpen = None
staged_in (AtRest root) = None
staged_in (Updating staged) = Some staged

-- what is installed
abbrev pub installed_parts : Root → Option parts.Installed
installed_parts Bad = None
installed_parts (Absent cell) = None
installed_parts (Installed i) = Some i

-- an answer without a report
abbrev pub reply_with : Answer → Reply
reply_with a = record { reports = []; answer = a }

-- the reply that a call is done, or why it was refused
abbrev pub reply_of : Option PerError → Reply
reply_of None = reply_with answer.Done
reply_of (Some e) = reply_with (answer.Error e)

-- the status of an application whose root says this
abbrev pub says_status : Says → Reply
says_status nothing = reply_with (answer.Error (error.IntegrityCorrupted unit.Root))
says_status (absent g) = reply_with (answer.Status status.Absent)
says_status (installed g active previous) = reply_with (answer.Status
    (status.Active active.deployment.version (option_map (λ (v : Named). v.deployment.version) previous)))

-- why an update cannot go on where none is in progress
abbrev pub without_update : Says → PerError
without_update nothing = error.IntegrityCorrupted unit.Root
without_update (absent g) = error.NotInstalled
without_update (installed g active previous) = error.NoUpdateInProgress

-- The root that a call leaves is kept in memory, and the reply is built; where the call failed, all sessions end.
abbrev pub ConcludesCall : Result Outcome Stop → (before after : Running) → Result Reply Stop → Type 0
ConcludesCall (Ok o) before after result = (after ≡ record before { stage = AtRest o.root })
    × (result ≡ Ok (reply_of o.refused))
ConcludesCall (Err e) before after result = (after.app ≡ before.app) × (after.stage ≡ before.stage)
    × NoneOpen after.slots
    × IsErrOf result e

-- the same of the beginning of an update
abbrev pub ConcludesBegun : Result Begin Stop → (before after : Running) → Result Reply Stop → Type 0
ConcludesBegun (Ok (begin.Ready s)) before after result =
    (after ≡ record before { stage = Updating s }) × (result ≡ Ok (reply_of None))
ConcludesBegun (Ok (begin.Refused root e)) before after result =
    (after ≡ record before { stage = AtRest root }) × (result ≡ Ok (reply_of (Some e)))
ConcludesBegun (Err e) before after result = (after.app ≡ before.app) × (after.stage ≡ before.stage)
    × NoneOpen after.slots × IsErrOf result e

-- an update in progress is given up: its root stands in memory again; where there is none, that is refused
abbrev pub Aborts : Option Staged → (before after : Running) → Reply → Type 0
Aborts None before after reply = (after ≡ before) × (reply
    ≡ reply_of (Some (without_update (root_says (stage_root before.stage)))))
Aborts (Some s) before after reply = (after ≡ record before { stage = AtRest (staged_root s) })
    × (reply ≡ reply_of None)
