-- When a call of an application may need memory: all fifty-one. Every other call is answered also where no memory is
-- left.
use Rattle.std.specs.Prelude.{◌≡◌, ◌⊎◌, ℕ, Option, None, Some, ⊤}
use Rattle.per_base.specs.declared.errors.PerError.{PerError}
use Rattle.per_base.specs.declared.errors.PerError.TheVariants as error
use Rattle.per_base.specs.declared.errors.Unit.TheVariants as unit
use Rattle.command_text.specs.declared.calls.Call.{Call}
use Rattle.command_text.specs.declared.calls.Call.TheVariants as call
use Rattle.deploy_laws.specs.Apps.{Says, absent, installed, nothing}
use Rattle.run_model.specs.Calls.{beside_update}
use Rattle.run_model.specs.Worlds.{Application, update_in}
use Rattle.per_runtime.specs.storages.Needs.{CallNeedsMemory}

-- nothing is installed, so that an install may be done
abbrev pub IsVacant : Says → Type 0
IsVacant nothing = ⊥
IsVacant (absent g) = ⊤
IsVacant (installed g active previous) = ⊥

-- why a root refuses an update before its manifest, if it does: it is bad, or nothing is installed, or a previous
-- version is
abbrev pub no_update_over : Says → Option PerError
no_update_over nothing = Some (error.IntegrityCorrupted unit.Root)
no_update_over (absent g) = Some error.NotInstalled
no_update_over (installed g active None) = None
no_update_over (installed g active (Some previous)) = Some (error.UpdateNotFinished previous.deployment.version)

-- why a root refuses a rollback, if it does: it is bad, or nothing is installed, or no previous version is
abbrev pub no_way_back : Says → Option PerError
no_way_back nothing = Some (error.IntegrityCorrupted unit.Root)
no_way_back (absent g) = Some error.NotInstalled
no_way_back (installed g active None) = Some error.NoPreviousVersion
no_way_back (installed g active (Some previous)) = None

-- the call gets as far as its manifest
abbrev pub ReadsManifest : Call → (before : Application) → Type 0
ReadsManifest (call.Install text) before = IsVacant before.disk.says
ReadsManifest (call.Update text) before = no_update_over before.disk.says ≡ None
ReadsManifest (call.UpdateBegin text) before = no_update_over before.disk.says ≡ None
ReadsManifest other before = ⊥

-- memory may run out for a call: no update in progress refuses it, and it reads a manifest or what is on the disk, or
-- its row is no refusal, or one with names or texts
pub record MayStarve (app now : ℕ) (c : Call) (before : Application) : Type 0 where
  pub free : beside_update (update_in before.stage) c ≡ None
  pub needs : CallNeedsMemory app now c before ⊎ ReadsManifest c before
