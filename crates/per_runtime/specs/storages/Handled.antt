-- All that a call on a storage promises, by how it ended.
use Rattle.std.specs.Prelude.{◌≡◌, ◌≢◌, ◌≤◌, ◌+◌, ℕ, Bool, true, false, IsTrue, Some, Result, Ok, Err}
use Rattle.per_base.specs.Causes.{Rose}
use Rattle.per_base.specs.declared.errors.PerError.{PerError}
use Rattle.per_base.specs.declared.errors.PerError.TheVariants as error
use Rattle.disk_model.specs.Frame.{Spares}
use Rattle.disk_model.specs.Image.{Image}
use Rattle.disk_model.specs.Medium.{Elapses, Medium, Quiet}
use Rattle.command_text.specs.declared.calls.Call.{Call}
use Rattle.command_text.specs.declared.replies.Answer.TheVariants as answer
use Rattle.command_text.specs.declared.replies.Reply.{Reply}
use Rattle.command_text.specs.Replies.{HasText}
use Rattle.deploy_laws.specs.Apps.{app_at}
use Rattle.deploy_laws.specs.Places.{IsBeside}
use Rattle.deploy.specs.declared.errors.Stop.{Stop}
use Rattle.deploy.specs.declared.errors.Stop.TheVariants.{Device, OutOfMemory}
use Rattle.deploy.specs.declared.roots.Root.{Root}
use Rattle.run_model.specs.Calls.{session_at}
use Rattle.run_model.specs.Costs.{named_cost}
use Rattle.run_model.specs.Found.{FoundStorage}
use Rattle.run_model.specs.Runtimes.{IsUnwritten, WritesWithin, is_durable, is_refusal}
use Rattle.run_model.specs.Sessions.{Session}
use Rattle.run_model.specs.Steps.{found_named, uses_device}
use Rattle.run_model.specs.Worlds.{Application}
use Rattle.per_runtime.specs.storages.Answers.{HasStorageCallFailed, HasStorageCallStopped, IsStorageCallAnswered}
use Rattle.per_runtime.specs.storages.Slots.{IsResting, resting_with}
use Rattle.per_runtime.specs.declared.storages.slots.OpenSlots.{OpenSlots}

-- what a call that makes an open storage durable may write, however it ends
abbrev pub MayWrite : (app : ℕ) → Call → (before : Application) → (old new : Medium) → Type 0
MayWrite app c before old new = is_durable c ≡ true → (f : FoundStorage) (s : Session)
    → found_named before c ≡ Some (Ok f) → session_at before f.number ≡ Some s → WritesWithin app f s old new

-- no more is written than the call costs, into the storage that it names, however it ends; nothing where it names none
-- that calls the device
abbrev pub CostsNamed : (app now : ℕ) → Call → (before : Application) → (old new : Medium) → Type 0
CostsNamed app now c before old new = new.written ≤ old.written + named_cost app now before c (found_named before c)

-- no file changes beside those of the storage that the call names
abbrev pub StaysInPlace : (app : ℕ) → Call → (before : Application) → (old new : Image) → Type 0
StaysInPlace app c before old new = (f : FoundStorage) → found_named before c ≡ Some (Ok f)
    → Spares (IsBeside app f.bank f.number) old new

-- no file changes where the storage that the call names is not found
abbrev pub StaysUnlessFound : Call → (before : Application) → (old new : Image) → Type 0
StaysUnlessFound c before old new = (e : PerError) → found_named before c ≡ Some (Err e) → new ≡ old

-- the call was answered: no call of the disk failed
pub record IsStorageCallReplied (told : Bool) (app now : ℕ) (root : Root) (c : Call) (was is : OpenSlots)
    (old new : Medium) (reply : Reply) : Type 0 where
  pub answered : IsTrue told → IsStorageCallAnswered app now c (resting_with old.image app was)
      (resting_with new.image app is)
      reply old new
  pub memory : IsResting told new.image app root is
  pub quiet : Quiet old → Quiet new
  pub unwritten : is_refusal reply.answer ≡ true → IsUnwritten old new
  pub unfailed : reply.answer ≢ answer.Error error.PhysicalStorageFailure
  pub passes : new.faults ≡ old.faults
  pub text : HasText reply.answer

-- its device failed
pub record IsLost (told : Bool) (app now : ℕ) (root : Root) (c : Call) (was is : OpenSlots) (old new : Medium) : Type 0
  where
    pub failed : IsTrue told → HasStorageCallFailed app now c (resting_with old.image app was)
        (resting_with new.image app is) old
        new
    pub memory : IsResting told new.image app root is
    pub cause : Rose old.faults new.faults

-- a call on a storage ended: it was answered, or the device failed, or memory ran out; from the slots `was` to `is`
abbrev pub EndsSo : (told : Bool) (app now : ℕ) (root : Root) (c : Call) (was is : OpenSlots) (old new : Medium)
    → Result Reply Stop → Type 0
EndsSo told app now root c was is old new (Ok reply) = IsStorageCallReplied told app now root c was is old new reply
EndsSo told app now root c was is old new (Err Device) = IsLost told app now root c was is old new
EndsSo told app now root c was is old new (Err OutOfMemory) = (new.faults ≡ old.faults)
    × (IsTrue told → HasStorageCallStopped app now c (resting_with old.image app was) old new)

-- A call on a storage of an application at rest, from these slots to those; that it called no disk is said by `Same`.
pub record IsStorageCallHandled (told : Bool) (app now : ℕ) (root : Root) (c : Call) (was is : OpenSlots)
    (old new : Medium) (Same : Type 0) (result : Result Reply Stop) : Type 0 where
  pub ends : EndsSo told app now root c was is old new result
  pub idle : IsTrue told → uses_device (app_at old.image app) c ≡ false → Same
  pub written : IsTrue told → MayWrite app c (resting_with old.image app was) old new
  pub costs : IsTrue told → CostsNamed app now c (resting_with old.image app was) old new
  pub place : IsTrue told → StaysInPlace app c (resting_with old.image app was) old.image new.image
  pub missing : IsTrue told → StaysUnlessFound c (resting_with old.image app was) old.image new.image
  pub time : Elapses old new
