-- A command of the runtime: what it promises, by how it ends.
use Rattle.std.specs.Prelude.{◌≡◌, ℕ, Bool, true, IsTrue, Option, Some, None, Result, slice_get, IsErrOf}
use Rattle.disk_model.specs.Image.{Image}
use Rattle.disk_model.specs.Medium.{Medium, Elapses}
use Rattle.command_text.specs.declared.calls.Call.{Call}
use Rattle.command_text.specs.declared.calls.Event.{Event}
use Rattle.command_text.specs.declared.replies.Reply.{Reply}
use Rattle.command_text.specs.Replies.{HasText}
use Rattle.deploy.specs.declared.errors.Stop.{Stop}
use Rattle.deploy.specs.declared.errors.Stop.TheVariants.{OutOfMemory}
use Rattle.run_model.specs.Converters.{Converters}
use Rattle.run_model.specs.Worlds.{Doubt}
use Rattle.run_model.specs.Steps.{calls_device}
use Rattle.run_model.specs.Runtimes.{IsDoubt, Stepped, Stopped, calls_none, world_of, runtime_at}
use Rattle.run_model.specs.Turns.{IsBlamed}
use Rattle.per_runtime.specs.declared.application.running.Running.{Running}
use Rattle.per_runtime.specs.application.Running.{application}
use Rattle.per_runtime.specs.declared.runtime.Runtime.{Runtime}
use Rattle.per_runtime.specs.Handled.{IfEnded}
use Rattle.per_runtime.specs.Memories.{IsRuntime, memory_of}
use Rattle.per_runtime.specs.Needs.{CommandMayStarve}

-- whether a call of the application with this number calls the device
abbrev pub CallsDevice : (told : Bool) → Image → Runtime → ℕ → Call → Bool → Type 0
CallsDevice told image r app c calls = IsTrue told → (a : Running) → slice_get r.apps.items app ≡ Some a
    → calls_device (application image a) c ≡ calls

-- the event `e` was answered: `r` is the runtime before it and `r'` after it
pub record IsReplied (told : Bool) (converters : Converters) (e : Event) (r r' : Runtime)
    (old new : Medium) (reply : Reply) : Type 0 where
  pub memory : IsRuntime told new r'
  pub text : HasText reply.answer
  pub blamed : IsBlamed old.faults new.faults reply
  pub stepped : IsTrue told → (doubt : Option Doubt) → IsDoubt (memory_of r) doubt
      → Stepped converters e reply doubt (runtime_at (memory_of r) old) (runtime_at (memory_of r') new)

-- the event `e` was answered, or memory ran out, which alone ends the run; `Untouched` says that the disk is as it was
pub record IsCommand (told : Bool) (converters : Converters) (e : Event) (r r' : Runtime)
    (Untouched : Type 0) (old new : Medium) (result : Result Reply Stop) : Type 0 where
  pub end : IfEnded result (IsReplied told converters e r r' old new) ⊥
      (IsTrue told → (doubt : Option Doubt) → IsDoubt (memory_of r) doubt
      → Stopped converters e doubt (runtime_at (memory_of r) old) new)
  pub needs : IsTrue told → IsErrOf result OutOfMemory → CommandMayStarve (world_of old.image (memory_of r) None) e
  -- where memory ran out no call of the disk had failed
  pub fed : IsErrOf result OutOfMemory → new.faults ≡ old.faults
  pub idle : IsTrue told → calls_none (world_of old.image (memory_of r) None) e ≡ true → Untouched
  pub time : Elapses old new
