-- The start on its way: the roots below some number are opened.
use Rattle.std.specs.Prelude.{◌≡◌, ◌≤◌, ◌+◌, ◌*◌, ℕ, List, length, replicate, Bool, false, IsTrue, Some, Result, Ok}
use Rattle.std.specs.Prelude.{Err, Vec, slice_get}
use Rattle.std.specs.declared.alloc.Global.{Global}
use Rattle.per_base.specs.Causes.{Rose}
use Rattle.disk_model.specs.Medium.{Medium, Quiet, Elapses}
use Rattle.deploy.specs.declared.errors.Stop.{Stop}
use Rattle.deploy.specs.declared.errors.Stop.TheVariants.{Device, OutOfMemory}
use Rattle.deploy_rows.specs.Costs.{greatest_cost}
use Rattle.run_model.specs.Runtimes.{StartKeeps}
use Rattle.run_model.specs.Runtimes as memory
use Rattle.run_model.specs.Starting.{OpenedUpTo}
use Rattle.run_model.specs.Worlds.{at_rest, none_open}
use Rattle.per_runtime.specs.declared.application.running.Running.{Running}
use Rattle.per_runtime.specs.application.Running.{IsRunning, running_in}

-- nothing is going on, and nothing is open
abbrev pub idle : memory.Running
idle = record { stage = at_rest; sessions = none_open }

-- the memory of a runtime that started
abbrev pub fresh : memory.Memory
fresh = record { now = 0; apps = replicate 8 idle; in_doubt = false }

-- the first `count` applications are in memory, each in use and with no storage open, no more is written than their
-- roots cost, and no call of the disk failed
pub record AreOpened (told : Bool) (count : ℕ) (apps : List Running) (old now : Medium) : Type 0 where
  pub many : length apps ≡ count
  pub each : (app : ℕ) (a : Running) → slice_get apps app ≡ Some a
      → (a.app ≡ app) × IsRunning told now.image a × (running_in a ≡ idle)
  pub opened : IsTrue told → OpenedUpTo count old now
  pub quiet : Quiet now
  pub passes : now.faults ≡ old.faults
  pub written : now.written ≤ old.written + count * greatest_cost
  pub time : Elapses old now

-- by how the start ends
abbrev pub HasBegun : (told : Bool) → (old new : Medium) → Result (Vec Running Global) Stop → Type 0
HasBegun told old new (Ok apps) = AreOpened told 8 apps.items old new
HasBegun told old new (Err Device) = Rose old.faults new.faults
HasBegun told old new (Err OutOfMemory) = new.faults ≡ old.faults

-- a start ended so
pub record IsBegun (told : Bool) (old new : Medium) (result : Result (Vec Running Global) Stop) : Type 0 where
  pub end : HasBegun told old new result
  pub keeps : IsTrue told → StartKeeps old new
  pub written : new.written ≤ old.written + 8 * greatest_cost
  pub time : Elapses old new
