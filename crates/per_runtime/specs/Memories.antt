-- The runtime: what it keeps in memory, and what holds of it between two commands.
use Rattle.std.specs.Prelude.{◌≡◌, ℕ, List, length, map, Bool, false, Some, slice_get}
use Rattle.disk_model.specs.Image.{Image}
use Rattle.disk_model.specs.Medium.{Medium, Quiet}
use Rattle.run_model.specs.Runtimes.{Memory}
use Rattle.per_runtime.specs.declared.application.running.Running.{Running}
use Rattle.per_runtime.specs.application.Running.{IsRunning, running_in}
use Rattle.per_runtime.specs.declared.runtime.Runtime.{Runtime}

-- what a runtime keeps in memory, as the world has it
abbrev pub memory_of : Runtime → Memory
memory_of r = record { now = r.now; apps = map running_in r.apps.items; in_doubt = r.in_doubt }

-- eight applications, each under its number and in use on a disk
pub record AreRunning (told : Bool) (image : Image) (apps : List Running) : Type 0 where
  pub eight : length apps ≡ 8
  pub each : (app : ℕ) (a : Running) → slice_get apps app ≡ Some a → (a.app ≡ app) × IsRunning told image a

-- the applications of a runtime are in use on the disk, and nothing is pending where it is not in doubt
pub record IsRuntime (told : Bool) (m : Medium) (r : Runtime) : Type 0 where
  pub apps : AreRunning told m.image r.apps.items
  pub quiet : r.in_doubt ≡ false → Quiet m
