-- The lines so far are handled, the number is that of the last of them, the runtime is in use, and time went on.
use Rattle.std.proofs.Common.{ℕ, List, None, ◌++◌, ◌≡◌, ◌<◌, ◌+◌, ◌^◌, length}
use Rattle.disk_model.specs.Medium.{Elapses}
use Rattle.command_text.specs.Generated.{generated_lines}
use Rattle.run_model.specs.Converters.{converters_of}
use Rattle.per_runtime.specs.Memories.{IsRuntime, memory_of}
use Rattle.per_run.specs.Steps.{Counted, outset}
use Rattle.per_run.proofs.Tallied.{number_after}
use Rattle.per_run.proofs.generating.handle_generated.Given as goal

pub record Made (Counts InUse Later : Type 0) (x behind : ℕ) : Type 0 where
  pub counts : Counts
  pub in_use : InUse
  pub time : Later
  pub number : x ≡ behind
  pub bound : x < 2 ^ 31

abbrev pub invariant-loop-index : goal.invariant-loop-index
invariant-loop-index g l = Made
    ((start : g.row.D.Denot) (before : List (List ℕ)) → length before + l.number < 2 ^ 32
    → Counted (outset g.D.Disk (converters_of l.migrations) start None) before (memory_of l.initial.batch.runtime)
    l.initial.batch.tally (g.D.Disk.medium l.initial.disk)
    → Counted (outset g.D.Disk (converters_of l.migrations) start None) (before ++ generated_lines l.index 1 l.number)
    (memory_of l.batch.runtime) l.batch.tally (g.D.Disk.medium l.disk))
    (IsRuntime g.D.Disk.told (g.D.Disk.medium l.disk) l.batch.runtime)
    (Elapses (g.D.Disk.medium l.initial.disk) (g.D.Disk.medium l.disk))
    l.x (number_after l.number l.index)
