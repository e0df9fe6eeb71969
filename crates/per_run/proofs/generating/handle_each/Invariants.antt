-- The lines so far are handled, the runtime is in use, and time went on.
use Rattle.std.proofs.Common.{ℕ, List, None, ◌++◌, ◌<◌, ◌^◌, length, map, take}
use Rattle.disk_model.specs.Medium.{Elapses}
use Rattle.run_model.specs.Converters.{converters_of}
use Rattle.per_runtime.specs.Memories.{IsRuntime, memory_of}
use Rattle.per_run.specs.Steps.{Counted, outset}
use Rattle.per_run.proofs.generating.handle_each.Given as goal

pub record Each (Counts InUse Later : Type 0) : Type 0 where
  pub counts : Counts
  pub in_use : InUse
  pub time : Later

abbrev pub invariant-loop-line : goal.invariant-loop-line
invariant-loop-line g l = Each
    ((start : g.row.D.Denot) (before : List (List ℕ)) → length (before ++ map (λ line. line.now) l.lines) < 2 ^ 32
    → Counted (outset g.D.Disk (converters_of l.migrations) start None) before (memory_of l.initial.batch.runtime)
    l.initial.batch.tally (g.D.Disk.medium l.initial.disk)
    → Counted (outset g.D.Disk (converters_of l.migrations) start None)
    (before ++ map (λ line. line.now) (take l.line-index l.lines)) (memory_of l.batch.runtime) l.batch.tally
    (g.D.Disk.medium l.disk))
    (IsRuntime g.D.Disk.told (g.D.Disk.medium l.disk) l.batch.runtime)
    (Elapses (g.D.Disk.medium l.initial.disk) (g.D.Disk.medium l.disk))
