-- The lines so far are handled, the runtime is in use, no count of faults fell, and time went on.
use Rattle.std.proofs.Common.{◌≡◌, ℕ, List, ◌++◌, ◌<◌, ◌≤◌, ◌^◌, length, Option}
use Rattle.disk_model.specs.Medium.{Elapses}
use Rattle.run_model.specs.Converters.{converters_of}
use Rattle.per_runtime.specs.Memories.{IsRuntime, memory_of}
use Rattle.per_run.specs.Steps.{Reached, outset, reading}
use Rattle.per_run.proofs.reader.feed.Given as goal

-- the start of the piece that is handled, and what goes on after it
pub record Fed (piece rest : List ℕ) (GoesOn : List ℕ → Type 0) (InUse Later : Type 0) (sink_before sink_now : ℕ)
    : Type 0 where
  pub front : List ℕ
  pub parts : piece ≡ front ++ rest
  pub goes_on : GoesOn front
  pub in_use : InUse
  pub time : Later
  pub sink_later : sink_before ≤ sink_now

abbrev pub invariant-loop-line : goal.invariant-loop-line
invariant-loop-line g l = Fed l.piece l.rest
    (λ front. (start : g.row.D.Denot) (before : Option (List ℕ)) (given : List ℕ) → length (given ++ l.piece) < 2 ^ 63
    → Reached (outset g.D.Disk (converters_of l.migrations) start before) given (g.K.Sink.written l.initial.sink)
    (reading (memory_of l.initial.reader.runtime) l.initial.reader.kept.items l.initial.reader.number)
    (g.D.Disk.medium l.initial.disk)
    → Reached (outset g.D.Disk (converters_of l.migrations) start before) (given ++ front) (g.K.Sink.written l.sink)
    (reading (memory_of l.reader.runtime) l.reader.kept.items l.reader.number) (g.D.Disk.medium l.disk))
    (IsRuntime g.D.Disk.told (g.D.Disk.medium l.disk) l.reader.runtime)
    (Elapses (g.D.Disk.medium l.initial.disk) (g.D.Disk.medium l.disk))
    (g.K.Sink.faults l.initial.sink) (g.K.Sink.faults l.sink)

abbrev pub decreases-loop-line : goal.decreases-loop-line
decreases-loop-line g l = length l.rest
