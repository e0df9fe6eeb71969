-- The bytes that were taken are handled as far as they are whole lines, the runtime is in use, no count of faults fell,
-- and time went on.
use Rattle.std.proofs.Common.{ℕ, List, [], ◌≤◌, ◌<◌, ◌-◌, length, Option}
use Rattle.disk_model.specs.Medium.{Elapses}
use Rattle.run_model.specs.Converters.{converters_of}
use Rattle.per_runtime.specs.Memories.{IsRuntime, memory_of}
use Rattle.per_run.specs.Steps.{Reached, outset, reading}
use Rattle.per_run.proofs.Inputs.{Taken}
use Rattle.per_run.proofs.run.read_all.Given as goal

pub record Read (GoesOn InUse Later : Type 0) (taken room sink_before sink_now source_before source_now : ℕ) : Type 0
  where
    pub goes_on : GoesOn
    pub in_use : InUse
    pub time : Later
    pub within : taken ≤ 67108864
    pub room_left : 0 < room
    pub sink_later : sink_before ≤ sink_now
    pub source_later : source_before ≤ source_now

abbrev pub invariant-loop-taken : goal.invariant-loop-taken
invariant-loop-taken g l = Read
    ((start : g.row.D.Denot) (before : Option (List ℕ))
    → Reached (outset g.D.Disk (converters_of l.migrations) start before) [] (g.K.Sink.written l.initial.sink)
    (reading (memory_of l.initial.reader.runtime) l.initial.reader.kept.items l.initial.reader.number)
    (g.D.Disk.medium l.initial.disk)
    → Taken g.D.Disk.told (converters_of l.migrations) (g.D.Disk.medium start)
    (g.S.Source.left l.initial.source) (g.S.Source.left l.source) before (g.K.Sink.written l.sink)
    (memory_of l.reader.runtime) (g.D.Disk.medium l.disk) l.reader.kept.items l.reader.number l.taken)
    (IsRuntime g.D.Disk.told (g.D.Disk.medium l.disk) l.reader.runtime)
    (Elapses (g.D.Disk.medium l.initial.disk) (g.D.Disk.medium l.disk))
    l.taken (length l.buffer) (g.K.Sink.faults l.initial.sink) (g.K.Sink.faults l.sink)
    (g.S.Source.faults l.initial.source) (g.S.Source.faults l.source)

abbrev pub decreases-loop-taken : goal.decreases-loop-taken
decreases-loop-taken g l = 67108864 - l.taken
