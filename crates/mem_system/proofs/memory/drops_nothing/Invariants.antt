use Rattle.std.proofs.Common.{drop}
use Rattle.mem_system.specs.History.{DropNothing}
use Rattle.mem_system.proofs.memory.drops_nothing.Given as goal

abbrev pub invariant-loop-call : goal.invariant-loop-call
invariant-loop-call l = DropNothing (drop l.call-index l.calls) → DropNothing l.calls
