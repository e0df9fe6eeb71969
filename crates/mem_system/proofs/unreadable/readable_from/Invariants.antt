use Rattle.std.proofs.Common.{◌<◌}
use Rattle.mem_system.proofs.unreadable.readable_from.Given as goal

abbrev pub invariant-loop-stretch : goal.invariant-loop-stretch
invariant-loop-stretch l = 0 < l.count
