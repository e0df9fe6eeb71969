use Rattle.std.proofs.Common.{take}
use Rattle.disk_model.proofs.Synced.{IsSynced}
use Rattle.disk_model.proofs.history.synced.Given as goal

abbrev pub invariant-loop-i : goal.invariant-loop-i
invariant-loop-i l = IsSynced (take l.i l.calls) l.count
