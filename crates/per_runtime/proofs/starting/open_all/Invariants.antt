use Rattle.per_runtime.specs.Begun.{AreOpened}
use Rattle.per_runtime.proofs.starting.open_all.Given as goal

abbrev pub invariant-loop-app : goal.invariant-loop-app
invariant-loop-app g l = AreOpened g.D.Disk.told l.app l.apps.items (g.D.Disk.medium l.fn.disk) (g.D.Disk.medium l.disk)
