use Rattle.element_store.proofs.InPlace.{AreMended}
use Rattle.element_store.proofs.mending.mend_each.Given as goal

abbrev pub invariant-loop-i : goal.invariant-loop-i
invariant-loop-i g l = AreMended g.D.Disk.told l.shape l.index l.views l.i (g.D.Disk.medium l.fn.disk)
    (g.D.Disk.medium l.disk)
