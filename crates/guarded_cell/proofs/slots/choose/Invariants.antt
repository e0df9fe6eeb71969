use Rattle.guarded_cell.proofs.Choosing.{IsChoosing}
use Rattle.guarded_cell.proofs.slots.choose.Given as goal

abbrev pub invariant-loop-copy : goal.invariant-loop-copy
invariant-loop-copy g l = IsChoosing l.pick l.chosen g.D.Disk.told (g.D.Disk.medium l.initial.disk)
    (g.D.Disk.medium l.disk) l.place l.parity l.copy l.generation l.text
