use Rattle.guarded_cell.proofs.Writing.{IsWriting}
use Rattle.guarded_cell.proofs.starts.write_starts.Given as goal

abbrev pub invariant-loop-copy : goal.invariant-loop-copy
invariant-loop-copy g l = IsWriting l.place l.parity l.copy l.chosen l.bytes g.D.Disk.told
    (g.D.Disk.medium l.initial.disk) (g.D.Disk.medium l.disk)
