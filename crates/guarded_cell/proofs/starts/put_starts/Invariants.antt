use Rattle.guarded_cell.proofs.Putfronts.{IsPutting}
use Rattle.guarded_cell.proofs.starts.put_starts.Given as goal

abbrev pub invariant-loop-copy : goal.invariant-loop-copy
invariant-loop-copy g l = IsPutting l.place l.parity l.copy l.chosen l.bytes g.D.Disk.told
    (g.D.Disk.medium l.initial.disk) (g.D.Disk.medium l.disk)
