use Rattle.std.proofs.Common.{◌-◌, ◌≤◌, IsTrue}
use Rattle.block_files.proofs.BlockReads.{IsRead}
use Rattle.block_files.proofs.Runs.{IsGathered}
use Rattle.block_files.proofs.reading.read_runs.Given as goal

abbrev pub invariant-loop-next : goal.invariant-loop-next
invariant-loop-next g l = record {
  read : IsRead (g.D.Disk.medium l.fn.disk) (g.D.Disk.medium l.disk);
  below : l.next ≤ l.needed;
  bytes : IsTrue g.D.Disk.told → IsGathered ((g.D.Disk.medium l.fn.disk).image l.file) l.blocks l.next l.out;
}

abbrev pub decreases-loop-next : goal.decreases-loop-next
decreases-loop-next g l = l.needed - l.next
