use Rattle.std.specs.Prelude.{IsTrue}
use Rattle.per_audit.proofs.Remaining.{AreLeft, IsSeen}
use Rattle.per_audit.proofs.auditing.audit_storages.Given as goal

abbrev pub invariant-loop-number : goal.invariant-loop-number
invariant-loop-number g l = record {
  left : IsTrue g.D.Disk.told → AreLeft (g.D.Disk.medium l.fn.disk).image l.app l.bank l.number l.storages l.fn.notes
      l.notes;
  seen : IsSeen (g.D.Disk.medium l.fn.disk) (g.D.Disk.medium l.disk);
}
