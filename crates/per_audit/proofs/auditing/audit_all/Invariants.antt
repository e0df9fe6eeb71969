use Rattle.std.proofs.Common.{◌≤◌}
use Rattle.std.specs.Prelude.{IsTrue}
use Rattle.disk_model.specs.Medium.{Quiet}
use Rattle.per_audit.proofs.Remaining.{AppsLeft, IsSeen, app_findings_at, app_elements_at}
use Rattle.per_audit.proofs.auditing.audit_all.Given as goal

abbrev pub invariant-loop-app : goal.invariant-loop-app
invariant-loop-app g l = record {
  elements : IsTrue g.D.Disk.told → AppsLeft (app_elements_at (g.D.Disk.medium l.fn.disk).image) l.app
      l.notes.elements.items;
  findings : IsTrue g.D.Disk.told → AppsLeft (app_findings_at (g.D.Disk.medium l.fn.disk).image) l.app
      l.notes.findings.items;
  quiet : 1 ≤ l.app → Quiet (g.D.Disk.medium l.disk);
  seen : IsSeen (g.D.Disk.medium l.fn.disk) (g.D.Disk.medium l.disk);
}
