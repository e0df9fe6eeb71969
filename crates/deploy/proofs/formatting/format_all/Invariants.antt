use Rattle.std.proofs.Common.{◌≡◌, ◌⊎◌, ℕ, ◌+◌, ◌*◌, ◌<◌, ◌≤◌}
use Rattle.std.specs.Prelude.{IsTrue}
use Rattle.disk_model.specs.Medium.{Elapses, Quiet}
use Rattle.deploy.specs.Clauses.{Leaves}
use Rattle.deploy_rows.specs.Costs.{format_cost}
use Rattle.deploy.proofs.Formatted.{IsEmptyRoot, IsNoRoot}
use Rattle.deploy.proofs.formatting.format_all.Given as goal

abbrev pub invariant-loop-app : goal.invariant-loop-app
invariant-loop-app g l = record {
  empty : IsTrue g.D.Disk.told → (app : ℕ) → app < l.app → IsEmptyRoot (g.D.Disk.medium l.disk).image app;
  quiet : (1 ≤ l.app) ⊎ Quiet (g.D.Disk.medium l.initial.disk) → Quiet (g.D.Disk.medium l.disk);
  passes : (g.D.Disk.medium l.disk).faults ≡ (g.D.Disk.medium l.initial.disk).faults;
  written : (g.D.Disk.medium l.disk).written ≤ (g.D.Disk.medium l.initial.disk).written + l.app * format_cost;
  outside : Leaves g.D.Disk.told IsNoRoot (g.D.Disk.medium l.initial.disk) (g.D.Disk.medium l.disk);
  time : Elapses (g.D.Disk.medium l.initial.disk) (g.D.Disk.medium l.disk);
}
