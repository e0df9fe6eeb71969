use Rattle.std.proofs.Common.{◌≡◌}
use Rattle.std.specs.Prelude.{IsTrue}
use Rattle.flash_reclaim.specs.Naming.{kept_below}
use Rattle.flash_reclaim.proofs.Looks.{IsSeen}
use Rattle.flash_reclaim.proofs.naming.kept_files.Given as goal

abbrev pub invariant-loop-app : goal.invariant-loop-app
invariant-loop-app g l = record {
  kept : IsTrue g.D.Disk.told → l.kept.items ≡ kept_below (g.D.Disk.medium l.fn.disk).image l.app;
  seen : IsSeen (g.D.Disk.medium l.fn.disk) (g.D.Disk.medium l.disk);
}
