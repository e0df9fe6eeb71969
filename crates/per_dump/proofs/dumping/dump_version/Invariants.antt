use Rattle.std.specs.Prelude.{IsTrue}
use Rattle.deploy_laws.specs.Apps.{app_at}
use Rattle.per_dump.proofs.Looked.{IsDumping}
use Rattle.per_dump.proofs.Storages.{AreDumped}
use Rattle.per_dump.proofs.dumping.dump_version.Given as goal

-- the storages before this one are dumped, and nothing is changed
abbrev pub invariant-loop-config : goal.invariant-loop-config
invariant-loop-config g l = IsDumping (g.D.Disk.medium l.fn.disk) (g.D.Disk.medium l.disk)
    × (IsTrue g.D.Disk.told → AreDumped (app_at (g.D.Disk.medium l.fn.disk).image l.application) l.config-items
    l.config-index l.storages.items)
