use Rattle.std.proofs.Common.{◌≡◌}
use Rattle.deploy.proofs.ReadStored.{IsReading}
use Rattle.deploy.proofs.updating.stored_contents.Given as goal

-- those before this one were read
abbrev pub invariant-loop-config : goal.invariant-loop-config
invariant-loop-config g l = (l.number ≡ l.config-index)
    × IsReading g.D.Disk.told l.app l.root.bank l.config-index l.root.active.deployment l.contents.items
    (g.D.Disk.medium l.fn.disk) (g.D.Disk.medium l.disk)
