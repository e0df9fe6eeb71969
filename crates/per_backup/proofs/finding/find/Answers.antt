use Rattle.std.proofs.lemmas.Result.{IfOk-weaker}
use Rattle.deploy.specs.Views.{root_seen}
use Rattle.per_backup.proofs.Seen.{located, missing, weaker_err}
use Rattle.per_backup.proofs.finding.find.Goals as goal

pub returns-clause-located : goal.returns-clause-located
returns-clause-located g c = IfOk-weaker c.in_ok-found.found _ _
    (located c.storages_stand.ensures g.D.Disk.told (g.D.Disk.medium c.args.disk.now).image c.args.app c.args.name.now
    (root_seen c.in_ok-view.view) c.in_ok-view.ensures.view)
    c.in_ok-found.ensures.found

pub returns-clause-missing : goal.returns-clause-missing
returns-clause-missing g c = weaker_err c.in_ok-found.found _ _
    (missing g.D.Disk.told (g.D.Disk.medium c.args.disk.now).image c.args.app c.args.name.now
    (root_seen c.in_ok-view.view) c.in_ok-view.ensures.view)
    c.in_ok-found.ensures.missing
