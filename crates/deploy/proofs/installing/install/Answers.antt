use Rattle.std.proofs.Common.{[], ap}
use Rattle.guarded_cell.specs.Cells.{generation_of}
use Rattle.deploy_laws.specs.Apps.{app_at}
use Rattle.deploy_rows.specs.Rows.{installing}
use Rattle.per_base.specs.declared.errors.PerError.TheVariants as error
use Rattle.per_base.specs.declared.errors.Unit.TheVariants as unit
use Rattle.deploy.specs.declared.roots.Root.TheVariants as root
use Rattle.deploy.specs.Roots.{root_app, root_says}
use Rattle.deploy.proofs.Due.{install_takes}
use Rattle.deploy.proofs.InstallRow.{over_bad, over_installed}
use Rattle.deploy.proofs.Leaves.{leaves_none}
use Rattle.deploy.proofs.RootLast.{last_none}
use Rattle.deploy.proofs.RootLens.{none_written}
use Rattle.deploy.proofs.Unmoved.{answered, app_after, later_after, row_given, says_still, stands_still}
use Rattle.deploy.proofs.installing.install.Goals as goal

pub returns-in-Bad-clause-refused : goal.returns-in-Bad-clause-refused
returns-in-Bad-clause-refused g c = answered (installing c.args.now c.args.manifest.now)
    (error.IntegrityCorrupted unit.Root) root.Bad c.args.root c.refuses.result c.in-Bad.is c.refuses.ensures
    (over_bad c.args.now c.args.manifest.now)

pub returns-in-Bad-clause-says : goal.returns-in-Bad-clause-says
returns-in-Bad-clause-says g c = says_still (installing c.args.now c.args.manifest.now)
    (error.IntegrityCorrupted unit.Root) root.Bad c.args.root c.refuses.result c.in-Bad.is c.refuses.ensures
    (over_bad c.args.now c.args.manifest.now)

pub returns-in-Bad-clause-app : goal.returns-in-Bad-clause-app
returns-in-Bad-clause-app g c = app_after (installing c.args.now c.args.manifest.now)
    (error.IntegrityCorrupted unit.Root) c.one_root.ensures.again c.roots_say.ensures.alone
    (c.rows_read_the_root.ensures.install c.args.now c.args.manifest.now) g.D.Disk.told
    (g.D.Disk.medium c.args.disk.now).image c.args.app c.args.root c.requires.root
    (row_given (installing c.args.now c.args.manifest.now) (error.IntegrityCorrupted unit.Root) root.Bad c.args.root
    c.refuses.result c.in-Bad.is c.refuses.ensures (over_bad c.args.now c.args.manifest.now))

pub returns-in-Bad-clause-any_moment : goal.returns-in-Bad-clause-any_moment
returns-in-Bad-clause-any_moment g c = λ tells. stands_still c.untouched_stands.ensures.still g.D.Disk.told c.args.app
    (g.D.Disk.medium c.args.disk.now) _ (g.met.D.Disk.lawful c.args.disk.now) c.requires.app
    (later_after (app_at (g.D.Disk.medium c.args.disk.now).image c.args.app)
    (installing c.args.now c.args.manifest.now (app_at (g.D.Disk.medium c.args.disk.now).image c.args.app))
    (λ b is. c.rows_lead_on.ensures.install c.args.now c.args.manifest.now
    (app_at (g.D.Disk.medium c.args.disk.now).image c.args.app) b is))

pub returns-in-Installed-clause-refused : goal.returns-in-Installed-clause-refused
returns-in-Installed-clause-refused g c = answered (installing c.args.now c.args.manifest.now) error.AlreadyInstalled
    (root.Installed c.in-Installed.i) c.args.root c.refuses-in-Installed.result c.in-Installed.is
    c.refuses-in-Installed.ensures (over_installed c.args.now c.args.manifest.now c.in-Installed.i)

pub returns-in-Installed-clause-says : goal.returns-in-Installed-clause-says
returns-in-Installed-clause-says g c = says_still (installing c.args.now c.args.manifest.now) error.AlreadyInstalled
    (root.Installed c.in-Installed.i) c.args.root c.refuses-in-Installed.result c.in-Installed.is
    c.refuses-in-Installed.ensures (over_installed c.args.now c.args.manifest.now c.in-Installed.i)

pub returns-in-Installed-clause-app : goal.returns-in-Installed-clause-app
returns-in-Installed-clause-app g c = app_after (installing c.args.now c.args.manifest.now) error.AlreadyInstalled
    c.one_root.ensures.again c.roots_say.ensures.alone (c.rows_read_the_root.ensures.install c.args.now
    c.args.manifest.now) g.D.Disk.told (g.D.Disk.medium c.args.disk.now).image c.args.app c.args.root c.requires.root
    (row_given (installing c.args.now c.args.manifest.now) error.AlreadyInstalled (root.Installed c.in-Installed.i)
    c.args.root c.refuses-in-Installed.result c.in-Installed.is c.refuses-in-Installed.ensures
    (over_installed c.args.now c.args.manifest.now c.in-Installed.i))

pub returns-in-Installed-clause-any_moment : goal.returns-in-Installed-clause-any_moment
returns-in-Installed-clause-any_moment g c = λ tells. stands_still c.untouched_stands.ensures.still g.D.Disk.told
    c.args.app (g.D.Disk.medium c.args.disk.now) _ (g.met.D.Disk.lawful c.args.disk.now) c.requires.app
    (later_after (app_at (g.D.Disk.medium c.args.disk.now).image c.args.app)
    (installing c.args.now c.args.manifest.now (app_at (g.D.Disk.medium c.args.disk.now).image c.args.app))
    (λ b is. c.rows_lead_on.ensures.install c.args.now c.args.manifest.now
    (app_at (g.D.Disk.medium c.args.disk.now).image c.args.app) b is))

pub returns-in-Absent-clause-due : goal.returns-in-Absent-clause-due
returns-in-Absent-clause-due g c = λ e refusal none. absurd
    (install_takes c.args.now (generation_of c.in-Absent.cell) c.args.manifest.now (root_app c.args.root [])
    (ap root_says c.in-Absent.is) e refusal none)

pub returns-in-Bad-clause-places : goal.returns-in-Bad-clause-places
returns-in-Bad-clause-places g c = leaves_none g.D.Disk.told _ (g.D.Disk.medium c.args.disk.now)
    (g.met.D.Disk.lawful c.args.disk.now)

pub returns-in-Bad-clause-written : goal.returns-in-Bad-clause-written
returns-in-Bad-clause-written g c = none_written _ _

pub returns-in-Installed-clause-places : goal.returns-in-Installed-clause-places
returns-in-Installed-clause-places g c = leaves_none g.D.Disk.told _ (g.D.Disk.medium c.args.disk.now)
    (g.met.D.Disk.lawful c.args.disk.now)

pub returns-in-Installed-clause-written : goal.returns-in-Installed-clause-written
returns-in-Installed-clause-written g c = none_written _ _

pub returns-in-Absent-clause-places : goal.returns-in-Absent-clause-places
returns-in-Absent-clause-places g c = c.install_first.ensures.places

pub returns-in-Absent-clause-written : goal.returns-in-Absent-clause-written
returns-in-Absent-clause-written g c = c.install_first.ensures.written

pub returns-in-Bad-clause-last : goal.returns-in-Bad-clause-last
returns-in-Bad-clause-last g c = last_none g.D.Disk.medium g.D.Disk.told c.args.app _ c.args.disk.now
    (g.met.D.Disk.lawful c.args.disk.now)

pub returns-in-Installed-clause-last : goal.returns-in-Installed-clause-last
returns-in-Installed-clause-last g c = last_none g.D.Disk.medium g.D.Disk.told c.args.app _ c.args.disk.now
    (g.met.D.Disk.lawful c.args.disk.now)

pub returns-in-Absent-clause-last : goal.returns-in-Absent-clause-last
returns-in-Absent-clause-last g c = c.install_first.ensures.last
