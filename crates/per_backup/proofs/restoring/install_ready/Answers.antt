use Rattle.std.proofs.Common.{◌≡◌, ◌∙◌, ap, sym, subst, Some, None}
use Rattle.disk_model.specs.Laws.{elapses_on, rose_before}
use Rattle.guarded_cell.specs.Cells.{generation_of}
use Rattle.deployment_model.specs.Data.{deployment_data}
use Rattle.deploy_laws.specs.Apps.{App, IsCleanApp, Says, app_at, says_generation}
use Rattle.deploy_laws.specs.Stands.{StandsThroughout}
use Rattle.deploy.specs.declared.roots.Root.{Root}
use Rattle.deploy.specs.declared.roots.Root.TheVariants as root
use Rattle.deploy.specs.Clauses.{IsBesideNext}
use Rattle.deploy.specs.Roots.{RootAt, root_says}
use Rattle.per_backup.specs.Backups.{taken}
use Rattle.per_backup.specs.Restores.{IsSaid}
use Rattle.per_backup.proofs.Lists.{err_so, ok_so}
use Rattle.per_backup.proofs.Restored.{filled_same, generation_left, later_filled, not_refused, opened_leaves, said_twice}
use Rattle.per_backup.proofs.Restored.{then_leaves, then_stands}
use Rattle.per_backup.proofs.Stored.{says_of}
use Rattle.per_backup.proofs.restoring.install_ready.Goals as goal

-- the root is not opened

pub returns-in_err-root-clause-outside : goal.returns-in_err-root-clause-outside
returns-in_err-root-clause-outside g c = opened_leaves g.D.Disk.told c.args.app (g.D.Disk.medium c.args.disk.now)
    (g.D.Disk.medium c.open_root.new.disk) c.in_err-root.ensures.outside

pub returns-in_err-root-clause-any_moment : goal.returns-in_err-root-clause-any_moment
returns-in_err-root-clause-any_moment g c = λ tells quiet clean. c.in_err-root.ensures.any_moment tells quiet clean _
    (later_filled (app_at (g.D.Disk.medium c.args.disk.now).image c.args.app)
    (deployment_data c.args.ready.version.deployment) c.args.ready.contents.items)

-- it refuses what was not refused before

pub returns-in-Err-clause-refused : goal.returns-in-Err-clause-refused
returns-in-Err-clause-refused g c = (
  root_says c.in_ok-root.root,
  said_twice g.D.Disk.told (g.D.Disk.medium c.args.disk.now).image c.args.app (root_says c.in_ok-root.root)
      c.in_ok-root.ensures.says,
  sym (err_so c.cell_of.result c.in-Err.error (λ e. taken (root_says c.in_ok-root.root) ≡ Some e) c.in-Err.is
      c.cell_of.ensures.refused),
)

pub returns-in-Err-clause-app : goal.returns-in-Err-clause-app
returns-in-Err-clause-app g c = λ tells. absurd (not_refused g.D.Disk.told
    (g.D.Disk.medium c.args.disk.now).image c.args.app (root_says c.in_ok-root.root) c.in-Err.error c.requires.free
    (said_twice g.D.Disk.told (g.D.Disk.medium c.args.disk.now).image c.args.app (root_says c.in_ok-root.root)
    c.in_ok-root.ensures.says)
    (err_so c.cell_of.result c.in-Err.error (λ e. taken (root_says c.in_ok-root.root) ≡ Some e) c.in-Err.is
    c.cell_of.ensures.refused) tells)

pub returns-in-Err-clause-clean : goal.returns-in-Err-clause-clean
returns-in-Err-clause-clean g c = λ tells. absurd (not_refused g.D.Disk.told
    (g.D.Disk.medium c.args.disk.now).image c.args.app (root_says c.in_ok-root.root) c.in-Err.error c.requires.free
    (said_twice g.D.Disk.told (g.D.Disk.medium c.args.disk.now).image c.args.app (root_says c.in_ok-root.root)
    c.in_ok-root.ensures.says)
    (err_so c.cell_of.result c.in-Err.error (λ e. taken (root_says c.in_ok-root.root) ≡ Some e) c.in-Err.is
    c.cell_of.ensures.refused) tells)

pub returns-in-Err-clause-outside : goal.returns-in-Err-clause-outside
returns-in-Err-clause-outside g c = opened_leaves g.D.Disk.told c.args.app (g.D.Disk.medium c.args.disk.now)
    (g.D.Disk.medium c.open_root.new.disk) c.in_ok-root.ensures.outside

pub returns-in-Err-clause-any_moment : goal.returns-in-Err-clause-any_moment
returns-in-Err-clause-any_moment g c = λ tells. absurd (not_refused g.D.Disk.told
    (g.D.Disk.medium c.args.disk.now).image c.args.app (root_says c.in_ok-root.root) c.in-Err.error c.requires.free
    (said_twice g.D.Disk.told (g.D.Disk.medium c.args.disk.now).image c.args.app (root_says c.in_ok-root.root)
    c.in_ok-root.ensures.says)
    (err_so c.cell_of.result c.in-Err.error (λ e. taken (root_says c.in_ok-root.root) ≡ Some e) c.in-Err.is
    c.cell_of.ensures.refused) tells)

-- the version is made over it

pub install_filled-requires-clause-root : goal.install_filled-requires-clause-root
install_filled-requires-clause-root g c =
    let free = ok_so c.cell_of.result c.in-Ok.cell (λ cell. (c.in_ok-root.root ≡ root.Absent cell)
    × (taken (root_says c.in_ok-root.root) ≡ None)) c.in-Ok.is c.cell_of.ensures.free in
    subst (λ (r : Root). RootAt g.D.Disk.told (g.D.Disk.medium c.open_root.new.disk).image c.args.app r) free.0
    c.in_ok-root.ensures.root

pub install_filled-requires-clause-not_worn : goal.install_filled-requires-clause-not_worn
install_filled-requires-clause-not_worn g c =
    let free = ok_so c.cell_of.result c.in-Ok.cell (λ cell. (c.in_ok-root.root ≡ root.Absent cell)
    × (taken (root_says c.in_ok-root.root) ≡ None)) c.in-Ok.is c.cell_of.ensures.free in
    generation_left (generation_of c.in-Ok.cell) (sym (ap (λ (r : Root). taken (root_says r)) free.0) ∙ free.1)

pub returns-in_err-_installed-clause-outside : goal.returns-in_err-_installed-clause-outside
returns-in_err-_installed-clause-outside g c = then_leaves g.D.Disk.told (IsBesideNext c.args.app 0)
    (g.D.Disk.medium c.args.disk.now) (g.D.Disk.medium c.open_root.new.disk)
    (g.D.Disk.medium c.install_filled.new.disk) c.in_ok-root.ensures.time c.in_err-_installed.ensures.time
    c.in_ok-root.ensures.quiet (opened_leaves g.D.Disk.told c.args.app (g.D.Disk.medium c.args.disk.now)
    (g.D.Disk.medium c.open_root.new.disk) c.in_ok-root.ensures.outside) c.in_err-_installed.ensures.outside

pub returns-clause-outside : goal.returns-clause-outside
returns-clause-outside g c = then_leaves g.D.Disk.told (IsBesideNext c.args.app 0)
    (g.D.Disk.medium c.args.disk.now) (g.D.Disk.medium c.open_root.new.disk)
    (g.D.Disk.medium c.install_filled.new.disk) c.in_ok-root.ensures.time c.in_ok-_installed.ensures.time
    c.in_ok-root.ensures.quiet (opened_leaves g.D.Disk.told c.args.app (g.D.Disk.medium c.args.disk.now)
    (g.D.Disk.medium c.open_root.new.disk) c.in_ok-root.ensures.outside) c.in_ok-_installed.ensures.outside

pub returns-clause-refused : goal.returns-clause-refused
returns-clause-refused g c =
    let free = ok_so c.cell_of.result c.in-Ok.cell (λ cell. (c.in_ok-root.root ≡ root.Absent cell)
    × (taken (root_says c.in_ok-root.root) ≡ None)) c.in-Ok.is c.cell_of.ensures.free in (
      root_says c.in_ok-root.root,
      said_twice g.D.Disk.told (g.D.Disk.medium c.args.disk.now).image c.args.app (root_says c.in_ok-root.root)
          c.in_ok-root.ensures.says,
      sym free.1,
    )

-- what is made over it is what is ready

pub returns-in_err-_installed-clause-any_moment : goal.returns-in_err-_installed-clause-any_moment
returns-in_err-_installed-clause-any_moment g c = λ tells.
    let old = (g.D.Disk.medium c.args.disk.now).image in
    let free = ok_so c.cell_of.result c.in-Ok.cell (λ cell. (c.in_ok-root.root ≡ root.Absent cell)
    × (taken (root_says c.in_ok-root.root) ≡ None)) c.in-Ok.is c.cell_of.ensures.free in
    then_stands c.storages_stand.ensures.mended c.args.app _ (g.D.Disk.medium c.args.disk.now)
    (g.D.Disk.medium c.open_root.new.disk) (g.D.Disk.medium c.install_filled.new.disk) c.in_ok-root.ensures.time
    c.in_err-_installed.ensures.time c.in_ok-root.ensures.quiet (c.in_ok-root.ensures.any_moment tells)
    (c.in_ok-root.ensures.app tells) (c.in_ok-root.ensures.clean tells)
    (later_filled (app_at old c.args.app) (deployment_data c.args.ready.version.deployment)
    c.args.ready.contents.items)
    (subst (λ (a : App). StandsThroughout c.args.app a (g.D.Disk.medium c.open_root.new.disk)
    (g.D.Disk.medium c.install_filled.new.disk))
    (filled_same (generation_of c.in-Ok.cell) (says_generation (app_at old c.args.app).says)
    (deployment_data c.args.ready.version.deployment) c.deref.result.now c.args.ready.contents.items
    (sym (ap (λ (r : Root). says_generation (root_says r)) free.0)
    ∙ ap says_generation (c.in_ok-root.ensures.says tells ∙ sym (says_of old c.args.app))) c.deref.ensures.value)
    (c.in_err-_installed.ensures.any_moment tells))

pub returns-clause-any_moment : goal.returns-clause-any_moment
returns-clause-any_moment g c = λ tells.
    let old = (g.D.Disk.medium c.args.disk.now).image in
    let free = ok_so c.cell_of.result c.in-Ok.cell (λ cell. (c.in_ok-root.root ≡ root.Absent cell)
    × (taken (root_says c.in_ok-root.root) ≡ None)) c.in-Ok.is c.cell_of.ensures.free in
    then_stands c.storages_stand.ensures.mended c.args.app _ (g.D.Disk.medium c.args.disk.now)
    (g.D.Disk.medium c.open_root.new.disk) (g.D.Disk.medium c.install_filled.new.disk) c.in_ok-root.ensures.time
    c.in_ok-_installed.ensures.time c.in_ok-root.ensures.quiet (c.in_ok-root.ensures.any_moment tells)
    (c.in_ok-root.ensures.app tells) (c.in_ok-root.ensures.clean tells)
    (later_filled (app_at old c.args.app) (deployment_data c.args.ready.version.deployment)
    c.args.ready.contents.items)
    (subst (λ (a : App). StandsThroughout c.args.app a (g.D.Disk.medium c.open_root.new.disk)
    (g.D.Disk.medium c.install_filled.new.disk))
    (filled_same (generation_of c.in-Ok.cell) (says_generation (app_at old c.args.app).says)
    (deployment_data c.args.ready.version.deployment) c.deref.result.now c.args.ready.contents.items
    (sym (ap (λ (r : Root). says_generation (root_says r)) free.0)
    ∙ ap says_generation (c.in_ok-root.ensures.says tells ∙ sym (says_of old c.args.app))) c.deref.ensures.value)
    (c.in_ok-_installed.ensures.any_moment tells))

pub returns-clause-app : goal.returns-clause-app
returns-clause-app g c = λ tells.
    let old = (g.D.Disk.medium c.args.disk.now).image in
    let free = ok_so c.cell_of.result c.in-Ok.cell (λ cell. (c.in_ok-root.root ≡ root.Absent cell)
    × (taken (root_says c.in_ok-root.root) ≡ None)) c.in-Ok.is c.cell_of.ensures.free in
    c.in_ok-_installed.ensures.app tells
    ∙ filled_same (generation_of c.in-Ok.cell) (says_generation (app_at old c.args.app).says)
    (deployment_data c.args.ready.version.deployment) c.deref.result.now c.args.ready.contents.items
    (sym (ap (λ (r : Root). says_generation (root_says r)) free.0)
    ∙ ap says_generation (c.in_ok-root.ensures.says tells ∙ sym (says_of old c.args.app))) c.deref.ensures.value

pub returns-clause-held : goal.returns-clause-held
returns-clause-held g c = λ done. (
  c.in_ok-_installed._installed,
  c.in_ok-_installed.ensures.root,
  c.in_ok-_installed.ensures.text,
)
