use Rattle.std.proofs.Common.{◌≡◌, [], None, refl, ap, sym, ◌∙◌, subst, arith}
use Rattle.std.specs.Prelude.{IfOk, OnOk, Result, Err}
use Rattle.per_base.specs.declared.errors.PerError.{PerError}
use Rattle.guarded_cell.specs.Cells.{generation_of}
use Rattle.deployment_model.specs.Data.{deployment_data}
use Rattle.root_text.specs.declared.versions.VersionText.{VersionText}
use Rattle.deploy_laws.specs.Apps.{App, app_at}
use Rattle.deploy_laws.specs.Stands.{StandsThroughout}
use Rattle.deploy_rows.specs.Rows.{AnswersRow, after, deployment_of, installed_app, installing}
use Rattle.deploy.specs.declared.roots.Outcome.{Outcome}
use Rattle.deploy.specs.declared.roots.Root.TheVariants as root
use Rattle.deploy.specs.Roots.{root_app, root_says}
use Rattle.deploy.specs.Versions.{TellsRow}
use Rattle.deploy.proofs.FirstVersion.{if_ok, says_absent}
use Rattle.deploy.proofs.InstallRow.{installs, rejected, worn_out}
use Rattle.deploy.proofs.Leaves.{leaves_none}
use Rattle.deploy.proofs.MadePlaces.{said_places, said_written}
use Rattle.deploy.proofs.RootLast.{last_none, said_last}
use Rattle.deploy.proofs.RootLens.{none_written}
use Rattle.deploy.proofs.Unmoved.{answered, app_after, later_after, led_after, led_answers, led_is_ok}
use Rattle.deploy.proofs.Unmoved.{led_never_refused, says_still, stands_still}
use Rattle.deploy.proofs.installing.install_first.Goals as goal

pub returns-in_err-version-clause-any_moment : goal.returns-in_err-version-clause-any_moment
returns-in_err-version-clause-any_moment g c = λ tells.
    stands_still c.untouched_stands.ensures.still g.D.Disk.told c.args.app (g.D.Disk.medium c.args.disk.now) _
    (g.met.D.Disk.lawful c.args.disk.now) c.requires.app
    (later_after (app_at (g.D.Disk.medium c.args.disk.now).image c.args.app)
    (installing c.args.now c.args.manifest.now (app_at (g.D.Disk.medium c.args.disk.now).image c.args.app))
    (λ b is. c.rows_lead_on.ensures.install c.args.now c.args.manifest.now
    (app_at (g.D.Disk.medium c.args.disk.now).image c.args.app) b is))

pub returns-in-Err-clause-refused : goal.returns-in-Err-clause-refused
returns-in-Err-clause-refused g c = answered (installing c.args.now c.args.manifest.now) c.in-Err.rejected
    (root.Absent c.args.cell) (root.Absent c.args.cell) c.refuses.result refl c.refuses.ensures
    (rejected c.args.now (generation_of c.args.cell) c.args.manifest.now (root_app (root.Absent c.args.cell) []) refl
    c.in-Err.rejected (subst (λ (r : Result VersionText PerError). TellsRow (deployment_of c.args.manifest.now) r)
    c.in-Err.is c.in_ok-version.ensures.told))

pub returns-in-Err-clause-says : goal.returns-in-Err-clause-says
returns-in-Err-clause-says g c = says_still (installing c.args.now c.args.manifest.now) c.in-Err.rejected
    (root.Absent c.args.cell) (root.Absent c.args.cell) c.refuses.result refl c.refuses.ensures
    (rejected c.args.now (generation_of c.args.cell) c.args.manifest.now (root_app (root.Absent c.args.cell) []) refl
    c.in-Err.rejected (subst (λ (r : Result VersionText PerError). TellsRow (deployment_of c.args.manifest.now) r)
    c.in-Err.is c.in_ok-version.ensures.told))

pub returns-in-Err-clause-app : goal.returns-in-Err-clause-app
returns-in-Err-clause-app g c = app_after (installing c.args.now c.args.manifest.now) c.in-Err.rejected
    c.one_root.ensures.again c.roots_say.ensures.alone (c.rows_read_the_root.ensures.install c.args.now
    c.args.manifest.now) g.D.Disk.told (g.D.Disk.medium c.args.disk.now).image c.args.app (root.Absent c.args.cell)
    c.requires.root (rejected c.args.now (generation_of c.args.cell) c.args.manifest.now
    (root_app (root.Absent c.args.cell) []) refl c.in-Err.rejected
    (subst (λ (r : Result VersionText PerError). TellsRow (deployment_of c.args.manifest.now) r) c.in-Err.is
    c.in_ok-version.ensures.told))

pub returns-in-Err-clause-any_moment : goal.returns-in-Err-clause-any_moment
returns-in-Err-clause-any_moment g c = λ tells. stands_still c.untouched_stands.ensures.still g.D.Disk.told c.args.app
    (g.D.Disk.medium c.args.disk.now) _ (g.met.D.Disk.lawful c.args.disk.now) c.requires.app
    (later_after (app_at (g.D.Disk.medium c.args.disk.now).image c.args.app)
    (installing c.args.now c.args.manifest.now (app_at (g.D.Disk.medium c.args.disk.now).image c.args.app))
    (λ b is. c.rows_lead_on.ensures.install c.args.now c.args.manifest.now
    (app_at (g.D.Disk.medium c.args.disk.now).image c.args.app) b is))

pub returns-then-generation-clause-refused : goal.returns-then-generation-clause-refused
returns-then-generation-clause-refused g c = answered (installing c.args.now c.args.manifest.now) c.worn_out.result
    (root.Absent c.args.cell) (root.Absent c.args.cell) c.refuses-then-generation.result refl
    c.refuses-then-generation.ensures (worn_out c.args.now (generation_of c.args.cell) c.args.manifest.now
    (root_app (root.Absent c.args.cell) []) refl (deployment_data c.in-Ok.version.deployment)
    (subst (λ (r : Result VersionText PerError). TellsRow (deployment_of c.args.manifest.now) r) c.in-Ok.is
    c.in_ok-version.ensures.told) (omega arith) ∙ ap (λ (e : PerError). Err e) (sym c.worn_out.ensures))

pub returns-then-generation-clause-says : goal.returns-then-generation-clause-says
returns-then-generation-clause-says g c = says_still (installing c.args.now c.args.manifest.now) c.worn_out.result
    (root.Absent c.args.cell) (root.Absent c.args.cell) c.refuses-then-generation.result refl
    c.refuses-then-generation.ensures (worn_out c.args.now (generation_of c.args.cell) c.args.manifest.now
    (root_app (root.Absent c.args.cell) []) refl (deployment_data c.in-Ok.version.deployment)
    (subst (λ (r : Result VersionText PerError). TellsRow (deployment_of c.args.manifest.now) r) c.in-Ok.is
    c.in_ok-version.ensures.told) (omega arith) ∙ ap (λ (e : PerError). Err e) (sym c.worn_out.ensures))

pub returns-then-generation-clause-app : goal.returns-then-generation-clause-app
returns-then-generation-clause-app g c = app_after (installing c.args.now c.args.manifest.now) c.worn_out.result
    c.one_root.ensures.again c.roots_say.ensures.alone (c.rows_read_the_root.ensures.install c.args.now
    c.args.manifest.now) g.D.Disk.told (g.D.Disk.medium c.args.disk.now).image c.args.app (root.Absent c.args.cell)
    c.requires.root (worn_out c.args.now (generation_of c.args.cell) c.args.manifest.now
    (root_app (root.Absent c.args.cell) []) refl (deployment_data c.in-Ok.version.deployment)
    (subst (λ (r : Result VersionText PerError). TellsRow (deployment_of c.args.manifest.now) r) c.in-Ok.is
    c.in_ok-version.ensures.told) (omega arith) ∙ ap (λ (e : PerError). Err e) (sym c.worn_out.ensures))

pub returns-then-generation-clause-any_moment : goal.returns-then-generation-clause-any_moment
returns-then-generation-clause-any_moment g c = λ tells.
    stands_still c.untouched_stands.ensures.still g.D.Disk.told c.args.app (g.D.Disk.medium c.args.disk.now) _
    (g.met.D.Disk.lawful c.args.disk.now) c.requires.app
    (later_after (app_at (g.D.Disk.medium c.args.disk.now).image c.args.app)
    (installing c.args.now c.args.manifest.now (app_at (g.D.Disk.medium c.args.disk.now).image c.args.app))
    (λ b is. c.rows_lead_on.ensures.install c.args.now c.args.manifest.now
    (app_at (g.D.Disk.medium c.args.disk.now).image c.args.app) b is))

pub returns-clause-refused : goal.returns-clause-refused
returns-clause-refused g c = if_ok c.install_version.result (λ (o : Outcome). o.refused ≡ None)
    (λ (o : Outcome). AnswersRow o.refused (installing c.args.now c.args.manifest.now
    (root_app (root.Absent c.args.cell) [])))
    (λ o none. led_answers o.refused (installing c.args.now c.args.manifest.now (root_app (root.Absent c.args.cell) []))
    (installed_app (generation_of c.args.cell) c.args.now (deployment_data c.in-Ok.version.deployment)) none
    (installs c.args.now (generation_of c.args.cell) c.args.manifest.now (root_app (root.Absent c.args.cell) [])
    refl (deployment_data c.in-Ok.version.deployment)
    (subst (λ (r : Result VersionText PerError). TellsRow (deployment_of c.args.manifest.now) r) c.in-Ok.is
    c.in_ok-version.ensures.told) (omega arith))) c.install_version.ensures.installed

pub returns-clause-says : goal.returns-clause-says
returns-clause-says g c = if_ok c.install_version.result
    (λ (o : Outcome). root_says o.root ≡ (installed_app (generation_of c.args.cell) c.args.now
    (deployment_data c.in-Ok.version.deployment)).says)
    (λ (o : Outcome). root_says o.root ≡ (after (root_app (root.Absent c.args.cell) [])
    (installing c.args.now c.args.manifest.now (root_app (root.Absent c.args.cell) []))).says)
    (λ o says. says ∙ ap (λ (a : App). a.says) (led_after (root_app (root.Absent c.args.cell) [])
    (installed_app (generation_of c.args.cell) c.args.now (deployment_data c.in-Ok.version.deployment))
    (installing c.args.now c.args.manifest.now (root_app (root.Absent c.args.cell) []))
    (installs c.args.now (generation_of c.args.cell) c.args.manifest.now (root_app (root.Absent c.args.cell) [])
    refl (deployment_data c.in-Ok.version.deployment)
    (subst (λ (r : Result VersionText PerError). TellsRow (deployment_of c.args.manifest.now) r) c.in-Ok.is
    c.in_ok-version.ensures.told) (omega arith)))) c.install_version.ensures.says

pub returns-clause-app : goal.returns-clause-app
returns-clause-app g c = λ tells. subst (λ (b : App). OnOk c.install_version.result
    (app_at (g.D.Disk.medium c.install_version.new.disk).image c.args.app ≡ b))
    (led_after (app_at (g.D.Disk.medium c.args.disk.now).image c.args.app)
    (installed_app (generation_of c.args.cell) c.args.now (deployment_data c.in-Ok.version.deployment))
    (installing c.args.now c.args.manifest.now (app_at (g.D.Disk.medium c.args.disk.now).image c.args.app))
    (installs c.args.now (generation_of c.args.cell) c.args.manifest.now
    (app_at (g.D.Disk.medium c.args.disk.now).image c.args.app)
    (says_absent c.one_root.ensures.again c.roots_say.ensures.alone (g.D.Disk.medium c.args.disk.now).image
    c.args.app c.args.cell c.requires.root.memory (c.requires.root.disk tells))
    (deployment_data c.in-Ok.version.deployment) (subst
    (λ (r : Result VersionText PerError). TellsRow (deployment_of c.args.manifest.now) r) c.in-Ok.is
    c.in_ok-version.ensures.told) (omega arith))) (c.install_version.ensures.app tells)

pub returns-clause-early : goal.returns-clause-early
returns-clause-early g c = λ e refusal. led_never_refused
    (installed_app (generation_of c.args.cell) c.args.now (deployment_data c.in-Ok.version.deployment))
    (installing c.args.now c.args.manifest.now (root_app (root.Absent c.args.cell) [])) e
    (installs c.args.now (generation_of c.args.cell) c.args.manifest.now (root_app (root.Absent c.args.cell) []) refl
    (deployment_data c.in-Ok.version.deployment) (subst
    (λ (r : Result VersionText PerError). TellsRow (deployment_of c.args.manifest.now) r) c.in-Ok.is
    c.in_ok-version.ensures.told) (omega arith)) refusal

pub returns-clause-device_only : goal.returns-clause-device_only
returns-clause-device_only g c = λ _. led_is_ok (installed_app (generation_of c.args.cell) c.args.now
    (deployment_data c.in-Ok.version.deployment)) (installing c.args.now c.args.manifest.now
    (root_app (root.Absent c.args.cell) [])) (installs c.args.now (generation_of c.args.cell) c.args.manifest.now
    (root_app (root.Absent c.args.cell) []) refl (deployment_data c.in-Ok.version.deployment)
    (subst (λ (r : Result VersionText PerError). TellsRow (deployment_of c.args.manifest.now) r) c.in-Ok.is
    c.in_ok-version.ensures.told) (omega arith))

pub returns-clause-any_moment : goal.returns-clause-any_moment
returns-clause-any_moment g c = λ tells. subst (λ (b : App).
    StandsThroughout c.args.app b (g.D.Disk.medium c.args.disk.now) (g.D.Disk.medium c.install_version.new.disk))
    (led_after (app_at (g.D.Disk.medium c.args.disk.now).image c.args.app)
    (installed_app (generation_of c.args.cell) c.args.now (deployment_data c.in-Ok.version.deployment))
    (installing c.args.now c.args.manifest.now (app_at (g.D.Disk.medium c.args.disk.now).image c.args.app))
    (installs c.args.now (generation_of c.args.cell) c.args.manifest.now
    (app_at (g.D.Disk.medium c.args.disk.now).image c.args.app)
    (says_absent c.one_root.ensures.again c.roots_say.ensures.alone (g.D.Disk.medium c.args.disk.now).image
    c.args.app c.args.cell c.requires.root.memory (c.requires.root.disk tells))
    (deployment_data c.in-Ok.version.deployment) (subst
    (λ (r : Result VersionText PerError). TellsRow (deployment_of c.args.manifest.now) r) c.in-Ok.is
    c.in_ok-version.ensures.told) (omega arith))) (c.install_version.ensures.any_moment tells)

pub returns-in_err-version-clause-places : goal.returns-in_err-version-clause-places
returns-in_err-version-clause-places g c = leaves_none g.D.Disk.told _ (g.D.Disk.medium c.args.disk.now)
    (g.met.D.Disk.lawful c.args.disk.now)

pub returns-in_err-version-clause-written : goal.returns-in_err-version-clause-written
returns-in_err-version-clause-written g c = none_written _ _

pub returns-in-Err-clause-places : goal.returns-in-Err-clause-places
returns-in-Err-clause-places g c = leaves_none g.D.Disk.told _ (g.D.Disk.medium c.args.disk.now)
    (g.met.D.Disk.lawful c.args.disk.now)

pub returns-in-Err-clause-written : goal.returns-in-Err-clause-written
returns-in-Err-clause-written g c = none_written _ _

pub returns-then-generation-clause-places : goal.returns-then-generation-clause-places
returns-then-generation-clause-places g c = leaves_none g.D.Disk.told _ (g.D.Disk.medium c.args.disk.now)
    (g.met.D.Disk.lawful c.args.disk.now)

pub returns-then-generation-clause-written : goal.returns-then-generation-clause-written
returns-then-generation-clause-written g c = none_written _ _

pub returns-clause-places : goal.returns-clause-places
returns-clause-places g c = said_places c.args.manifest.now c.in-Ok.version
    (subst (λ (r : Result VersionText PerError). TellsRow (deployment_of c.args.manifest.now) r) c.in-Ok.is
    c.in_ok-version.ensures.told) g.D.Disk.told c.args.app 0 (g.D.Disk.medium c.args.disk.now)
    (g.D.Disk.medium c.install_version.new.disk) c.install_version.ensures.places

pub returns-clause-written : goal.returns-clause-written
returns-clause-written g c = said_written c.args.manifest.now c.in-Ok.version
    (subst (λ (r : Result VersionText PerError). TellsRow (deployment_of c.args.manifest.now) r) c.in-Ok.is
    c.in_ok-version.ensures.told) c.args.now _ _
    (subst (λ (r : Result VersionText PerError). IfOk r (λ v. v.text ≡ c.args.manifest.now)) c.in-Ok.is
    c.in_ok-version.ensures.text) c.install_version.ensures.written

pub returns-in_err-version-clause-last : goal.returns-in_err-version-clause-last
returns-in_err-version-clause-last g c = last_none g.D.Disk.medium g.D.Disk.told c.args.app _ c.args.disk.now
    (g.met.D.Disk.lawful c.args.disk.now)

pub returns-in-Err-clause-last : goal.returns-in-Err-clause-last
returns-in-Err-clause-last g c = last_none g.D.Disk.medium g.D.Disk.told c.args.app _ c.args.disk.now
    (g.met.D.Disk.lawful c.args.disk.now)

pub returns-then-generation-clause-last : goal.returns-then-generation-clause-last
returns-then-generation-clause-last g c = last_none g.D.Disk.medium g.D.Disk.told c.args.app _ c.args.disk.now
    (g.met.D.Disk.lawful c.args.disk.now)

pub returns-clause-last : goal.returns-clause-last
returns-clause-last g c = said_last g.D.Disk.medium g.D.Disk.told c.args.app c.args.manifest.now c.in-Ok.version
    c.args.now c.args.disk.now c.install_version.new.disk
    (subst (λ (r : Result VersionText PerError). TellsRow (deployment_of c.args.manifest.now) r) c.in-Ok.is
    c.in_ok-version.ensures.told)
    (subst (λ (r : Result VersionText PerError). IfOk r (λ v. v.text ≡ c.args.manifest.now)) c.in-Ok.is
    c.in_ok-version.ensures.text) c.install_version.ensures.last
