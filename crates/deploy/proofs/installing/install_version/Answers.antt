use Rattle.std.proofs.Common.{◌+◌, ◌≤◌, List, [], ◌∷◌, ap, ◌∙◌, subst}
use Rattle.std.specs.Prelude.{map}
use Rattle.per_base.specs.declared.elements.Fresh.{Fresh}
use Rattle.disk_model.specs.Laws.{elapses_none}
use Rattle.guarded_cell.specs.Cells.{generation_of}
use Rattle.deployment_model.specs.Data.{deployment_data, storage_data}
use Rattle.deploy_laws.specs.Apps.{App}
use Rattle.deploy_laws.specs.Stands.{StandsThroughout}
use Rattle.deploy.specs.Clauses.{IsBesideNext}
use Rattle.deploy_rows.specs.Costs.{making_costs, root_cost}
use Rattle.deploy.specs.Making.{RootComesLast, making_from}
use Rattle.deploy.proofs.FirstVersion.{comes_later}
use Rattle.deploy.proofs.InstallRow.{filled_installs}
use Rattle.deploy.proofs.Leaves.{leaves_none}
use Rattle.deploy.proofs.RootLast.{last_none}
use Rattle.deploy.proofs.RootLens.{none_written}
use Rattle.deploy.proofs.Unmoved.{stands_still}
use Rattle.deploy.proofs.installing.install_version.Goals as goal

pub returns-in_err-contents-clause-outside : goal.returns-in_err-contents-clause-outside
returns-in_err-contents-clause-outside g c = leaves_none g.D.Disk.told (IsBesideNext c.args.app 0)
    (g.D.Disk.medium c.args.disk.now) (g.met.D.Disk.lawful c.args.disk.now)

pub returns-in_err-contents-clause-any_moment : goal.returns-in_err-contents-clause-any_moment
returns-in_err-contents-clause-any_moment g c = λ tells.
    stands_still c.untouched_stands.ensures.still g.D.Disk.told c.args.app (g.D.Disk.medium c.args.disk.now) _
    (g.met.D.Disk.lawful c.args.disk.now) c.requires.app
    (comes_later c.one_root.ensures.again c.roots_say.ensures.alone (g.D.Disk.medium c.args.disk.now).image c.args.app
    c.args.cell c.requires.root.memory (c.requires.root.disk tells) c.args.now
    (deployment_data c.args.version.deployment))

pub returns-in_err-contents-clause-time : goal.returns-in_err-contents-clause-time
returns-in_err-contents-clause-time g c = elapses_none (g.met.D.Disk.lawful c.args.disk.now)

pub returns-in_err-root-clause-any_moment : goal.returns-in_err-root-clause-any_moment
returns-in_err-root-clause-any_moment g c = λ tells. subst
    (λ (a : App). StandsThroughout c.args.app a (g.D.Disk.medium c.args.disk.now)
    (g.D.Disk.medium c.install_filled.new.disk))
    (filled_installs (generation_of c.args.cell) c.args.now (deployment_data c.args.version.deployment)
    c.deref.result.now (c.deref.ensures.value ∙ c.in_ok-contents.ensures.contents))
    (c.in_err-root.ensures.any_moment tells)

pub returns-clause-any_moment : goal.returns-clause-any_moment
returns-clause-any_moment g c = λ tells. subst
    (λ (a : App). StandsThroughout c.args.app a (g.D.Disk.medium c.args.disk.now)
    (g.D.Disk.medium c.install_filled.new.disk))
    (filled_installs (generation_of c.args.cell) c.args.now (deployment_data c.args.version.deployment)
    c.deref.result.now (c.deref.ensures.value ∙ c.in_ok-contents.ensures.contents))
    (c.in_ok-root.ensures.any_moment tells)

pub returns-clause-app : goal.returns-clause-app
returns-clause-app g c = λ tells. c.in_ok-root.ensures.app tells
    ∙ filled_installs (generation_of c.args.cell) c.args.now (deployment_data c.args.version.deployment)
    c.deref.result.now (c.deref.ensures.value ∙ c.in_ok-contents.ensures.contents)

pub returns-clause-says : goal.returns-clause-says
returns-clause-says g c = c.in_ok-root.ensures.says ∙ ap (λ (a : App). a.says)
    (filled_installs (generation_of c.args.cell) c.args.now (deployment_data c.args.version.deployment)
    c.deref.result.now (c.deref.ensures.value ∙ c.in_ok-contents.ensures.contents))

pub returns-in_err-contents-clause-places : goal.returns-in_err-contents-clause-places
returns-in_err-contents-clause-places g c = leaves_none g.D.Disk.told _ (g.D.Disk.medium c.args.disk.now)
    (g.met.D.Disk.lawful c.args.disk.now)

pub returns-in_err-contents-clause-written : goal.returns-in_err-contents-clause-written
returns-in_err-contents-clause-written g c = none_written _ _

pub returns-in_err-root-clause-written : goal.returns-in_err-root-clause-written
returns-in_err-root-clause-written g c = subst (λ (cs : List (List Fresh)).
    (g.D.Disk.medium c.install_filled.new.disk).written ≤ (g.D.Disk.medium c.args.disk.now).written
    + (making_costs (map storage_data c.args.version.deployment.storages) cs + root_cost (c.args.version.text ∷ [])))
    (c.deref.ensures.value ∙ c.in_ok-contents.ensures.contents) c.in_err-root.ensures.written

pub returns-clause-written : goal.returns-clause-written
returns-clause-written g c = subst (λ (cs : List (List Fresh)).
    (g.D.Disk.medium c.install_filled.new.disk).written ≤ (g.D.Disk.medium c.args.disk.now).written
    + (making_costs (map storage_data c.args.version.deployment.storages) cs + root_cost (c.args.version.text ∷ [])))
    (c.deref.ensures.value ∙ c.in_ok-contents.ensures.contents) c.in_ok-root.ensures.written

pub returns-in_err-contents-clause-last : goal.returns-in_err-contents-clause-last
returns-in_err-contents-clause-last g c = last_none g.D.Disk.medium g.D.Disk.told c.args.app _ c.args.disk.now
    (g.met.D.Disk.lawful c.args.disk.now)

pub returns-in_err-root-clause-last : goal.returns-in_err-root-clause-last
returns-in_err-root-clause-last g c = subst (λ (cs : List (List Fresh)).
    RootComesLast g.D.Disk.medium g.D.Disk.told c.args.app
    (making_from c.args.app 0 0 (map storage_data c.args.version.deployment.storages) cs (c.args.version.text ∷ []))
    c.args.disk.now c.install_filled.new.disk)
    (c.deref.ensures.value ∙ c.in_ok-contents.ensures.contents) c.in_err-root.ensures.last

pub returns-clause-last : goal.returns-clause-last
returns-clause-last g c = subst (λ (cs : List (List Fresh)).
    RootComesLast g.D.Disk.medium g.D.Disk.told c.args.app
    (making_from c.args.app 0 0 (map storage_data c.args.version.deployment.storages) cs (c.args.version.text ∷ []))
    c.args.disk.now c.install_filled.new.disk)
    (c.deref.ensures.value ∙ c.in_ok-contents.ensures.contents) c.in_ok-root.ensures.last
