use denote.Ref.{Bor}
use Rattle.std.proofs.Common.{◌≡◌, List, [], IsTrue, refl, ap, ◌∙◌}
use Rattle.std.specs.Prelude.{option_map}
use Rattle.per_base.specs.declared.names.Name.{Name}
use Rattle.element_state.specs.States.{State}
use Rattle.migrate_fns.specs.Stored.{answers_of, rules_of}
use Rattle.deploy_laws.specs.Apps.{app_at}
use Rattle.deploy_rows.specs.Rows.{offered}
use Rattle.per_base.specs.declared.errors.PerError.TheVariants as error
use Rattle.per_base.specs.declared.errors.Unit.TheVariants as unit
use Rattle.deploy.specs.declared.roots.Root.{Root}
use Rattle.deploy.specs.Roots.{root_app}
use Rattle.deploy.proofs.ReadsAlone.{begins_not, offered_absent, offered_bad, stands_unread}
use Rattle.deploy.proofs.updating.begin_update.Goals as goal

pub returns-in-Bad-clause-begins : goal.returns-in-Bad-clause-begins
returns-in-Bad-clause-begins g c = begins_not (rules_of c.args.migrations.now) (answers_of c.args.migrations.now)
    c.args.now
    (option_map (λ (n : Bor Name). n.now) c.args.busy) c.args.manifest.now c.args.root
    (λ (states : List State). IsTrue g.D.Disk.told → (app_at (g.D.Disk.medium c.args.disk.now).image c.args.app).states
    ≡ states)
    (error.IntegrityCorrupted unit.Root)
    (ap (λ (r : Root). offered (option_map (λ (n : Bor Name). n.now) c.args.busy) c.args.manifest.now (root_app r []))
    c.in-Bad.is ∙ offered_bad (option_map (λ (n : Bor Name). n.now) c.args.busy) c.args.manifest.now)
    (app_at (g.D.Disk.medium c.args.disk.now).image c.args.app).states (λ _. refl)

pub returns-in-Bad-clause-any_moment : goal.returns-in-Bad-clause-any_moment
returns-in-Bad-clause-any_moment g c = λ tells. stands_unread c.untouched_stands.ensures.untouched g.D.Disk.told
    c.args.app (g.D.Disk.medium c.args.disk.now) (g.met.D.Disk.lawful c.args.disk.now) c.requires.app

pub returns-in-Absent-clause-begins : goal.returns-in-Absent-clause-begins
returns-in-Absent-clause-begins g c = begins_not (rules_of c.args.migrations.now) (answers_of c.args.migrations.now)
    c.args.now
    (option_map (λ (n : Bor Name). n.now) c.args.busy) c.args.manifest.now c.args.root
    (λ (states : List State). IsTrue g.D.Disk.told → (app_at (g.D.Disk.medium c.args.disk.now).image c.args.app).states
    ≡ states)
    error.NotInstalled
    (ap (λ (r : Root). offered (option_map (λ (n : Bor Name). n.now) c.args.busy) c.args.manifest.now (root_app r []))
    c.in-Absent.is ∙ offered_absent (option_map (λ (n : Bor Name). n.now) c.args.busy) c.args.manifest.now
    c.in-Absent.cell)
    (app_at (g.D.Disk.medium c.args.disk.now).image c.args.app).states (λ _. refl)

pub returns-in-Absent-clause-any_moment : goal.returns-in-Absent-clause-any_moment
returns-in-Absent-clause-any_moment g c = λ tells. stands_unread c.untouched_stands.ensures.untouched g.D.Disk.told
    c.args.app (g.D.Disk.medium c.args.disk.now) (g.met.D.Disk.lawful c.args.disk.now) c.requires.app
