use denote.Ref.{Bor}
use Rattle.std.proofs.Common.{◌∙◌, ◌≡◌, List, [], IsTrue, refl, subst}
use Rattle.std.specs.Prelude.{IfOk, Result, Ok, option_map}
use Rattle.per_base.specs.declared.errors.PerError.{PerError}
use Rattle.per_base.specs.declared.names.Name.{Name}
use Rattle.element_state.specs.States.{State}
use Rattle.migrate_fns.specs.Stored.{answers_of, rules_of}
use Rattle.deploy_laws.specs.Apps.{app_at}
use Rattle.deploy_rows.specs.Rows.{offered}
use Rattle.root_text.specs.declared.versions.VersionText.{VersionText}
use Rattle.deploy.specs.declared.roots.Root.TheVariants as root
use Rattle.deploy.specs.Beginning.{IsOffered, offer_of}
use Rattle.deploy.specs.Roots.{root_app}
use Rattle.deploy.proofs.ReadsAlone.{begins_not, begins_over, stands_reading, stands_unread}
use Rattle.deploy.proofs.updating.begin_over.Goals as goal

pub returns-in_err-version-clause-any_moment : goal.returns-in_err-version-clause-any_moment
returns-in_err-version-clause-any_moment g c = λ tells.
    stands_unread c.untouched_stands.ensures.untouched g.D.Disk.told c.args.app (g.D.Disk.medium c.args.disk.now)
    (g.met.D.Disk.lawful c.args.disk.now) c.requires.app

pub returns-in-Ok-clause-begins : goal.returns-in-Ok-clause-begins
returns-in-Ok-clause-begins g c = begins_over (rules_of c.args.migrations.now) (answers_of c.args.migrations.now)
    c.args.now
    (option_map (λ (n : Bor Name). n.now) c.args.busy) c.args.manifest.now (root.Installed c.args.root)
    (λ (states : List State). IsTrue g.D.Disk.told → (app_at (g.D.Disk.medium c.args.disk.now).image c.args.app).states
    ≡ states)
    (Ok (offer_of c.args.root c.in-Ok.version))
    (subst (λ (r : Result VersionText PerError). IsOffered
    (offered (option_map (λ (n : Bor Name). n.now) c.args.busy) c.args.manifest.now
    (root_app (root.Installed c.args.root) [])) c.args.root r) c.in-Ok.is c.in_ok-version.ensures.offered)
    c.begin_with.result c.begin_with.ensures.begins

pub returns-in-Ok-clause-any_moment : goal.returns-in-Ok-clause-any_moment
returns-in-Ok-clause-any_moment g c = λ tells. stands_reading c.untouched_stands.ensures.untouched c.args.app
    (g.D.Disk.medium c.args.disk.now) (g.D.Disk.medium c.begin_with.new.disk) c.requires.app c.begin_with.ensures.idle

pub returns-in-Err-clause-begins : goal.returns-in-Err-clause-begins
returns-in-Err-clause-begins g c = begins_not (rules_of c.args.migrations.now) (answers_of c.args.migrations.now)
    c.args.now
    (option_map (λ (n : Bor Name). n.now) c.args.busy) c.args.manifest.now (root.Installed c.args.root)
    (λ (states : List State). IsTrue g.D.Disk.told → (app_at (g.D.Disk.medium c.args.disk.now).image c.args.app).states
    ≡ states)
    c.in-Err.refused
    (subst (λ (r : Result VersionText PerError). IsOffered
    (offered (option_map (λ (n : Bor Name). n.now) c.args.busy) c.args.manifest.now
    (root_app (root.Installed c.args.root) [])) c.args.root r) c.in-Err.is c.in_ok-version.ensures.offered)
    (app_at (g.D.Disk.medium c.args.disk.now).image c.args.app).states (λ _. refl)

pub returns-in-Err-clause-any_moment : goal.returns-in-Err-clause-any_moment
returns-in-Err-clause-any_moment g c = λ tells. stands_unread c.untouched_stands.ensures.untouched g.D.Disk.told
    c.args.app (g.D.Disk.medium c.args.disk.now) (g.met.D.Disk.lawful c.args.disk.now) c.requires.app

pub returns-in-Ok-clause-text : goal.returns-in-Ok-clause-text
returns-in-Ok-clause-text g c = λ s is. c.begin_with.ensures.text s is
    ∙ subst (λ (r : Result VersionText PerError). IfOk r (λ v. v.text ≡ c.args.manifest.now)) c.in-Ok.is
    c.in_ok-version.ensures.text
