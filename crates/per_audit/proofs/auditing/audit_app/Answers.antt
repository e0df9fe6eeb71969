use Rattle.std.proofs.Common.{ap, ◌∙◌}
use Rattle.disk_model.specs.Image.{Image}
use Rattle.deploy.specs.Views.{RootSeen, root_seen}
use Rattle.deploy_laws.specs.Apps.{app_at, root_sole}
use Rattle.per_audit.specs.Audits.{elements_of, findings_of}
use Rattle.per_audit.specs.Noted.{elements_seen, findings_seen}
use Rattle.per_audit.proofs.Applications.{app_elements, app_findings}
use Rattle.per_audit.proofs.Others.{adds_as}
use Rattle.per_audit.proofs.auditing.audit_app.Goals as goal

pub returns-clause-adds : goal.returns-clause-adds
returns-clause-adds g c = λ tells.
    let old = (g.D.Disk.medium c.args.disk.now).image in
    let mid = (g.D.Disk.medium c.view_root.new.disk).image in
    let app = c.args.app in
    let seen = root_seen c.in_ok-view.view in
    adds_as (elements_seen mid app seen) (elements_of app (app_at old app)) (findings_seen mid app seen)
    (findings_of app (root_sole old app) (app_at old app))
    c.args.notes.now c.audit_view.new.notes
    (ap (λ (im : Image). elements_seen im app seen) c.in_ok-view.ensures.image
    ∙ ap (λ (s : RootSeen). elements_seen old app s) (c.in_ok-view.ensures.view tells) ∙ app_elements old app)
    (ap (λ (im : Image). findings_seen im app seen) c.in_ok-view.ensures.image
    ∙ ap (λ (s : RootSeen). findings_seen old app s) (c.in_ok-view.ensures.view tells) ∙ app_findings old app)
    (c.in_ok-audit_view.ensures.adds tells)

pub returns-clause-quiet : goal.returns-clause-quiet
returns-clause-quiet g c = let idle = c.in_ok-audit_view.ensures.idle c.in_ok-view.ensures.quiet in idle.quiet
