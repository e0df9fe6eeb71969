use Rattle.std.proofs.Common.{ap, ◌∙◌}
use Rattle.deployment_model.specs.Data.{storage_data}
use Rattle.element_state.specs.declared.shapes.Shape.{Shape}
use Rattle.element_state.specs.States.{store_at}
use Rattle.deploy_laws.specs.Places.{storage_shape}
use Rattle.per_audit.specs.Audits.{listed_of, of_storage}
use Rattle.per_audit.specs.Noted.{elements_found, findings_found}
use Rattle.per_audit.proofs.Others.{adds_as, elements_stand, findings_stand}
use Rattle.per_audit.proofs.auditing.audit_storage.Goals as goal

pub returns-clause-adds : goal.returns-clause-adds
returns-clause-adds g c = λ tells.
    let app = c.args.app in
    let bank = c.args.bank in
    let s = storage_data c.args.config.now in
    let old = (g.D.Disk.medium c.args.disk.now).image in
    let shape = c.in_ok-shape.shape in
    let there = storage_shape app bank c.args.number s in
    let found = c.in_ok-found.found in
    let salvaged = c.in_ok-found.ensures.salvaged tells in
    let viewed = c.in_ok-found.ensures.viewed tells in
    adds_as (elements_found app bank s found) (listed_of app bank s (store_at old there))
    (findings_found app bank s found) (of_storage app bank s (store_at old there))
    c.args.notes.now c.note_storage.new.notes
    (elements_stand app bank s old shape found salvaged viewed
    ∙ ap (λ (x : Shape). listed_of app bank s (store_at old x)) c.in_ok-shape.ensures.shape)
    (findings_stand app bank s old shape found salvaged viewed
    ∙ ap (λ (x : Shape). of_storage app bank s (store_at old x)) c.in_ok-shape.ensures.shape)
    c.in_ok-note_storage.ensures
