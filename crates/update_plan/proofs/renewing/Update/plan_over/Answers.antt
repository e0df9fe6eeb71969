use Rattle.std.proofs.lemmas.Result.{err_from_is_err_and}
use Rattle.deployment_model.specs.Data.{storage_data}
use Rattle.migrate_fns.specs.Stored.{answers_of, rules_of}
use Rattle.update_plan.specs.Merging.{merged}
use Rattle.update_plan.proofs.Updating.{all_made, all_small, fits_if, plans_over, refused_over}
use Rattle.update_plan.specs.Views.{viewed_items}
use Rattle.update_plan.proofs.renewing.Update.plan_over.Goals as goal

pub within_limits-requires : goal.within_limits-requires
within_limits-requires g c =
    let self = c.args.self.now in
    let s = storage_data self.storage.now in
    all_small s.kind c.in_ok-contents.contents.items (all_made (rules_of self.migrations.now)
    (answers_of self.migrations.now) self.moment s (merged c.args.stored.now s.elements)
    c.in_ok-contents.contents.items c.in_ok-contents.ensures.1)

pub returns-in_err-contents-clause-plan : goal.returns-in_err-contents-clause-plan
returns-in_err-contents-clause-plan g c =
    let self = c.args.self.now in
    let s = storage_data self.storage.now in
    let p = err_from_is_err_and c.from_residual.result c.from_residual.ensures.1 in
    rw (p.1, p.2) (refused_over (rules_of self.migrations.now) (answers_of self.migrations.now) self.moment s
    c.args.stored.now c.in_err-contents.field-0.0 c.requires.storage c.requires.stored c.in_err-contents.ensures)

pub returns-clause-plan : goal.returns-clause-plan
returns-clause-plan g c =
    let self = c.args.self.now in
    let s = storage_data self.storage.now in
    plans_over (rules_of self.migrations.now) (answers_of self.migrations.now) self.moment s c.args.stored.now
    c.in_ok-contents.contents.items (viewed_items (λ x. x.items) c.within_limits.result) c.requires.storage
    c.requires.stored c.in_ok-contents.ensures c.within_limits.ensures

pub returns-clause-fits : goal.returns-clause-fits
returns-clause-fits g c =
    let self = c.args.self.now in
    let s = storage_data self.storage.now in
    fits_if (rules_of self.migrations.now) (answers_of self.migrations.now) self.moment s (λ x. x.items)
    c.args.stored.now c.in_ok-contents.contents.items c.within_limits.result c.requires.storage c.requires.stored
    c.in_ok-contents.ensures c.within_limits.ensures
