use Rattle.std.proofs.Common.{◌≡◌, ◌+◌, ◌≤◌, ◌++◌, ◌∷◌, [], suc, drop, length, map, Ok, Err, ap, sym, subst, ◌∙◌, arith}
use Rattle.std.proofs.lemmas.List.{drop_all, length-map}
use Rattle.std.proofs.lemmas.Result.{err_from_is_err_and}
use Rattle.deployment_model.specs.Conditions.{IsStorage}
use Rattle.deployment_model.specs.Data.{deployment_data, storage_data}
use Rattle.migrate_fns.specs.Stored.{answers_of, rules_of}
use Rattle.update_plan.specs.Plans.{ArePresent, PlansFor, UnlessOutOfMemory, stored_for}
use Rattle.update_plan.proofs.Starts.{item_at}
use Rattle.update_plan.proofs.AllPlans.{Planning, all_here, ended_fit, ended_plans, next, stopped, stored_of_kind}
use Rattle.update_plan.proofs.planning.plan.Goals as goal

pub plan-requires-clause-storage : goal.plan-requires-clause-storage
plan-requires-clause-storage g c =
    let i = c.loop-storage.storage-index in
    let all = map storage_data c.args.new.now.storages in
    let s = storage_data c.storage-item.result in
    let here = subst (λ ss. drop i (map storage_data ss) ≡ s ∷ drop (suc i) (map storage_data ss))
    c.as_slice-storage-items.ensures
    (item_at storage_data c.as_slice-storage-items.result.now i c.storage-item.result c.loop-storage-test.true
    c.storage-item.is) in
    all_here IsStorage all i s (drop (suc i) all) c.requires.new.each here

pub plan-requires-clause-stored : goal.plan-requires-clause-stored
plan-requires-clause-stored g c =
    let s = storage_data c.storage-item.result in
    let at = c.stored_for.ensures ∙ ap (λ xs. stored_for (deployment_data c.args.old.now) xs s) c.as_slice.ensures in
    subst (ArePresent c.storage-item.result.kind) (sym at)
    (stored_of_kind (deployment_data c.args.old.now) c.args.contents.now s c.requires.contents)

pub returns-in_err-plan-clause-plan : goal.returns-in_err-plan-clause-plan
returns-in_err-plan-clause-plan g c =
    let i = c.loop-storage.storage-index in
    let all = map storage_data c.args.new.now.storages in
    let s = storage_data c.storage-item.result in
    let here = subst (λ ss. drop i (map storage_data ss) ≡ s ∷ drop (suc i) (map storage_data ss))
    c.as_slice-storage-items.ensures
    (item_at storage_data c.as_slice-storage-items.result.now i c.storage-item.result c.loop-storage-test.true
    c.storage-item.is) in
    let at = c.stored_for.ensures ∙ ap (λ xs. stored_for (deployment_data c.args.old.now) xs s) c.as_slice.ensures in
    let refused = subst (λ t. UnlessOutOfMemory (Err c.in_err-plan.field-0.0)
    (PlansFor (rules_of c.args.migrations.now) (answers_of c.args.migrations.now) c.args.now s t)) at
    c.in_err-plan.ensures.plan in
    let p = err_from_is_err_and c.from_residual.result c.from_residual.ensures.1 in
    rw (p.1, p.2) (stopped (rules_of c.args.migrations.now) (answers_of c.args.migrations.now) c.args.now
    (stored_for (deployment_data c.args.old.now) c.args.contents.now)
    all (drop i all) s (drop (suc i) all) c.in_err-plan.field-0.0 c.loop-storage.plans.items c.loop-storage.invariant
    here refused)

pub loop-storage-preserved : goal.loop-storage-preserved
loop-storage-preserved g c =
    let i = c.loop-storage.storage-index in
    let all = map storage_data c.args.new.now.storages in
    let s = storage_data c.storage-item.result in
    let here = subst (λ ss. drop i (map storage_data ss) ≡ s ∷ drop (suc i) (map storage_data ss))
    c.as_slice-storage-items.ensures
    (item_at storage_data c.as_slice-storage-items.result.now i c.storage-item.result c.loop-storage-test.true
    c.storage-item.is) in
    let at = c.stored_for.ensures ∙ ap (λ xs. stored_for (deployment_data c.args.old.now) xs s) c.as_slice.ensures in
    let made = subst (λ t. PlansFor (rules_of c.args.migrations.now) (answers_of c.args.migrations.now) c.args.now s t
    (Ok c.in_ok-plan.plan.items)) at c.in_ok-plan.ensures.plan in
    let more : c.push.new.self.items ≡ c.loop-storage.plans.items ++ c.in_ok-plan.plan.items ∷ [] =
    c.in-Ok.ensures.items ∙ ap (λ v. c.loop-storage.plans.items ++ v ∷ []) c.new.ensures in
    let more_by_one : suc i ≡ i + 1 = omega arith in
    subst (λ j. Planning (rules_of c.args.migrations.now) (answers_of c.args.migrations.now) c.args.now
    (stored_for (deployment_data c.args.old.now) c.args.contents.now) all (drop j all) c.push.new.self.items)
    more_by_one
    (next (rules_of c.args.migrations.now) (answers_of c.args.migrations.now) c.args.now
    (stored_for (deployment_data c.args.old.now) c.args.contents.now)
    all (drop i all) s (drop (suc i) all) c.in_ok-plan.plan.items c.loop-storage.plans.items c.push.new.self.items
    c.loop-storage.invariant here made c.in_ok-plan.ensures.fits more)

pub returns-clause-plan : goal.returns-clause-plan
returns-clause-plan g c =
    let i = c.loop-storage.storage-index in
    let all = map storage_data c.args.new.now.storages in
    let past : length c.as_slice-storage-items.result.now ≤ i = c.loop-storage-test.false in
    let whole : length all ≤ i = rw length-map (subst (λ ss. length ss ≤ i) c.as_slice-storage-items.ensures past) in
    ended_plans (rules_of c.args.migrations.now) (answers_of c.args.migrations.now) c.args.now
    (stored_for (deployment_data c.args.old.now) c.args.contents.now)
    all (drop i all) c.loop-storage.plans.items c.loop-storage.invariant (drop_all i all whole)

pub returns-clause-fits : goal.returns-clause-fits
returns-clause-fits g c =
    let i = c.loop-storage.storage-index in
    let all = map storage_data c.args.new.now.storages in
    let past : length c.as_slice-storage-items.result.now ≤ i = c.loop-storage-test.false in
    let whole : length all ≤ i = rw length-map (subst (λ ss. length ss ≤ i) c.as_slice-storage-items.ensures past) in
    ended_fit (rules_of c.args.migrations.now) (answers_of c.args.migrations.now) c.args.now
    (stored_for (deployment_data c.args.old.now) c.args.contents.now)
    all (drop i all) c.loop-storage.plans.items c.loop-storage.invariant (drop_all i all whole)
