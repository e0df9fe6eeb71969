use Rattle.std.proofs.Common.{◌≡◌, ◌<◌, ◌≤◌, suc, drop, map, length, ap, sym, subst, ◌∙◌, ◌∷◌, rules, inl, inr}
use Rattle.std.proofs.lemmas.List.{length-map}
use Rattle.deployment_model.specs.Data.{element_data, storage_data}
use Rattle.index_text.specs.Contents.{AreContents}
use Rattle.update_plan.specs.Rows.{initial_contents, start_of}
use Rattle.update_plan.proofs.Starts.{filter_done, filter_next, item_at, starts_within}
use Rattle.update_plan.proofs.starting.initial_of.Goals.{in-Some+in_ok-push, in_default}
use Rattle.update_plan.proofs.starting.initial_of.Goals as goal

pub loop-element-preserved : goal.loop-element-preserved
loop-element-preserved c =
    let within : c.loop-element.element-index < length c.as_slice-element-items.result.now = search rules in
    let here = subst (λ es. drop c.loop-element.element-index (map element_data es)
    ≡ element_data c.element-item.result ∷ drop (suc c.loop-element.element-index) (map element_data es))
    c.as_slice-element-items.ensures
    (item_at element_data c.as_slice-element-items.result.now c.loop-element.element-index c.element-item.result within
    c.element-item.is) in
    let made = c.in_ok-fresh.ensures c.args.config.now.strategy in
    filter_next (start_of (storage_data c.args.config.now) c.args.cause c.args.now)
    (map element_data c.args.config.now.elements) c.loop-element.element-index (element_data c.element-item.result)
    c.loop-element.contents.items c.match-branch-2.contents.items
    (initial_contents (storage_data c.args.config.now) c.args.cause c.args.now) here
    (elim c.match-branch-2.branch [
      | in-Some+in_ok-push w ↦ inl (
        w.in-Some.fresh,
        sym made ∙ w.in-Some.is,
        ap (λ v. v.items) w.contents-is ∙ w.in_ok-push.ensures.items,
      )
      | in_default w ↦ inr (sym made ∙ w.in_default.is, ap (λ v. v.items) w.contents-is)
    ])
    c.loop-element.invariant

pub returns-clause-limits : goal.returns-clause-limits
returns-clause-limits c =
    let past : length c.as_slice-element-items.result.now ≤ c.loop-element.element-index = search rules in
    let whole : length (map element_data c.args.config.now.elements) ≤ c.loop-element.element-index =
    rw length-map (subst (λ es. length es ≤ c.loop-element.element-index) c.as_slice-element-items.ensures past) in
    let made = filter_done (start_of (storage_data c.args.config.now) c.args.cause c.args.now)
    (map element_data c.args.config.now.elements) c.loop-element.element-index
    c.loop-element.contents.items (initial_contents (storage_data c.args.config.now) c.args.cause c.args.now) whole
    c.loop-element.invariant in
    subst (λ es. AreContents c.args.config.now.kind c.args.config.now.maximum es) (sym made)
    (starts_within (storage_data c.args.config.now) c.args.cause c.args.now c.requires)
