use Rattle.std.proofs.Common.{◌≡◌, ◌++◌, ap, sym, subst, ◌∙◌, [], append-nil, map}
use Rattle.std.specs.List.{cons_option}
use Rattle.deployment_model.specs.Data.{element_data, storage_data}
use Rattle.migrate_fns.specs.Stored.{answers_of, rules_of}
use Rattle.update_plan.specs.Items.{item_of, items_by}
use Rattle.update_plan.specs.Merging.{merged}
use Rattle.update_plan.proofs.Updating.{Renewing, begun, ended, next}
use Rattle.update_plan.proofs.renewing.Update.updated.Goals.{in-Some-2+in-Ok, in_default-2}
use Rattle.update_plan.proofs.renewing.Update.updated.Goals as goal

pub loop-first-init : goal.loop-first-init
loop-first-init g c =
    let self = c.args.self.now in
    let s = storage_data self.storage.now in
    let es = c.args.stored.now in
    let b = begun (rules_of self.migrations.now) (answers_of self.migrations.now) self.moment s es
    c.requires.stored.each c.requires.storage.each in
    let one = subst (λ xs. Renewing (rules_of self.migrations.now) (answers_of self.migrations.now) self.moment s
    (merged es s.elements) (merged es (map element_data xs)) []) (sym c.as_slice-elements.ensures) b in
    subst (λ xs. Renewing (rules_of self.migrations.now) (answers_of self.migrations.now) self.moment s
    (merged es s.elements) (merged es (map element_data c.as_slice-elements.result.now)) xs)
    (sym c.new-contents.ensures.items) one

pub loop-first-preserved : goal.loop-first-preserved
loop-first-preserved g c =
    let self = c.args.self.now in
    let s = storage_data self.storage.now in
    let es = c.args.stored.now in
    let more : c.match-branch-2.contents.items ≡ c.loop-first.contents.items ++ cons_option c.in_ok-fresh.field-0 [] =
    elim c.match-branch-2.branch [
      | in-Some-2+in-Ok w ↦ ap (λ v. v.items) w.contents-is ∙ w.in-Ok.ensures.items
          ∙ sym (ap (λ o. c.loop-first.contents.items ++ cons_option o []) w.in-Some-2.is)
      | in_default-2 w ↦ ap (λ v. v.items) w.contents-is ∙ sym (append-nil c.loop-first.contents.items)
          ∙ sym (ap (λ o. c.loop-first.contents.items ++ cons_option o []) w.in_default-2.is)
    ] in
    next (rules_of self.migrations.now) (answers_of self.migrations.now) self.moment s (merged es s.elements)
    (merged c.loop-first.entries.now (map element_data c.loop-first.elements.now))
    (merged c.in-Some.first.stored.now (map element_data c.in-Some.first.configured.now)) (item_of c.in-Some.first.item)
    c.in_ok-fresh.field-0 c.loop-first.contents.items c.match-branch-2.contents.items
    c.loop-first.invariant c.in-Some.ensures.merged c.in_ok-fresh.ensures.renewed c.in_ok-fresh.ensures.made more

pub returns : goal.returns
returns g c =
    let self = c.args.self.now in
    let s = storage_data self.storage.now in
    let es = c.args.stored.now in
    ended (rules_of self.migrations.now) (answers_of self.migrations.now) self.moment s (merged es s.elements)
    (merged c.loop-first.entries.now (map element_data c.loop-first.elements.now)) c.loop-first.contents.items
    c.loop-first.invariant (c.first_item.ensures.merged ∙ ap items_by c.in_default.is)
