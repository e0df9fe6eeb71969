use Rattle.std.proofs.Common.{◌≢◌, List, [], ◌∷◌, map, sym, ap, subst, ◌∙◌, inl, arith}
use Rattle.per_base.specs.declared.elements.Change.{Change}
use Rattle.per_base.specs.Changes.{changed_name}
use Rattle.index_text.specs.declared.entries.IndexEntry.{IndexEntry}
use Rattle.element_state.specs.Changes.{after_change, without_item, entry_name, touched}
use Rattle.element_state.specs.Conditions.{IsChange}
use Rattle.element_store.specs.Changing.{named_by, entry_of_name, IsPlanned, KeepsOthers}
use Rattle.element_store.proofs.Traced.{other_without, other_touched}
use Rattle.element_store.proofs.Changed.{planned_remove, planned_touch}
use Rattle.element_store.proofs.changing.plan_change.Goals as goal

pub returns-in_ok-plan_put-in-Put-clause-planned :
    goal.returns-in_ok-plan_put-in-Put-clause-planned
returns-in_ok-plan_put-in-Put-clause-planned c = λ start elements p. (
    subst (λ (change : Change). IsPlanned c.args.standing.kind c.args.standing.index.now c.args.standing.entries.now
    start c.plan_put.new.used c.plan_put.new.plan.entries.items
    (after_change c.args.standing.generation elements change) c.plan_put.new.plan.jobs.items) (sym c.in-Put.is)
    (c.in_ok-plan_put-in-Put.ensures.planned start elements p))

pub returns-in-Remove-clause-planned : goal.returns-in-Remove-clause-planned
returns-in-Remove-clause-planned c = λ start elements p. (
    subst (λ (change : Change). IsPlanned c.args.standing.kind c.args.standing.index.now c.args.standing.entries.now
    start c.args.used.now c.take_out.new.items.items
    (after_change c.args.standing.generation elements change) c.args.plan.now.jobs.items) (sym c.in-Remove.is)
    (subst (λ (es : List IndexEntry). IsPlanned c.args.standing.kind c.args.standing.index.now
    c.args.standing.entries.now start c.args.used.now es
    (without_item entry_name c.in-Remove.name elements) c.args.plan.now.jobs.items) (sym c.take_out.ensures.items)
    (planned_remove c.args.standing.kind c.args.standing.index.now c.args.standing.entries.now start c.args.used.now
    c.args.plan.now.entries.items elements c.args.plan.now.jobs.items c.in-Remove.name p)))

pub returns-in-Touch-clause-planned : goal.returns-in-Touch-clause-planned
returns-in-Touch-clause-planned c = λ start elements p. (
    let may = subst (λ (change : Change). IsChange c.args.standing.kind c.args.standing.entries.now change)
    c.in-Touch.is c.requires.change in
    subst (λ (change : Change). IsPlanned c.args.standing.kind c.args.standing.index.now c.args.standing.entries.now
    start c.args.used.now c.touch_entry.new.entries.items
    (after_change c.args.standing.generation elements change) c.args.plan.now.jobs.items) (sym c.in-Touch.is)
    (subst (λ (es : List IndexEntry). IsPlanned c.args.standing.kind c.args.standing.index.now
    c.args.standing.entries.now start c.args.used.now es
    (map (touched c.args.standing.generation c.in-Touch.name c.in-Touch.info) elements) c.args.plan.now.jobs.items)
    (sym c.touch_entry.ensures.items)
    (planned_touch c.args.standing.kind c.args.standing.index.now c.args.standing.entries.now c.args.standing.generation
    c.in-Touch.name c.in-Touch.info start c.args.used.now c.args.plan.now.entries.items
    elements c.args.plan.now.jobs.items c.requires.standing.ascend c.requires.standing.read may.0 may.1 p)))

pub returns-in_ok-plan_put-in-Put-clause-others : goal.returns-in_ok-plan_put-in-Put-clause-others
returns-in_ok-plan_put-in-Put-clause-others c =
    subst (λ (change : Change). KeepsOthers (change ∷ []) c.args.plan.now.entries.items
    c.plan_put.new.plan.entries.items) (sym c.in-Put.is) c.in_ok-plan_put-in-Put.ensures.others

pub returns-in-Remove-clause-others : goal.returns-in-Remove-clause-others
returns-in-Remove-clause-others c = λ n apart. (
    let differ : c.in-Remove.name ≢ n = subst (λ (change : Change). changed_name change ≢ n) c.in-Remove.is
    (apart 0 c.args.change.now (omega arith)) in
    ap (λ (es : List IndexEntry). entry_of_name n es) c.take_out.ensures.items
    ∙ other_without named_by n c.in-Remove.name c.args.plan.now.entries.items differ)

pub returns-in-Remove-clause-grown : goal.returns-in-Remove-clause-grown
returns-in-Remove-clause-grown c = λ b is. inl is

pub returns-in-Touch-clause-others : goal.returns-in-Touch-clause-others
returns-in-Touch-clause-others c = λ n apart. (
    let differ : c.in-Touch.name ≢ n = subst (λ (change : Change). changed_name change ≢ n) c.in-Touch.is
    (apart 0 c.args.change.now (omega arith)) in
    ap (λ (es : List IndexEntry). entry_of_name n es) c.touch_entry.ensures.items
    ∙ other_touched c.args.standing.generation c.in-Touch.name c.in-Touch.info n c.args.plan.now.entries.items differ)

pub returns-in-Touch-clause-grown : goal.returns-in-Touch-clause-grown
returns-in-Touch-clause-grown c = λ b is. inl is
