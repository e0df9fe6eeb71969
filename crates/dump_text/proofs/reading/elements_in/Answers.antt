use Rattle.std.proofs.Common.{◌≡◌, ℕ, List, ◌∷◌, sym, ap, ◌∙◌, subst}
use Rattle.per_base.specs.declared.elements.Fresh.{Fresh}
use Rattle.serde_json.specs.View.{members_view, view}
use Rattle.serde_json.proofs.Views.{Entry}
use Rattle.dump_text.specs.Elements.{dumped_element_in, read_members}
use Rattle.dump_text.specs.Views.{FailsToRead}
use Rattle.dump_text.proofs.Containers.{after, after_all, after_fails, after_more}
use Rattle.dump_text.proofs.reading.elements_in.Goals as goal

pub loop-name-preserved : goal.loop-name-preserved
loop-name-preserved c =
    let one = dumped_element_in c.args.kind in
    let known = c.loop-name.contents.items in
    let e : Entry = (c.in-Some.name.now, c.in-Some.element.now) in
    let left = c.next.new.self in
    let steps : c.loop-name.name-iterator ≡ e ∷ left = c.in-Some.ensures.steps in
    let read = ap (λ (name : List ℕ). one name (view c.in-Some.element.now)) (sym c.as_str-name.ensures.value)
    ∙ c.in-Ok.ensures in
    subst (λ (fs : List Fresh). after fs (read_members one (members_view left))
    ≡ read_members one (members_view c.args.elements.now.entries)) (sym c.in_ok-push-in-Ok.ensures.items)
    (sym (after_more one known e left c.in-Ok.fresh read)
    ∙ ap (λ (es : List Entry). after known (read_members one (members_view es))) (sym steps) ∙ c.loop-name.invariant)

pub returns-in-Err : goal.returns-in-Err
returns-in-Err c =
    let one = dumped_element_in c.args.kind in
    let known = c.loop-name.contents.items in
    let e : Entry = (c.in-Some.name.now, c.in-Some.element.now) in
    let left = c.next.new.self in
    let steps : c.loop-name.name-iterator ≡ e ∷ left = c.in-Some.ensures.steps in
    after_fails one known e left c.in-Err.error c.within.result
    (read_members one (members_view c.args.elements.now.entries)) c.within.ensures
    (subst (λ (name : List ℕ). FailsToRead c.in-Err.error (one name (view c.in-Some.element.now)))
    c.as_str-name.ensures.value c.in-Err.ensures)
    (ap (λ (es : List Entry). after known (read_members one (members_view es))) (sym steps) ∙ c.loop-name.invariant)

pub returns : goal.returns
returns c =
    let one = dumped_element_in c.args.kind in
    let known = c.loop-name.contents.items in
    after_all one known (read_members one (members_view c.args.elements.now.entries))
    (ap (λ (es : List Entry). after known (read_members one (members_view es))) (sym c.in-None.ensures.steps.0)
    ∙ c.loop-name.invariant)
