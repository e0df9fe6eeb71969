use Rattle.std.proofs.Common.{◌≡◌, ℕ, List, Option, IfSome, [], ◌∷◌, ◌++◌, Some, None, sym, ap, subst, ◌∙◌}
use Rattle.std.proofs.Common.{append_assoc, append-nil, arith}
use Rattle.std.specs.List.{AllByRecursion}
use Rattle.std.proofs.lemmas.List.{nil_from_length}
use Rattle.guarded_cell.specs.declared.looking.Seen.{Seen}
use Rattle.index_text.specs.declared.entries.Index.{Index}
use Rattle.element_state.specs.Fit.{FitText, fit_among, fit_index}
use Rattle.element_state.specs.Chosen.{IsFitIndex}
use Rattle.element_state.specs.lemmas.Entrywise.{fit_more, fit_skip, all_push}
use Rattle.element_state.proofs.fitting.fit_texts.Goals as goal

pub loop-seen-init : goal.loop-seen-init
loop-seen-init c =
    let shape = c.args.shape.now in
    record {
      texts = ap (fit_among shape) (sym c.into_iter-seen-iterator.ensures.into_iter_gives.0)
          ∙ ap (λ (l : List FitText). l ++ fit_among shape c.into_iter-seen-iterator.result.rest.items)
          (sym c.new-texts.ensures.items);
      fit = subst (AllByRecursion (λ (t : FitText). IsFitIndex shape t.0.text t.1)) (sym c.new-texts.ensures.items) tt;
    }

pub loop-seen-preserved-in-Continue-branch-3 : goal.loop-seen-preserved-in-Continue-branch-3
loop-seen-preserved-in-Continue-branch-3 c =
    let shape = c.args.shape.now in
    let seen = c.in-Some.seen in
    let index = c.in-Some-2.index in
    let rest = c.next.new.self.rest.items in
    let texts = c.loop-seen.texts.items in
    let fit : fit_index shape seen.text ≡ Some index = ap (fit_index shape) (sym c.as_slice.ensures)
    ∙ sym c.in_ok-index.ensures.index ∙ c.in-Some-2.is in
    let new : FitText = (seen, index) in
    record {
      texts = c.loop-seen.invariant.texts
          ∙ ap (λ (l : List Seen). texts ++ fit_among shape l) c.in-Some.ensures.steps.0
          ∙ ap (λ (l : List FitText). texts ++ l) (fit_more shape seen index rest fit)
          ∙ sym (append_assoc texts (new ∷ []) (fit_among shape rest))
          ∙ ap (λ (l : List FitText). l ++ fit_among shape rest) (sym c.in_ok-push.ensures.items);
      fit = subst (AllByRecursion (λ (t : FitText). IsFitIndex shape t.0.text t.1)) (sym c.in_ok-push.ensures.items)
          (all_push (λ (t : FitText). IsFitIndex shape t.0.text t.1) texts new c.loop-seen.invariant.fit
          (subst (λ (text : List ℕ). IsFitIndex shape text index) c.as_slice.ensures
          (subst (λ (o : Option Index). IfSome o (λ i. IsFitIndex shape c.as_slice.result.now i)) c.in-Some-2.is
          c.in_ok-index.ensures.spelled)));
    }

pub loop-seen-preserved : goal.loop-seen-preserved
loop-seen-preserved c =
    let shape = c.args.shape.now in
    let seen = c.in-Some.seen in
    let texts = c.loop-seen.texts.items in
    let none : fit_index shape seen.text ≡ None = ap (fit_index shape) (sym c.as_slice.ensures)
    ∙ sym c.in_ok-index.ensures.index ∙ c.in_default.is in
    record {
      texts = c.loop-seen.invariant.texts
          ∙ ap (λ (l : List Seen). texts ++ fit_among shape l) c.in-Some.ensures.steps.0
          ∙ ap (λ (l : List FitText). texts ++ l) (fit_skip shape seen c.next.new.self.rest.items none);
      fit = c.loop-seen.invariant.fit;
    }

pub returns-clause-texts : goal.returns-clause-texts
returns-clause-texts c =
    let shape = c.args.shape.now in
    let rest = c.loop-seen.seen-iterator.rest in
    let texts = c.loop-seen.texts.items in
    let nothing : rest.items ≡ [] = nil_from_length rest.items (omega (arith, c.in-None.ensures.steps.0, rest.ok)) in
    sym (c.loop-seen.invariant.texts ∙ ap (λ (l : List Seen). texts ++ fit_among shape l) nothing ∙ append-nil texts)
