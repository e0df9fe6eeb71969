use Rattle.std.proofs.Common.{◌≡◌, ◌++◌}
use Rattle.std.specs.List.{AllByRecursion}
use Rattle.element_state.specs.Fit.{fit_among}
use Rattle.element_state.specs.Chosen.{IsFitIndex}
use Rattle.element_state.proofs.fitting.fit_texts.Given as goal

abbrev pub invariant-loop-seen : goal.invariant-loop-seen
invariant-loop-seen l = record {
  texts : fit_among l.shape l.fn.seens.items ≡ l.texts.items ++ fit_among l.shape l.seen-iterator.rest.items;
  fit : AllByRecursion (λ t. IsFitIndex l.shape t.0.text t.1) l.texts.items;
}
