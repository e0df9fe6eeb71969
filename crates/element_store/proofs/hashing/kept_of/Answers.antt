use Rattle.std.proofs.Common.{◌≡◌, ◌+◌, ℕ, suc, List, drop, get_or, Vec, Global, sym, subst, arith}
use Rattle.std.specs.List.{AllZip}
use Rattle.std.proofs.lemmas.List.{get_or_default}
use Rattle.sha2.specs.declared.Sha256.{Sha256}
use Rattle.element_state.specs.Surveys.{AreOfEntry}
use Rattle.element_store.proofs.Keeping.{none_kept_of, zip_from}
use Rattle.element_store.proofs.ReadStates.{kept_read}
use Rattle.element_store.proofs.hashing.kept_of.Goals as goal

pub bounds-entries-at : goal.bounds-entries-at
bounds-entries-at c = (zip_from AreOfEntry c.args.entries.now c.loop-one.at c.in-Some.one c.next.new.self.rest.items
    (subst (λ (xs : List (Vec Sha256 Global)). AllZip AreOfEntry (drop c.loop-one.at c.args.entries.now) xs)
    c.in-Some.ensures.steps.0 c.loop-one.invariant.states)).0

pub loop-one-init : goal.loop-one-init
loop-one-init c = record {
  states = subst (λ (xs : List (Vec Sha256 Global)). AllZip AreOfEntry c.args.entries.now xs)
      (sym c.into_iter-one-iterator.ensures.into_iter_gives.0) c.requires.states;
  kept = none_kept_of c.args.entries.now c.new-kept.result c.new-kept.ensures.items;
}

pub loop-one-preserved : goal.loop-one-preserved
loop-one-preserved c =
    let at = c.loop-one.at in
    let entries = c.args.entries.now in
    let parts = zip_from AreOfEntry entries at c.in-Some.one c.next.new.self.rest.items
    (subst (λ (xs : List (Vec Sha256 Global)). AllZip AreOfEntry (drop at entries) xs) c.in-Some.ensures.steps.0
    c.loop-one.invariant.states) in
    let next : suc at ≡ at + 1 = omega arith in
    let x = c.index-entries-at.result in
    record {
      states = subst (λ (n : ℕ). AllZip AreOfEntry (drop n entries) c.next.new.self.rest.items) next parts.2;
      kept = c.remember.ensures entries c.loop-one.invariant.kept (kept_read entries at (get_or entries at x)
          c.in-Some.one c.requires.ascend parts.0 (get_or_default entries at x (get_or entries at x) parts.0)
          (parts.1 x));
    }
