use Rattle.std.proofs.Common.{◌≡◌, ◌+◌, ℕ, suc, List, [], drop, take, sym, subst, arith}
use Rattle.std.specs.List.{All, AllZip}
use Rattle.std.proofs.lemmas.List.{nil_from_length}
use Rattle.per_base.specs.declared.elements.Change.{Change}
use Rattle.per_base.specs.declared.elements.Entry.{Entry}
use Rattle.element_state.specs.Changes.{after_changes}
use Rattle.block_files.specs.declared.hashing.Hashed.{Hashed}
use Rattle.element_store.specs.declared.hashing.KeptStates.{KeptStates}
use Rattle.element_store.specs.Hashing.{IsHashedAs, AreOfElement}
use Rattle.element_store.proofs.Keeping.{zip_from, zip_done, kept_more}
use Rattle.element_store.proofs.hashing.kept_after.Goals as goal

pub bounds-changes-at : goal.bounds-changes-at
bounds-changes-at c = (zip_from IsHashedAs c.args.changes.now c.loop-one.at c.in-Some.one c.next.new.self.rest.items
    (subst (λ (xs : List Hashed). AllZip IsHashedAs (drop c.loop-one.at c.args.changes.now) xs)
    c.in-Some.ensures.steps.0 c.loop-one.invariant.hashed)).0

pub keep-requires : goal.keep-requires
keep-requires c =
    let parts = zip_from IsHashedAs c.args.changes.now c.loop-one.at c.in-Some.one c.next.new.self.rest.items
    (subst (λ (xs : List Hashed). AllZip IsHashedAs (drop c.loop-one.at c.args.changes.now) xs)
    c.in-Some.ensures.steps.0 c.loop-one.invariant.hashed) in
    subst (λ (change : Change). IsHashedAs change c.in-Some.one) (sym c.index-changes-at.is)
    (parts.1 c.index-changes-at.result)

pub loop-one-preserved : goal.loop-one-preserved
loop-one-preserved c =
    let at = c.loop-one.at in
    let changes = c.args.changes.now in
    let parts = zip_from IsHashedAs changes at c.in-Some.one c.next.new.self.rest.items
    (subst (λ (xs : List Hashed). AllZip IsHashedAs (drop at changes) xs) c.in-Some.ensures.steps.0
    c.loop-one.invariant.hashed) in
    let next : suc at ≡ at + 1 = omega arith in
    record {
      hashed = subst (λ (n : ℕ). AllZip IsHashedAs (drop n changes) c.next.new.self.rest.items) next parts.2;
      kept = kept_more changes at c.index-changes-at.result c.args.kept.items c.loop-one.kept.items
          c.keep.new.kept.items parts.0 c.index-changes-at.is c.loop-one.invariant.kept c.keep.ensures;
    }

pub returns : goal.returns
returns c = λ generation entries all. (
    let rest = c.loop-one.one-iterator.rest in
    let changes = c.args.changes.now in
    let nothing : rest.items ≡ [] = nil_from_length rest.items (omega (arith, c.in-None.ensures.steps.0, rest.ok)) in
    let done : take c.loop-one.at changes ≡ changes = zip_done IsHashedAs changes c.loop-one.at
    (subst (λ (xs : List Hashed). AllZip IsHashedAs (drop c.loop-one.at changes) xs) nothing
    c.loop-one.invariant.hashed) in
    subst (λ (cs : List Change). All (AreOfElement (after_changes generation entries cs)) c.loop-one.kept.items) done
    (c.loop-one.invariant.kept generation entries all))
