use Rattle.std.proofs.Common.{List, sym, subst}
use Rattle.std.specs.List.{All}
use Rattle.sha2.specs.declared.Sha256.{Sha256}
use Rattle.per_base.specs.declared.elements.Change.{Change}
use Rattle.per_base.specs.declared.elements.Change.TheVariants.{Put}
use Rattle.element_state.specs.Changes.{without_item, entry_name, after_change}
use Rattle.element_store.specs.declared.hashing.KeptStates.{KeptStates}
use Rattle.block_files.specs.States.{AreStatesOf}
use Rattle.element_store.specs.Hashing.{IsHashedAs, AreOfElement}
use Rattle.element_store.proofs.Keeping.{kept_put, forgotten_put, forgotten_remove, touched_kept}
use Rattle.element_store.proofs.hashing.keep.Goals as goal

pub returns-in-Put : goal.returns-in-Put
returns-in-Put c = λ generation entries all. (
    let f = c.in-Put.fresh in
    let may = subst (λ (change : Change). IsHashedAs change c.args.hashed) c.in-Put.is c.requires in
    let P : KeptStates → Type 0 = λ k. AreOfElement (after_change generation entries (Put f)) k in
    let left = subst (λ (ks : List KeptStates). All P ks) (sym c.forget.ensures)
    (forgotten_put generation entries f c.args.kept.now.items all) in
    subst (λ (change : Change). All (λ k. AreOfElement (after_change generation entries change) k)
    c.remember.new.kept.items) (sym c.in-Put.is)
    (c.remember.ensures (after_change generation entries (Put f)) left
    (λ k named states. kept_put generation entries f k named
    (subst (λ (ss : List Sha256). AreStatesOf f.bytes ss) (sym states) may.1))))

pub returns-in-Remove : goal.returns-in-Remove
returns-in-Remove c = λ generation entries all. (
    subst (λ (change : Change). All (λ k. AreOfElement (after_change generation entries change) k)
    c.forget-in-Remove.new.kept.items) (sym c.in-Remove.is)
    (subst (λ (ks : List KeptStates). All (AreOfElement (without_item entry_name c.in-Remove.name entries)) ks)
    (sym c.forget-in-Remove.ensures)
    (forgotten_remove c.in-Remove.name entries c.args.kept.now.items all)))

pub returns-in-Touch : goal.returns-in-Touch
returns-in-Touch c = λ generation entries all. (
    subst (λ (change : Change). All (λ k. AreOfElement (after_change generation entries change) k)
    c.args.kept.now.items) (sym c.in-Touch.is)
    (touched_kept generation c.in-Touch.field-0 c.in-Touch.field-1 entries c.args.kept.now.items all))
