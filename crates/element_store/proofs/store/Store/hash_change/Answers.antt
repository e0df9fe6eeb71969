use Rattle.std.proofs.Common.{ℕ, List, sym, ap, subst, ◌∙◌}
use Rattle.sha2.specs.Sha256.{sha256}
use Rattle.per_base.specs.declared.elements.Change.{Change}
use Rattle.block_files.specs.States.{AreStatesOf}
use Rattle.element_store.specs.Hashing.{IsHashedAs}
use Rattle.element_store.proofs.store.Store.hash_change.Goals as goal

pub returns-in-Put : goal.returns-in-Put
returns-in-Put c = subst (λ (change : Change). IsHashedAs change c.hash_beside.result) (sym c.in-Put.is) (
  c.hash_beside.ensures.hash ∙ ap sha256 c.as_slice.ensures,
  subst (λ (bytes : List ℕ). AreStatesOf bytes c.hash_beside.result.states.items) c.as_slice.ensures
      c.hash_beside.ensures.states,
)
