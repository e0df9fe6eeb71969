use Rattle.std.proofs.Common.{◌≡◌, ℕ, map, List, ◌++◌}
use Rattle.per_base.specs.declared.elements.Fresh.{Fresh}
use Rattle.per_base.specs.declared.elements.Entry.{Entry}
use Rattle.element_state.specs.States.{fresh_entry, fresh_map}
use Rattle.element_store.proofs.creating.fresh_entries.Given as goal

pub record IsFilled (generation : ℕ) (contents yielded rest : List Fresh) (entries : List Entry) : Type 0 where
  pub parts : yielded ++ rest ≡ contents
  pub made : entries ≡ map (fresh_entry generation) (fresh_map yielded)

abbrev pub invariant-loop-fresh : goal.invariant-loop-fresh
invariant-loop-fresh l = IsFilled l.generation l.fn.contents.items l.yielded l.fresh-iterator.rest.items l.entries.items
