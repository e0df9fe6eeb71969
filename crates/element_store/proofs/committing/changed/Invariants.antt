use Rattle.std.proofs.Common.{◌≡◌, ◌≤◌, ◌+◌, ◌++◌, List, ℕ, length}
use Rattle.std.specs.Vec.{vec_len, vec_capacity}
use Rattle.std.specs.List.{AllByRecursion}
use Rattle.per_base.specs.declared.elements.Entry.{Entry}
use Rattle.per_base.specs.declared.elements.Change.{Change}
use Rattle.per_base.specs.Names.{NamesAscend}
use Rattle.element_state.specs.Changes.{after_changes, entry_name}
use Rattle.element_store.specs.Changing.{IsSmallChange}
use Rattle.element_store.proofs.committing.changed.Given as goal

pub record IsSoFar (generation : ℕ) (before : List Entry) (changes yielded rest : List Change) (now : List Entry) : Type
    0 where
  pub parts : yielded ++ rest ≡ changes
  pub entries_are : now ≡ after_changes generation before yielded
  pub ascend : NamesAscend entry_name now
  pub small : AllByRecursion IsSmallChange rest

abbrev pub invariant-loop-change : goal.invariant-loop-change
invariant-loop-change l = IsSoFar l.generation l.fn.entries.items l.fn.changes.items l.yielded
    l.change-iterator.rest.items l.entries.items
    × (vec_len l.entries + length l.change-iterator.rest.items ≤ vec_capacity l.entries)
