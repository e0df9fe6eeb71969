use Rattle.std.proofs.Common.{ℕ, List, take, drop}
use Rattle.std.specs.List.{All, AllZip}
use Rattle.per_base.specs.declared.elements.Change.{Change}
use Rattle.per_base.specs.declared.elements.Entry.{Entry}
use Rattle.element_state.specs.Changes.{after_changes}
use Rattle.block_files.specs.declared.hashing.Hashed.{Hashed}
use Rattle.element_store.specs.declared.hashing.KeptStates.{KeptStates}
use Rattle.element_store.specs.Hashing.{IsHashedAs, AreOfElement}
use Rattle.element_store.proofs.hashing.kept_after.Given as goal

pub record IsKeptSoFar (changes : List Change) (before : List KeptStates) (at : ℕ) (rest : List Hashed)
    (now : List KeptStates) : Type 0 where
  pub hashed : AllZip IsHashedAs (drop at changes) rest
  pub kept : (generation : ℕ) (entries : List Entry) → All (AreOfElement entries) before
      → All (AreOfElement (after_changes generation entries (take at changes))) now

abbrev pub invariant-loop-one : goal.invariant-loop-one
invariant-loop-one l = IsKeptSoFar l.changes l.fn.kept.items l.at l.one-iterator.rest.items l.kept.items
