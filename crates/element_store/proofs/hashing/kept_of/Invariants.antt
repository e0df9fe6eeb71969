use Rattle.std.proofs.Common.{ℕ, List, drop, Vec, Global}
use Rattle.std.specs.List.{All, AllZip}
use Rattle.sha2.specs.declared.Sha256.{Sha256}
use Rattle.per_base.specs.declared.elements.Entry.{Entry}
use Rattle.element_state.specs.Surveys.{AreOfEntry}
use Rattle.element_store.specs.declared.hashing.KeptStates.{KeptStates}
use Rattle.element_store.specs.Hashing.{AreOfElement}
use Rattle.element_store.proofs.hashing.kept_of.Given as goal

pub record IsReadSoFar (entries : List Entry) (at : ℕ) (rest : List (Vec Sha256 Global)) (now : List KeptStates)
    : Type 0 where
  pub states : AllZip AreOfEntry (drop at entries) rest
  pub kept : All (AreOfElement entries) now

abbrev pub invariant-loop-one : goal.invariant-loop-one
invariant-loop-one l = IsReadSoFar l.entries l.at l.one-iterator.rest.items l.kept.items
