-- What a command makes of one storage comes later: under the same root as many storages.
use Rattle.std.specs.Prelude.{◌≡◌, ℕ, zero, suc, List, [], ◌∷◌, length, slice_set}
use Rattle.std.proofs.Common.{refl, ap}
use Rattle.element_state.specs.States.{State}
use Rattle.deploy_laws.specs.Apps.{App}
use Rattle.deploy_laws.specs.Stands.{IsLater, same_root}
use Rattle.run_model.specs.Found.{FoundStorage, with_storage_state}

pub set_length : {A : Type 0} → (xs : List A) (n : ℕ) (x : A) → length (slice_set xs n x) ≡ length xs
set_length [] n x = refl
set_length (y ∷ ys) zero x = refl
set_length (y ∷ ys) (suc n) x = ap suc (set_length ys n x)

pub later_state : (a : App) (f : FoundStorage) (state : State) → IsLater a (with_storage_state a f state)
later_state a f state = same_root refl (set_length a.states f.number state)
