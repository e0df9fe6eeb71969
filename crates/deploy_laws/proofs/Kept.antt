-- Storages that nobody touches are kept, whatever they are to become.
use Rattle.std.proofs.Common.{◌≡◌, ℕ, List, [], ◌∷◌, length, subst, arith}
use Rattle.std.specs.Prelude.{map}
use Rattle.std.specs.List.{AllByRecursion}
use Rattle.std.proofs.lemmas.List.{length-map}
use Rattle.disk_model.specs.Image.{Image}
use Rattle.disk_model.specs.Case.{Case}
use Rattle.element_state.specs.declared.shapes.Shape.{Shape}
use Rattle.element_state.specs.States.{State, store_at}
use Rattle.element_laws.specs.Phases.{UntouchedLaw}
use Rattle.deploy_laws.specs.Apps.{AreClean}
use Rattle.deploy_laws.proofs.Files.{IsFit, AreUntouched}
use Rattle.deploy_laws.proofs.Covered.{AreCovered}
use Rattle.deploy_laws.specs.Stands.{AreKept}

-- they are kept on their way, and their places clean
pub record StayTo (image : Image) (damaged : List ℕ) (shapes : List Shape) (before after : List State) : Type 0 where
  pub kept : AreKept image damaged shapes before after
  pub clean : AreClean image shapes

module _ (untouched : UntouchedLaw) (start : Image) (c : Case) (damaged : List ℕ) (image : Image) where
  pub stay : (shapes : List Shape) (after : List State) → length after ≡ length shapes
      → AreCovered c damaged image shapes → AllByRecursion IsFit shapes → AreClean start shapes
      → AreUntouched start c shapes → StayTo image damaged shapes (map (store_at start) shapes) after
  stay [] after count covers fit clean quiet = record { kept = tt; clean = tt }
  stay (shape ∷ shapes) [] count covers fit clean quiet = absurd (omega (arith, count))
  stay (shape ∷ shapes) (state ∷ after) count covers fit clean quiet =
      let tails : length after ≡ length shapes = omega (arith, count) in
      let it = untouched shape start state c fit.0 clean.0 quiet.0 covers.sound.0.pieces damaged image
      covers.decayed.0 in
      let others = stay shapes after tails (record { sound = covers.sound.1; decayed = covers.decayed.1 }) fit.1 clean.1
      quiet.1 in
      record { kept = (it.kept, others.kept); clean = (it.clean, others.clean) }

  -- those that stay as they are, for states that are those of the image
  pub stay_as : (shapes : List Shape) (states : List State) → AreCovered c damaged image shapes
      → AllByRecursion IsFit shapes → AreClean start shapes → AreUntouched start c shapes
      → map (store_at start) shapes ≡ states → StayTo image damaged shapes states states
  stay_as shapes states covers fit clean quiet same = subst (λ (xs : List State). StayTo image damaged shapes xs xs)
      same
      (stay shapes (map (store_at start) shapes) (length-map shapes (store_at start)) covers fit clean quiet)
