-- What damage after a stop leaves of an application, with undamaged copies counted by pieces: of each element of a
-- storage by its own blocks, and of the storage's index apart. `left` is what the stop left, and `image` what the
-- damage made of it.
use Rattle.std.specs.Prelude.{◌≡◌, ◌<◌, ℕ, List, [], ◌∷◌, ⊤}
use Rattle.disk_model.specs.Image.{Image}
use Rattle.element_state.specs.declared.shapes.Shape.{Shape}
use Rattle.element_state.specs.States.{State}
use Rattle.element_laws.specs.Pieces.{StaysOnward}
use Rattle.deploy_laws.specs.Apps.{App, says_at, shapes_named}
use Rattle.deploy_laws.specs.Pieces.{DecaysApp}
use Rattle.deploy_laws.specs.Stands.{Stands}

-- each storage stays on its way between its two states; there is one before and one after for each
abbrev pub StayOnward : (left image : Image) → List Shape → (before after : List State) → Type 0
StayOnward left image [] before after = ⊤
StayOnward left image (shape ∷ shapes) [] after = ⊥
StayOnward left image (shape ∷ shapes) (state ∷ before) [] = ⊥
StayOnward left image (shape ∷ shapes) (state ∷ before) (next ∷ after) = StaysOnward shape left image state next
    × StayOnward left image shapes before after

-- each storage that the root names after the stop stays: on the way, where the root stays the same, and else as it was
-- under that root
pub record StandsOnward (app : ℕ) (left image : Image) (before after : App) : Type 0 where
  pub same : says_at left app ≡ before.says → after.says ≡ before.says
      → StayOnward left image (shapes_named app before.says) before.states after.states
  pub old : says_at left app ≡ before.says → ¬ (after.says ≡ before.says)
      → StayOnward left image (shapes_named app before.says) before.states before.states
  pub new : says_at left app ≡ after.says → ¬ (after.says ≡ before.says)
      → StayOnward left image (shapes_named app after.says) after.states after.states

-- what stands after a stop alone stands so after damage
abbrev pub OnwardAppLaw : Type 0
OnwardAppLaw = (app : ℕ) (before after : App) (damaged : List ℕ) (left image : Image) → app < 8
    → Stands app left [] before after → DecaysApp app damaged left image → StandsOnward app left image before after
