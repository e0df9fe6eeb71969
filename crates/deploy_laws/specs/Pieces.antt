-- The places of an application on an image; soundness and damage of an application, each said of the case alone.
use Rattle.std.specs.Prelude.{◌≡◌, ◌⊎◌, ◌<◌, ℕ, List, Contains}
use Rattle.disk_model.specs.declared.place.Place.{Place}
use Rattle.disk_model.specs.Image.{Image}
use Rattle.disk_model.specs.Case.{Case}
use Rattle.disk_model.specs.Damage.{DecaysFor}
use Rattle.guarded_cell.specs.Register.{Holds}
use Rattle.element_state.specs.declared.shapes.Shape.{Shape}
use Rattle.element_state.specs.Clean.{IsPiece, IsSound}
use Rattle.root_text.specs.RootText.{root_of}
use Rattle.deploy_laws.specs.Places.{root_place, copies_of_root}
use Rattle.deploy_laws.specs.Apps.{shapes_named, says_by}

-- A place of the application on this image: its root's, and those of the storages that a held text of its root names,
-- each with its own copies. Not only the text that stands counts: damage may bring up another one that is held.
pub data IsPlaceOn (app : ℕ) (image : Image) (place : Place) : Type 0 where
  of_root : place ≡ root_place app → IsPlaceOn app image place
  of_storage : (copy generation : ℕ) (text : List ℕ) (shape : Shape) → copy < copies_of_root
      → Holds image (root_place app) copy generation text
      → Contains (shapes_named app (says_by generation (root_of text))) shape → place ≡ shape.place
      → IsPlaceOn app image place

-- each place that the application has, as of the last sync or with all writes since done whole, is sound in this case
abbrev pub IsSoundApp : ℕ → Case → Type 0
IsSoundApp app c = (place : Place) → IsPlaceOn app c.base place ⊎ IsPlaceOn app c.full place → IsSound place c

-- from the old image to the new one only these files are damaged, and the damage makes nothing that passes for a piece
-- of a place of the application
abbrev pub DecaysApp : ℕ → List ℕ → Image → Image → Type 0
DecaysApp app damaged old new = (place : Place) → IsPlaceOn app old place → DecaysFor (IsPiece place) damaged old new
