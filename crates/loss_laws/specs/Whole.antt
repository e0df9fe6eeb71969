-- A storage and a root of which nothing lacks: every copy holds them, and nothing else is held in their place.
use Rattle.std.specs.Prelude.{◌≡◌, ℕ, List, [], Bool, true}
use Rattle.disk_model.specs.Image.{Image}
use Rattle.element_state.specs.declared.shapes.Shape.{Shape}
use Rattle.element_state.specs.declared.shapes.View.{View}
use Rattle.element_state.specs.Reports.{reports}
use Rattle.element_state.specs.States.{Opens, store_at}
use Rattle.deploy_laws.specs.Apps.{app_at, nothing, root_sole, says_at}

-- a storage opens at this view, no other text is held that could be its own, and its opening has nothing to report, by
-- some test of contents: each element is good, and no copy lacks one or the storage
pub record IsWholeStorage (image : Image) (shape : Shape) (view : View) : Type 0 where
  pub opens : store_at image shape ≡ Opens view []
  pub test : List ℕ → Bool
  pub silent : reports test shape view ≡ []

-- a root says something, no copy lacks it, and no other text is held in its place
pub record IsWholeRoot (image : Image) (app : ℕ) : Type 0 where
  pub says : ¬ (says_at image app ≡ nothing)
  pub lacking : (app_at image app).lacking ≡ []
  pub sole : root_sole image app ≡ true
