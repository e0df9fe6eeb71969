-- What a stop on the way from `before` to `after`, and damage to files, may not leave of an application: on such an
-- image it does not stand.
use Rattle.std.specs.Prelude.{◌≡◌, ℕ, ◌≤◌, List, [], Option, Some, slice_get}
use Rattle.disk_model.specs.Image.{Image}
use Rattle.element_state.specs.declared.shapes.Shape.{Shape}
use Rattle.element_state.specs.declared.shapes.View.{View}
use Rattle.element_state.specs.Kept.{Kept}
use Rattle.element_state.specs.States.{State, Opens, Corrupt, store_at}
use Rattle.deploy_laws.specs.Apps.{nothing, App, says_at, shapes_named}
use Rattle.deploy_laws.specs.Stands.{Stands, HasEnoughRoot}

-- a root that two spared copies held became another one than the next
abbrev pub OtherRoot : Type 0
OtherRoot = (app : ℕ) (image : Image) (damaged : List ℕ) (before after : App) → ¬ (before.says ≡ nothing)
    → HasEnoughRoot app damaged before.lacking → ¬ (says_at image app ≡ before.says)
    → ¬ (says_at image app ≡ after.says)
    → ¬ (Stands app image damaged before after)

-- a bad root came to say what no call gave it
abbrev pub RootRaised : Type 0
RootRaised = (app : ℕ) (image : Image) (damaged : List ℕ) (before after : App) → before.says ≡ nothing
    → ¬ (says_at image app ≡ nothing)
    → ¬ (says_at image app ≡ after.says) → ¬ (Stands app image damaged before after)

-- the root is as before, and a storage of the old version that opened is corrupt, with nothing damaged
abbrev pub OldVersionLost : Type 0
OldVersionLost = (app number : ℕ) (image : Image) (before after : App) (shape : Shape) (view : View)
    (others rest : List View) (salvage : Option View)
    → slice_get (shapes_named app before.says) number ≡ Some shape
    → slice_get before.states number ≡ Some (Opens view others)
    → shape.m ≤ shape.place.copies → view.lacking ≡ [] → store_at image shape ≡ Corrupt salvage rest
    → says_at image app ≡ before.says → ¬ (after.says ≡ before.says) → ¬ (Stands app image [] before after)

-- the root says the next version, and a storage of it is not as it was made: the root came too early
abbrev pub RootTooEarly : Type 0
RootTooEarly = (app number : ℕ) (image : Image) (damaged : List ℕ) (before after : App) (shape : Shape) (state : State)
    → slice_get (shapes_named app after.says) number ≡ Some shape → slice_get after.states number ≡ Some state
    → ¬ (Kept shape damaged (store_at image shape) state state) → says_at image app ≡ after.says
    → ¬ (after.says ≡ before.says)
    → ¬ (Stands app image damaged before after)

-- while the root stays, a storage became another one than the one it was on its way to
abbrev pub StorageStrays : Type 0
StorageStrays = (app number : ℕ) (image : Image) (damaged : List ℕ) (before after : App) (shape : Shape)
    (state next : State)
    → slice_get (shapes_named app before.says) number ≡ Some shape → slice_get before.states number ≡ Some state
    → slice_get after.states number ≡ Some next
    → ¬ (Kept shape damaged (store_at image shape) state next) → says_at image app ≡ before.says
    → after.says ≡ before.says
    → ¬ (Stands app image damaged before after)
