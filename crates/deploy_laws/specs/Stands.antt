-- What a stop and damage may leave of an application, beside what it was before and after the call in progress.
use Rattle.std.specs.Prelude.{◌≡◌, ◌⊎◌, ℕ, ◌+◌, List, [], ◌∷◌, length, Contains, ◌<◌, ⊤}
use Rattle.disk_model.specs.Image.{Image}
use Rattle.disk_model.specs.Case.{Case}
use Rattle.disk_model.specs.Damage.{IsUndamaged, AtLeast}
use Rattle.disk_model.specs.Medium.{EachCase, IsIdle, Medium, Quiet}
use Rattle.element_state.specs.declared.shapes.Shape.{Shape}
use Rattle.element_state.specs.States.{State, store_at}
use Rattle.element_state.specs.Kept.{Kept}
use Rattle.deploy_laws.specs.Places.{root_place, copies_of_root, agreeing_of_root}
use Rattle.deploy_laws.specs.Apps.{nothing, App, says_at, app_at, shapes_named, says_generation, IsCleanRoot}
use Rattle.deploy_laws.specs.Apps.{IsCleanApp}
use Rattle.deploy_laws.specs.Apps.{AreClean}
use Rattle.deploy_laws.specs.Pieces.{IsSoundApp, DecaysApp}

-- no byte changes and none is written; and where nothing was pending, a crash meanwhile leaves what there was
pub record ChangesNothing (old new : Medium) : Type 0 where
  pub image : new.image ≡ old.image
  pub written : new.written ≡ old.written
  pub idle : Quiet old → IsIdle old new

-- of each storage the image holds what a stop between its two states, and damage to these files, may leave; there is a
-- state before and one after for each
abbrev pub AreKept : Image → (damaged : List ℕ) → List Shape → (before after : List State) → Type 0
AreKept image damaged [] before after = ⊤
AreKept image damaged (shape ∷ shapes) [] after = ⊥
AreKept image damaged (shape ∷ shapes) (state ∷ before) [] = ⊥
AreKept image damaged (shape ∷ shapes) (state ∷ before) (next ∷ after) =
    Kept shape damaged (store_at image shape) state next × AreKept image damaged shapes before after

-- the damage to these files spares this copy of the root, counted from 0, and it is none of those that lacked the root,
-- which are counted from 1
abbrev pub IsRootSpared : ℕ → (damaged lacking : List ℕ) → ℕ → Type 0
IsRootSpared app damaged lacking copy = IsUndamaged damaged (root_place app) copy
    × ¬ (Contains lacking (copy + 1))

-- at least two of the three copies of the root had it and are spared by the damage
abbrev pub HasEnoughRoot : (app : ℕ) (damaged lacking : List ℕ) → Type 0
HasEnoughRoot app damaged lacking = AtLeast (IsRootSpared app damaged lacking) copies_of_root agreeing_of_root

-- On this image is what a stop, and then damage to these files, may leave of an application that was on its way from
-- `before` to `after`.
pub record Stands (app : ℕ) (image : Image) (damaged : List ℕ) (before after : App) : Type 0 where
  -- a root that said nothing says nothing, or what it says after
  pub bad : before.says ≡ nothing → (says_at image app ≡ nothing) ⊎ (says_at image app ≡ after.says)
  -- with two copies spared it says what it said, or what it says after
  pub root : ¬ (before.says ≡ nothing) → HasEnoughRoot app damaged before.lacking
      → (says_at image app ≡ before.says) ⊎ (says_at image app ≡ after.says)
  -- each storage that it names is kept: on the way, where the root stays the same, and else as it was under that root
  pub same : says_at image app ≡ before.says → after.says ≡ before.says
      → AreKept image damaged (shapes_named app before.says) before.states after.states
  pub old : says_at image app ≡ before.says → ¬ (after.says ≡ before.says)
      → AreKept image damaged (shapes_named app before.says) before.states before.states
  pub new : says_at image app ≡ after.says → ¬ (after.says ≡ before.says)
      → AreKept image damaged (shapes_named app after.says) after.states after.states
  -- the places stay clean
  pub clean_root : IsCleanRoot app image
  pub clean : (says_at image app ≡ before.says) ⊎ (says_at image app ≡ after.says)
      → AreClean image (shapes_named app (says_at image app))

-- ---- every moment of a call

-- a crash in this case, and any damage after it, leaves the application between what it was and what it is on its way
-- to, if the case is sound
abbrev pub StandsCase : ℕ → (before after : App) → Case → Type 0
StandsCase app before after c = IsSoundApp app c → (damaged : List ℕ) (image : Image)
    → DecaysApp app damaged c.left image
    → Stands app image damaged before after

-- a crash at any moment of calls, and damage after it, leaves the application between what it was and what it is on its
-- way to, if at their start nothing was pending and its places were clean
abbrev pub StandsThroughout : ℕ → (after : App) → (old new : Medium) → Type 0
StandsThroughout app after old new = Quiet old → IsCleanApp app old.image
    → EachCase (StandsCase app (app_at old.image app) after) old new

-- ---- what may come of an application

-- `after` may come of `before`: under the same root it has as many storages, or its root has a greater generation
pub data IsLater (before after : App) : Type 0 where
  same_root : after.says ≡ before.says → length after.states ≡ length before.states → IsLater before after
  next_root : says_generation before.says < says_generation after.says → IsLater before after
