-- What is read where the files of one copy were lost.
use Rattle.std.specs.Prelude.{◌≡◌, ◌+◌, ◌<◌, ◌≤◌, ℕ, List, Bool}
use Rattle.std.specs.List.{AllByRecursion, Contains}
use Rattle.per_base.specs.declared.elements.Entry.{Entry}
use Rattle.disk_model.specs.Image.{Image}
use Rattle.element_state.specs.declared.shapes.Shape.{Shape}
use Rattle.element_state.specs.declared.shapes.View.{View}
use Rattle.element_state.specs.Views.{judged_view, map_of}
use Rattle.element_state.specs.States.{State, Opens, mended_view, store_at}
use Rattle.deploy_laws.specs.Apps.{app_at, says_at, shapes_named}
use Rattle.loss_laws.specs.Whole.{IsWholeRoot, IsWholeStorage}

-- no copy lacks it but the lost one, counted from 0
abbrev pub OnlyLost : (lost : ℕ) → (lacking : List ℕ) → Type 0
OnlyLost lost lacking = (copy : ℕ) → Contains lacking (copy + 1) → copy ≡ lost

-- A storage opens under the generation and with the map of this view, which it had, also by any test of contents; no
-- copy lacks it or an element of it but the lost one, and the view after the opening, which mends that, is this one.
pub record ReadsOn (shape : Shape) (lost : ℕ) (was : View) (state : State) : Type 0 where
  pub view : View
  pub others : List View
  pub opens : state ≡ Opens view others
  pub generation : view.generation ≡ was.generation
  pub map : map_of view ≡ map_of was
  pub judged : (test : List ℕ → Bool) → map_of (judged_view test view) ≡ map_of (judged_view test was)
  pub lacking : OnlyLost lost view.lacking
  pub each : AllByRecursion (λ (e : Entry). OnlyLost lost e.lacking) view.entries
  pub mended : mended_view shape view ≡ was

-- a root says what it said, and no copy lacks it but the lost one
pub record RootReadsOn (app lost : ℕ) (old new : Image) : Type 0 where
  pub says : says_at new app ≡ says_at old app
  pub lacking : OnlyLost lost (app_at new app).lacking

-- An application says what it said, and each storage that its root names reads on, if it was whole and at least 2
-- copies, and fewer than there are, have to agree.
pub record AppReadsOn (app lost : ℕ) (old new : Image) : Type 0 where
  pub root : RootReadsOn app lost old new
  pub storages : (shape : Shape) (view : View) → Contains (shapes_named app (says_at new app)) shape → 2 ≤ shape.m
      → shape.m < shape.place.copies
      → IsWholeStorage old shape view → ReadsOn shape lost view (store_at new shape)

-- each application reads on whose root was whole, whichever pages of one copy were lost
pub record AppsReadOn (old new : Image) : Type 0 where
  pub lost : ℕ
  pub apps : (app : ℕ) → app < 8 → IsWholeRoot old app → AppReadsOn app lost old new
