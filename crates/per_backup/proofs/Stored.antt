-- One storage of an application changes: what the disk says of the application then, at the end and at every moment.
use Rattle.std.proofs.Common.{◌≡◌, ℕ, ◌+◌, ◌<◌, ◌≤◌, List, ◌++◌, map, Bool, Option, Some, option_map, slice_get}
use Rattle.std.proofs.Common.{slice_set, refl, sym, ap, ◌∙◌, subst, inl, inr, ⊎_elim, arith}
use Rattle.std.proofs.lemmas.Option.{slice_get-map}
use Rattle.disk_model.specs.Case.{Case, IsSettledAt}
use Rattle.disk_model.specs.Frame.{IsSettledOn, Spares}
use Rattle.disk_model.specs.Image.{Image}
use Rattle.disk_model.specs.Medium.{EachCase, Medium, Quiet}
use Rattle.disk_model.specs.Place.{IsOutside}
use Rattle.disk_model.specs.lemmas.Frames.{settled_less}
use Rattle.deployment_model.specs.Data.{StorageData}
use Rattle.element_state.specs.Clean.{IsClean}
use Rattle.element_state.specs.Kept.{KeptThroughout}
use Rattle.element_state.specs.declared.shapes.Shape.{Shape}
use Rattle.element_state.specs.States.{State, store_at}
use Rattle.deploy_laws.specs.Places.{IsBeside, IsFileOf, IsNoFileOf, Named, shapes_if, shapes_in, storage_shape}
use Rattle.deploy_laws.specs.Apps.{App, IsCleanApp, Says, app_at, installed, says_at, shapes_named}
use Rattle.deploy_laws.specs.Stands.{StandsThroughout}
use Rattle.per_backup.specs.StorageLaws.{BackupLaws}
use Rattle.per_backup.proofs.Lists.{all_at, get_append, set_same}

pub says_of : (image : Image) (app : ℕ) → (app_at image app).says ≡ says_at image app
unfolding app_at
says_of image app = refl

states_of : (image : Image) (app : ℕ) → (app_at image app).states
    ≡ map (store_at image) (shapes_named app (says_at image app))
unfolding app_at
states_of image app = refl

shapes_of : (app g : ℕ) (v : Named) (previous : Option Named)
    → shapes_named app (installed g v previous) ≡ shapes_in app v ++ shapes_if app previous
unfolding shapes_named
shapes_of app g v previous = refl

-- a file that is none of the application is beside each of its storages
pub app_beside : (app bank number f : ℕ) → bank ≤ 1 → number < 16 → IsNoFileOf app f → IsBeside app bank number f
app_beside app bank number f ltb ltn aside =
    ⊎_elim (λ low. inl (omega (arith, low))) (λ high. inr (omega (arith, high, ltb, ltn))) aside

module _ (laws : BackupLaws) (app g : ℕ) (v : Named) (previous : Option Named) (number : ℕ) (s : StorageData)
    (at : slice_get v.deployment.storages number ≡ Some s) where
  abbrev here : Shape
  here = storage_shape app v.bank number s

  shape_there : (says : Says) → says ≡ installed g v previous → slice_get (shapes_named app says) number ≡ Some here
  shape_there says is = ap (λ (x : Says). slice_get (shapes_named app x) number) is
      ∙ ap (λ (xs : List Shape). slice_get xs number) (shapes_of app g v previous)
      ∙ get_append (shapes_in app v) (shapes_if app previous) number here (laws.numbers app number v s at)

  -- its state is the one by its number
  pub state_there : (image : Image) → says_at image app ≡ installed g v previous
      → slice_get (app_at image app).states number ≡ Some (store_at image here)
  state_there image is = ap (λ (xs : List State). slice_get xs number) (states_of image app)
      ∙ slice_get-map (store_at image) (shapes_named app (says_at image app)) number
      ∙ ap (option_map (store_at image)) (shape_there (says_at image app) is)

  -- to be in the state that it is in changes nothing
  pub stays_so : (image : Image) → says_at image app ≡ installed g v previous
      → record (app_at image app) { states = slice_set (app_at image app).states number (store_at image here) }
      ≡ app_at image app
  stays_so image is = ap (λ (xs : List State). record (app_at image app) { states = xs })
      (set_same (app_at image app).states number (store_at image here) (state_there image is))

  pub clean_there : (image : Image) → says_at image app ≡ installed g v previous → IsCleanApp app image
      → IsClean here image
  clean_there image is clean = all_at (λ shape. IsClean shape image) (shapes_named app (says_at image app)) number here
      clean.storages (shape_there (says_at image app) is)

  module _ (lt : app < 8) (ltb : v.bank ≤ 1) (ltn : number < 16) where
    outside_of : (f : ℕ) → IsBeside app v.bank number f → IsOutside here.place f
    outside_of f beside = laws.beside app v.bank number f s lt ltb ltn beside

    -- the application is the same but for this storage
    pub stored_here : (old new : Image) → Spares (IsOutside here.place) old new
        → says_at old app ≡ installed g v previous
        → (app_at new app ≡ record (app_at old app) {
          states =
              slice_set (app_at old app).states number (store_at new here);
        })
        × (IsCleanApp app old → IsClean here new → IsCleanApp app new)
    stored_here old new spared is = laws.stored app g number old new v previous s lt is at
        (λ f beside. spared f (outside_of f beside.1))

    -- and at every moment it stands
    pub storing_here : (after : State) (old new : Medium) → says_at old.image app ≡ installed g v previous
        → (Quiet old → EachCase (IsSettledOn (IsOutside here.place) old.image) old new)
        → KeptThroughout here after old new
        → StandsThroughout app (record (app_at old.image app) {
          states =
              slice_set (app_at old.image app).states number after;
        }) old new
    storing_here after old new is outside kept quiet clean c since =
        laws.storing app g number old.image v previous s after c lt clean is at
        (settled_less (λ f p. outside_of f p.1)
        (outside quiet c since))
        (λ twins. kept quiet (clean_there old.image is clean) c since)
