-- Storages of an application, counted by pieces after a stop.
use Rattle.std.proofs.Common.{◌≡◌, ℕ, suc, ◌<◌, List, [], ◌∷◌, refl, sym, ◌∙◌, subst, inl, inr, ⊎_elim, arith}
use Rattle.std.specs.List.{AllByRecursion, Contains}
use Rattle.disk_model.specs.Image.{Image}
use Rattle.guarded_cell.specs.Register.{Holds}
use Rattle.guarded_cell.specs.lemmas.StopLaws.{at_least_one}
use Rattle.element_state.specs.declared.shapes.Shape.{Shape}
use Rattle.element_state.specs.States.{State}
use Rattle.element_laws.specs.Pieces.{OnwardLaw}
use Rattle.root_text.specs.RootText.{root_of}
use Rattle.deploy_laws.specs.Places.{root_place}
use Rattle.deploy_laws.specs.Apps.{AreClean, AreVersions, Says, nothing, says_at, says_by, shapes_named}
use Rattle.deploy_laws.specs.Laws.{VersionsLaw}
use Rattle.deploy_laws.specs.Pieces.{of_storage, DecaysApp}
use Rattle.deploy_laws.specs.Stands.{AreKept}
use Rattle.deploy_laws.specs.Onward.{StayOnward, OnwardAppLaw}
use Rattle.deploy_laws.proofs.Covered.{AreDecayed}
use Rattle.deploy_laws.proofs.Files.{IsFit, all_fit}
use Rattle.deploy_laws.proofs.Said.{says_cases}

-- ---- the storages that the root names after the stop are decayed as the application's

module _ (app : ℕ) (damaged : List ℕ) (left image : Image) (decays : DecaysApp app damaged left image) where
  each : (copy g : ℕ) (t : List ℕ) → copy < 3 → Holds left (root_place app) copy g t → (shapes : List Shape)
      → ((shape : Shape) → Contains shapes shape → Contains (shapes_named app (says_by g (root_of t))) shape)
      → AreDecayed damaged left image shapes
  each copy g t lt v [] among = tt
  each copy g t lt v (s ∷ ss) among = (
    decays s.place (of_storage copy g t s lt v (among s (0, omega arith, refl)) refl),
    each copy g t lt v ss (λ shape at. among shape (suc at.0, (let lt = at.1 in omega (arith, lt)), at.2)),
  )

  none_decayed : AreDecayed damaged left image (shapes_named app nothing)
  unfolding shapes_named
  none_decayed = tt

  decayed : (says : Says) → says_at left app ≡ says → AreDecayed damaged left image (shapes_named app says)
  decayed says is = ⊎_elim
      (λ none. subst (λ (s : Says). AreDecayed damaged left image (shapes_named app s)) (sym none.0 ∙ is) none_decayed)
      (λ some. let (h, t, it) = some in
      let (copy, lt, v) = at_least_one (λ copy. Holds left (root_place app) copy h t) 3 2 (omega arith) it.held in
      subst (λ (s : Says). AreDecayed damaged left image (shapes_named app s)) (sym it.says ∙ is)
      (each copy h t lt v (shapes_named app (says_by h (root_of t))) (λ shape at. at)))
      (says_cases left app)

-- ---- each of them

module _ (onward : OnwardLaw) (damaged : List ℕ) (left image : Image) where
  stay : (shapes : List Shape) (before after : List State) → AllByRecursion IsFit shapes → AreClean left shapes
      → AreDecayed damaged left image shapes → AreKept left [] shapes before after
      → StayOnward left image shapes before after
  stay [] before after fit clean decayed kept = tt
  stay (shape ∷ shapes) [] after fit clean decayed kept = absurd kept
  stay (shape ∷ shapes) (state ∷ before) [] fit clean decayed kept = absurd kept
  stay (shape ∷ shapes) (state ∷ before) (next ∷ after) fit clean decayed kept = (
    onward shape state next damaged left image fit.0 clean.0 kept.0 decayed.0,
    stay shapes before after fit.1 clean.1 decayed.1 kept.1,
  )

pub stands_onward : OnwardLaw → VersionsLaw → OnwardAppLaw
stands_onward onward versions app before after damaged left image lt stands decays =
    let go = λ (says : Says) (is : says_at left app ≡ says) (xs ys : List State)
    (kept : AreKept left [] (shapes_named app says) xs ys) (clean : AreClean left (shapes_named app says)).
    stay onward damaged left image (shapes_named app says) xs ys
    (all_fit app lt says (subst AreVersions is (versions left app))) clean (decayed app damaged left image decays says is)
    kept in
    record {
      same = λ is stays. go before.says is before.states after.states (stands.same is stays)
          (subst (λ (s : Says). AreClean left (shapes_named app s)) is (stands.clean (inl is)));
      old = λ is moves. go before.says is before.states before.states (stands.old is moves)
          (subst (λ (s : Says). AreClean left (shapes_named app s)) is (stands.clean (inl is)));
      new = λ is moves. go after.says is after.states after.states (stands.new is moves)
          (subst (λ (s : Says). AreClean left (shapes_named app s)) is (stands.clean (inr is)));
    }
