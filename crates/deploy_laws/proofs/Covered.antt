-- The places that the root of a damaged image names are sound, and were decayed as the application's.
use Rattle.std.proofs.Common.{◌≡◌, ◌⊎◌, ℕ, suc, ◌<◌, List, [], ◌∷◌, refl, sym, ◌∙◌, subst, inl, inr, ⊎_elim, arith}
use Rattle.std.specs.List.{AllByRecursion, Contains}
use Rattle.disk_model.specs.Image.{Image}
use Rattle.disk_model.specs.Case.{Case}
use Rattle.disk_model.specs.Damage.{IsSoundFor, DecaysFor}
use Rattle.guarded_cell.specs.Register.{Holds, own}
use Rattle.guarded_cell.specs.lemmas.StopLaws.{at_least_one}
use Rattle.element_state.specs.declared.shapes.Shape.{Shape}
use Rattle.element_state.specs.Clean.{IsPiece, IsSound, Piece, in_slot}
use Rattle.root_text.specs.RootText.{root_of}
use Rattle.deploy_laws.specs.Places.{root_place}
use Rattle.deploy_laws.specs.Apps.{Says, nothing, says_by, says_at, shapes_named}
use Rattle.deploy_laws.specs.Pieces.{IsPlaceOn, of_root, of_storage, IsSoundApp, DecaysApp}
use Rattle.deploy_laws.proofs.Said.{says_cases}

-- sound places, and places decayed
abbrev pub AreSound : Case → List Shape → Type 0
AreSound c shapes = AllByRecursion (λ (shape : Shape). IsSound shape.place c) shapes

abbrev pub AreDecayed : List ℕ → Image → Image → List Shape → Type 0
AreDecayed damaged old new shapes = AllByRecursion (λ (shape : Shape). DecaysFor (IsPiece shape.place) damaged old new)
    shapes

-- both, of a list
pub record AreCovered (c : Case) (damaged : List ℕ) (image : Image) (shapes : List Shape) : Type 0 where
  pub sound : AreSound c shapes
  pub decayed : AreDecayed damaged c.left image shapes

own_small : (g : ℕ) → own g < 2
own_small g = omega arith

module _ (app : ℕ) (c : Case) (sound : IsSoundApp app c) (damaged : List ℕ) (image : Image)
    (decays : DecaysApp app damaged c.left image) where
  pub root_sound : IsSoundFor (IsPiece (root_place app)) c
  root_sound = (sound (root_place app) (inl (of_root refl))).pieces

  pub root_decays : DecaysFor (IsPiece (root_place app)) damaged c.left image
  root_decays = decays (root_place app) (of_root refl)

  module _ (copy g : ℕ) (t : List ℕ) (lt : copy < 3) (v : Holds image (root_place app) copy g t) where
    abbrev piece : Piece
    piece = in_slot (record { copy = copy; parity = own g; generation = g; text = t })

    on_left : IsPiece (root_place app) c.left piece
    on_left = root_decays.pieces piece (record { copy = lt; parity = own_small g; verifies = v })

    -- a place that the text names is one of what was before the damage
    was_named : (shape : Shape) → Contains (shapes_named app (says_by g (root_of t))) shape
        → IsPlaceOn app c.left shape.place
    was_named shape named = of_storage copy g t shape lt on_left.verifies named refl

    -- and of base or full
    pub covered : (shape : Shape) → Contains (shapes_named app (says_by g (root_of t))) shape
        → IsPlaceOn app c.base shape.place ⊎ IsPlaceOn app c.full shape.place
    covered shape named = ⊎_elim
        (λ (p : IsPiece (root_place app) c.base piece). inl (of_storage copy g t shape lt p.verifies named refl))
        (λ (p : IsPiece (root_place app) c.full piece). inr (of_storage copy g t shape lt p.verifies named refl))
        (root_sound piece on_left)

    each : (shapes : List Shape) → ((shape : Shape) → Contains shapes shape
        → Contains (shapes_named app (says_by g (root_of t))) shape) → AreCovered c damaged image shapes
    each [] among = record { sound = tt; decayed = tt }
    each (s ∷ ss) among =
        let first : Contains (shapes_named app (says_by g (root_of t))) s = among s (0, omega arith, refl) in
        let rest : AreCovered c damaged image ss = each ss
        (λ shape at. among shape (suc at.0, (let lt = at.1 in omega (arith, lt)), at.2)) in
        record {
          sound = (sound s.place (covered s first), rest.sound);
          decayed =
              (decays s.place (was_named s first), rest.decayed);
        }

    pub text_covers : AreCovered c damaged image (shapes_named app (says_by g (root_of t)))
    text_covers = each (shapes_named app (says_by g (root_of t))) (λ shape at. at)

  none_covers : AreCovered c damaged image (shapes_named app nothing)
  unfolding shapes_named
  none_covers = record { sound = tt; decayed = tt }

  -- whatever the root of the damaged image says
  pub named_covers : (says : Says) → says_at image app ≡ says → AreCovered c damaged image (shapes_named app says)
  named_covers says is = ⊎_elim
      (λ none. subst (λ (s : Says). AreCovered c damaged image (shapes_named app s)) (sym none.0 ∙ is) none_covers)
      (λ some. let (h, t, it) = some in
      let (copy, lt, v) = at_least_one (λ copy. Holds image (root_place app) copy h t) 3 2 (omega arith) it.held in
      subst (λ (s : Says). AreCovered c damaged image (shapes_named app s)) (sym it.says ∙ is)
      (text_covers copy h t lt v))
      (says_cases image app)

  no_shape : (shape : Shape) → Contains (shapes_named app nothing) shape → ⊥
  unfolding shapes_named
  no_shape shape at = let below = at.1 in omega (arith, below)

  -- and each storage of it
  pub each_covered : (shape : Shape) → Contains (shapes_named app (says_at image app)) shape
      → IsSound shape.place c × DecaysFor (IsPiece shape.place) damaged c.left image
  each_covered shape at = ⊎_elim
      (λ none. absurd (no_shape shape (subst (λ (s : Says). Contains (shapes_named app s) shape) none.0 at)))
      (λ some. let (h, t, it) = some in
      let (copy, lt, v) = at_least_one (λ copy. Holds image (root_place app) copy h t) 3 2 (omega arith) it.held in
      let there = subst (λ (s : Says). Contains (shapes_named app s) shape) it.says at in
      (sound shape.place (covered copy h t lt v shape there), decays shape.place (was_named copy h t lt v shape there)))
      (says_cases image app)
