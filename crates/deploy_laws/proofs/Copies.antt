-- From what a crash leaves of a place to what damage leaves of it.
use Rattle.std.proofs.Common.{◌≡◌, ℕ, ◌<◌, List, sym, subst, arith}
use Rattle.disk_model.specs.declared.place.Place.{Place}
use Rattle.disk_model.specs.Image.{Image}
use Rattle.disk_model.specs.Case.{Case}
use Rattle.disk_model.specs.Damage.{IsSoundFor, DecaysFor, IsUndamaged}
use Rattle.disk_model.specs.Frame.{IsSettledOn}
use Rattle.disk_model.specs.Place.{slot}
use Rattle.hash_guard.specs.SealedText.{VerifiesAs}
use Rattle.guarded_cell.specs.Register.{Holds, own}
use Rattle.guarded_cell.specs.Stops.{SlotText, IsSlotPiece}
use Rattle.element_state.specs.Clean.{IsPiece, in_slot}
use Rattle.element_laws.specs.Phases.{IsOfPlace}

pub slots_sound : (place : Place) (c : Case) → IsSoundFor (IsPiece place) c
    → IsSoundFor (IsSlotPiece place) c
slots_sound place c sound x p = sound (in_slot x) p

pub slots_decay : (place : Place) (damaged : List ℕ) (old new : Image) → DecaysFor (IsPiece place) damaged old new
    → DecaysFor (IsSlotPiece place) damaged old new
slots_decay place damaged old new d = record { others = d.others; pieces = λ x p. d.pieces (in_slot x) p }

own_small : (g : ℕ) → own g < 2
own_small g = omega arith

module _ (place : Place) (damaged : List ℕ) (left image : Image) (d : DecaysFor (IsPiece place) damaged left image)
  where
    pub held_back : (copy g : ℕ) (t : List ℕ) → copy < place.copies → Holds image place copy g t
        → Holds left place copy g t
    held_back copy g t lt v =
        let piece : SlotText = record { copy = copy; parity = own g; generation = g; text = t } in
        let there : IsSlotPiece place image piece =
        record { copy = lt; parity = own_small g; verifies = v } in
        let here : IsSlotPiece place left piece = d.pieces (in_slot piece) there in
        here.verifies

    pub held_on : (copy g : ℕ) (t : List ℕ) → IsUndamaged damaged place copy → Holds left place copy g t
        → Holds image place copy g t
    held_on copy g t spared v =
        let small = own_small g in
        subst (λ (bytes : List ℕ). VerifiesAs bytes g t) (sym
        (d.others (slot place copy (own g)) (spared (own g) (omega (arith, small))))) v

    -- where nobody touched the place
    module _ (start : Image) (c : Case) (settled : IsSettledOn (IsOfPlace place) start c) (is : c.left ≡ left) where
      same_slot : (copy g : ℕ) → copy < place.copies → left (slot place copy (own g))
          ≡ start (slot place copy (own g))
      same_slot copy g lt =
          let small = own_small g in
          subst (λ (i : Image). i (slot place copy (own g)) ≡ start (slot place copy (own g))) is
          (settled.left (slot place copy (own g)) (record {
            copy = copy;
            kind = own g;
            inside = lt;
            small =
                omega (arith, small);
            is = omega arith;
          }))

      pub untouched_back : (copy g : ℕ) (t : List ℕ) → copy < place.copies → Holds image place copy g t
          → Holds start place copy g t
      untouched_back copy g t lt v = subst (λ (bytes : List ℕ). VerifiesAs bytes g t) (same_slot copy g lt)
          (held_back copy g t lt v)

      pub untouched_on : (copy g : ℕ) (t : List ℕ) → copy < place.copies → IsUndamaged damaged place copy
          → Holds start place copy g t → Holds image place copy g t
      untouched_on copy g t lt spared v = held_on copy g t spared
          (subst (λ (bytes : List ℕ). VerifiesAs bytes g t) (sym (same_slot copy g lt)) v)
