-- Files within and outside a place, damage, and counts of copies.
use Rattle.std.proofs.Common.{◌⊎◌, ℕ, suc, zero, ◌+◌, ◌*◌, ◌<◌, ◌≤◌, List, refl, ◌∙◌, inl, inr, arith}
use Rattle.disk_model.specs.Image.{Image}
use Rattle.disk_model.specs.declared.place.Place.{Place}
use Rattle.disk_model.specs.Place.{slot, area, IsOutside, IsNoSlot, IsNoArea}
use Rattle.disk_model.specs.Damage.{IsSoundFor, DecaysFor, AtLeast}

-- a file below all numbers of a place, or above them, is outside it
pub outside_range : (place : Place) (f : ℕ) → (f < place.first) ⊎ (place.first + 4 * place.copies ≤ f)
    → IsOutside place f
outside_range place f (inl below) copy k inside three is = omega arith
outside_range place f (inr above) copy k inside three is = omega arith

-- a file outside is no slot and no area
pub outside_no_slot : (place : Place) (f : ℕ) → IsOutside place f → IsNoSlot place f
outside_no_slot place f outside copy parity inside two is = outside copy parity inside (omega arith) is

pub outside_no_area : (place : Place) (f : ℕ) → IsOutside place f → IsNoArea place f
outside_no_area place f outside copy inside is = outside copy 2 inside (omega arith) is

-- no slot is an area, of whatever copies of one place
pub slot_no_area : (place : Place) (copy parity : ℕ) → parity < 2 → IsNoArea place (slot place copy parity)
slot_no_area place copy parity two other inside is = omega arith

-- no area is a slot
pub area_no_slot : (place : Place) (copy : ℕ) → IsNoSlot place (area place copy)
area_no_slot place copy other parity inside two is = omega arith

-- ---- soundness and damage

-- all writes whole is always sound
pub whole_is_sound : {X : Type 0} (Piece : Image → X → Type 0) (base full : Image)
    → IsSoundFor Piece (record { base = base; full = full; left = full })
whole_is_sound Piece base full x piece = inr piece

-- no damage
pub decays_none : {X : Type 0} (Piece : Image → X → Type 0) (damaged : List ℕ) (image : Image)
    → DecaysFor Piece damaged image image
decays_none Piece damaged image = record { others = λ f no. refl; pieces = λ x piece. piece }

-- damage and more damage
pub decays_on : {X : Type 0} (Piece : Image → X → Type 0) (damaged : List ℕ) (a b c : Image)
    → DecaysFor Piece damaged a b → DecaysFor Piece damaged b c → DecaysFor Piece damaged a c
decays_on Piece damaged a b c first next = record {
  others = λ f no. next.others f no ∙ first.others f no;
  pieces = λ x piece. first.pieces x (next.pieces x piece);
}

-- ---- counts of copies

-- what holds of each copy that another thing holds of holds of as many
pub at_least_map : (P Q : ℕ → Type 0) (n m : ℕ) → ((c : ℕ) → c < n → P c → Q c) → AtLeast P n m → AtLeast Q n m
at_least_map P Q n zero each some = tt
at_least_map P Q zero (suc m) each some = some
at_least_map P Q (suc n) (suc m) each (inl (here, others)) =
    inl (each n (omega arith) here, at_least_map P Q n m (λ c lt. each c (omega arith)) others)
at_least_map P Q (suc n) (suc m) each (inr others) = inr
    (at_least_map P Q n (suc m) (λ c lt. each c (omega arith)) others)
