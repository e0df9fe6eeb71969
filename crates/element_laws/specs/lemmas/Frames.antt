-- From what a crash leaves to what damage leaves of it.
use Rattle.std.proofs.Common.{◌≡◌, ℕ, ◌<◌, true, List, Some, sym, subst, inl, inr, arith}
use Rattle.disk_model.specs.Image.{Image}
use Rattle.disk_model.specs.Damage.{DecaysFor, IsUndamaged}
use Rattle.disk_model.specs.Place.{slot, area, IsNoSlot, IsNoArea}
use Rattle.disk_model.specs.declared.place.Place.{Place}
use Rattle.hash_guard.specs.SealedText.{VerifiesAs}
use Rattle.guarded_cell.specs.Register.{Holds, own}
use Rattle.guarded_cell.specs.Stops.{SlotText, IsSlotPiece}
use Rattle.block_files.specs.Aside.{Where}
use Rattle.block_files.specs.Contents.{counting}
use Rattle.block_files.specs.Areas.{has_all_bytes}
use Rattle.element_state.specs.declared.shapes.Shape.{Shape}
use Rattle.element_state.specs.Clean.{where_of, IsNamed, IsPiece, in_slot, in_blocks, BlockText, IsBlockPiece}
use Rattle.element_laws.specs.lemmas.Copies.{CopyGives}
use Rattle.element_laws.specs.lemmas.Standing.{gift_of}
use Rattle.element_laws.specs.lemmas.Left.{is_whole_at}
use Rattle.element_laws.specs.lemmas.Keeping.{IsLess, IsFewer, KeepsAll}

pub own_small : (g : ℕ) → own g < 2
own_small g = omega arith

-- slots are no areas, and areas no slots
pub slot_no_area : (place : Place) (copy g : ℕ) → IsNoArea place (slot place copy (own g))
slot_no_area place copy g other lt e = let small = own_small g in absurd (omega (arith, e, small))

pub area_no_slot : (place : Place) (copy : ℕ) → IsNoSlot place (area place copy)
area_no_slot place copy other parity lt small e = absurd (omega (arith, e, small))

-- a text held, as a piece
module _ (shape : Shape) (copy h : ℕ) (u : List ℕ) where
  abbrev pub its_slot : SlotText
  its_slot = record { copy = copy; parity = own h; generation = h; text = u }

  pub held_piece : (image : Image) → copy < shape.place.copies → Holds image shape.place copy h u
      → IsSlotPiece shape.place image its_slot
  held_piece image lt v = record { copy = lt; parity = own_small h; verifies = v }

-- what is given, as a piece
module _ (shape : Shape) (copy : ℕ) (at : Where) (w : List ℕ) where
  abbrev pub its_blocks : BlockText
  its_blocks = record { copy = copy; at = at; bytes = w }

  pub given_piece : (image : Image) → copy < shape.place.copies → IsNamed shape.place image at
      → CopyGives (gift_of image shape at) copy w → IsBlockPiece shape.place image its_blocks
  given_piece image lt is gives = record { inside = lt; named = is; counts = gives }

module _ (shape : Shape) (damaged : List ℕ) (left new : Image) (d : DecaysFor (IsPiece shape.place) damaged left new)
  where
    pub held_back : (copy h : ℕ) (u : List ℕ) → copy < shape.place.copies → Holds new shape.place copy h u
        → Holds left shape.place copy h u
    held_back copy h u lt v =
        let p : IsSlotPiece shape.place left (its_slot shape copy h u) =
        d.pieces (in_slot (its_slot shape copy h u)) (held_piece shape copy h u new lt v) in
        p.verifies

    pub named_back : (at : Where) → IsNamed shape.place new at → IsNamed shape.place left at
    named_back at is = record {
      copy = is.copy;
      generation = is.generation;
      text = is.text;
      index = is.index;
      inside = is.inside;
      held = held_back is.copy is.generation is.text is.inside is.held;
      spelled = is.spelled;
      named = is.named;
    }

    pub given_back : (at : Where) → IsNamed shape.place new at → (copy : ℕ) (w : List ℕ) → copy < shape.place.copies
        → CopyGives (gift_of new shape at) copy w → CopyGives (gift_of left shape at) copy w
    given_back at is copy w lt gives =
        let p : IsBlockPiece shape.place left (its_blocks shape copy at w) =
        d.pieces (in_blocks (its_blocks shape copy at w)) (given_piece shape copy at w new lt is gives) in
        p.counts

    pub held_on : (copy h : ℕ) (u : List ℕ) → IsUndamaged damaged shape.place copy
        → Holds left shape.place copy h u → Holds new shape.place copy h u
    held_on copy h u spared v =
        let small = own_small h in
        subst (λ (bytes : List ℕ). VerifiesAs bytes h u) (sym
        (d.others (slot shape.place copy (own h)) (spared (own h) (omega (arith, small))))) v

    pub area_on : (copy : ℕ) → IsUndamaged damaged shape.place copy
        → new (area shape.place copy) ≡ left (area shape.place copy)
    area_on copy spared = d.others (area shape.place copy) (spared 2 (omega arith))

    pub whole_on : (copy : ℕ) (at : Where) (v : List ℕ) → IsUndamaged damaged shape.place copy
        → (is_whole_at left shape copy at ≡ true) × CopyGives (gift_of left shape at) copy v
        → (is_whole_at new shape copy at ≡ true) × CopyGives (gift_of new shape at) copy v
    whole_on copy at v spared is = subst (λ (file : List ℕ). (has_all_bytes file at.blocks at.len ≡ true)
        × (counting file at.blocks at.len at.hash ≡ Some v)) (sym (area_on copy spared)) is

    -- what damage leaves of what is less
    pub less_decays : (g : ℕ) (t : List ℕ) (old : Image) → IsLess shape g t damaged old left
        → IsLess shape g t damaged old new
    less_decays g t old less = record {
      held = λ copy h u lt v. less.held copy h u lt (held_back copy h u lt v);
      counted = λ at is copy w lt gives. elim (less.counted at (named_back at is) copy w lt
          (given_back at is copy w lt gives)) [
            | inl was ↦ inl was
            | inr value ↦ inr ((λ c h u ltc v. value.0 c h u ltc (held_back c h u ltc v)), value.1)
          ];
      text = λ copy lt spared v. held_on copy g t spared (less.text copy lt spared v);
      whole = λ i spells e k copy v lt spared was gave. whole_on copy (where_of e) v spared
          (less.whole i spells e k copy v lt spared was gave);
    }

    pub fewer_decays : (old : Image) → IsFewer shape old left → IsFewer shape old new
    fewer_decays old fewer = record {
      held = λ copy lt h u v. fewer.held copy lt h u (held_back copy h u lt v);
      counted = λ at is copy w lt gives. fewer.counted at (named_back at is) copy w lt
          (given_back at is copy w lt gives);
    }

    pub keeps_decays : (g : ℕ) (t : List ℕ) (old : Image) → KeepsAll shape g t damaged old left
        → KeepsAll shape g t damaged old new
    keeps_decays g t old keeps = record {
      text = λ copy lt spared v. held_on copy g t spared (keeps.text copy lt spared v);
      whole = λ i spells e k copy v lt spared was gave. whole_on copy (where_of e) v spared
          (keeps.whole i spells e k copy v lt spared was gave);
    }
