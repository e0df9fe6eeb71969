-- Every copy is chosen.
use Rattle.std.proofs.Common.{◌≡◌, ℕ, ◌+◌, ◌<◌, ◌≤◌, List, replicate, get_or, Bool, true, false, sym, subst, arith}
use Rattle.std.proofs.lemmas.List.{get_or-replicate}
use Rattle.hash_guard.specs.SealedText.{VerifiesAs}
use Rattle.disk_model.specs.Image.{Image}
use Rattle.disk_model.specs.Place.{slot}
use Rattle.disk_model.specs.declared.place.Place.{Place}
use Rattle.guarded_cell.specs.Register.{IsAlone, own, other}
use Rattle.guarded_cell.specs.Slots.{Tells, Picks}
use Rattle.guarded_cell.specs.declared.slots.Pick.TheVariants.{Lacking, Verifying}

abbrev pub all : List Bool
all = replicate 8 true

pub all_yes : (copies copy : ℕ) → copies ≤ 8 → copy < copies → get_or all copy false ≡ true
all_yes copies copy few lt = get_or-replicate 8 copy true false (omega (arith, few, lt))

module _ (image : Image) (place : Place) (generation : ℕ) (t next : List ℕ) (few : place.copies ≤ 8)
    (alone : IsAlone image place generation t) where
  -- where each copy holds a text alone, no copy holds the next one
  pub all_lack : Picks Lacking all image place (own (generation + 1)) (generation + 1) next
  all_lack copy lt =
      let e : own (generation + 1) ≡ other generation = omega arith in
      subst (λ (b : Bool). Tells Lacking b (image (slot place copy (own (generation + 1)))) (generation + 1) next)
      (sym (all_yes place.copies copy few lt))
      (λ v. alone.blank copy lt (generation + 1) next (subst
      (λ (p : ℕ). VerifiesAs (image (slot place copy p)) (generation + 1) next) e v))

  -- and each old slot is stale
  pub all_stale : Picks Verifying all image place (other (generation + 1)) (generation + 1) next
  all_stale copy lt =
      let e : own generation ≡ other (generation + 1) = omega arith in
      subst (λ (b : Bool). Tells Verifying b (image (slot place copy (other (generation + 1)))) (generation + 1) next)
      (sym (all_yes place.copies copy few lt))
      (λ blank. blank generation t (subst (λ (p : ℕ). VerifiesAs (image (slot place copy p)) generation t) e
      (alone.held copy lt)))
