-- Slots that are right already are not chosen, and so they stay as they were.
use Rattle.std.proofs.Common.{◌≡◌, ◌∙◌, ℕ, ◌<◌, List, get_or, Bool, false, Option, Some, sym, subst, inl, inr}
use Rattle.std.proofs.lemmas.Bool.{cases_Bool}
use Rattle.disk_model.specs.Image.{Image}
use Rattle.disk_model.specs.Frame.{Spares}
use Rattle.disk_model.specs.Place.{slot}
use Rattle.disk_model.specs.declared.place.Place.{Place}
use Rattle.guarded_cell.specs.declared.looking.Seen.{Seen}
use Rattle.guarded_cell.specs.Register.{IsAlone, own, other}
use Rattle.guarded_cell.specs.Slots.{Tells, Picks, IsNotPicked}
use Rattle.guarded_cell.specs.declared.slots.Pick.{Pick}
use Rattle.guarded_cell.specs.declared.slots.Pick.TheVariants.{Lacking, Verifying, Others}
use Rattle.guarded_cell.specs.Starts.{IsChosen, IsNone}
use Rattle.guarded_cell.specs.Rights.{IsRight, IsRightFor, IsClear}

-- a slot that a pass spares is not chosen by it
pub spared_apart : (pick : Pick) (chosen : List Bool) (image : Image) (place : Place) (parity generation : ℕ)
    (text : List ℕ) (file : ℕ)
    → Picks pick chosen image place parity generation text
    → ((copy : ℕ) → copy < place.copies → file ≡ slot place copy parity → IsNotPicked pick (image file) generation text)
    → ¬ (IsChosen place parity chosen file)
spared_apart pick chosen image place parity generation text file picks spared is =
    let here = slot place is.copy parity in
    let not = subst (λ (b : Bool). Tells pick b (image here) generation text) is.flag (picks is.copy is.within) in
    not (subst (λ (f : ℕ). IsNotPicked pick (image f) generation text) is.is (spared is.copy is.within is.is))

module _ (place : Place) (generation : ℕ) (text : List ℕ) (old : Image) (mine stale : List Bool) where
  pub right_first : (mid : Image) → Picks Lacking mine old place (own generation) generation text
      → Spares (λ f. ¬ (IsChosen place (own generation) mine f)) old mid
      → Spares (IsRight old place generation text) old mid
  right_first mid picks spares f right =
      spares f (spared_apart Lacking mine old place (own generation) generation text f picks
      (λ copy lt. (right copy lt).0))

  pub right_both : (mid new : Image) → Picks Lacking mine old place (own generation) generation text
      → Picks Verifying stale old place (other generation) generation text
      → Spares (λ f. ¬ (IsChosen place (own generation) mine f)) old mid
      → Spares (λ f. ¬ (IsChosen place (other generation) stale f)) mid new
      → Spares (IsRight old place generation text) old new
  right_both mid new picks stales spares later f right =
      later f (spared_apart Verifying stale old place (other generation) generation text f stales
      (λ copy lt. (right copy lt).1))
      ∙ right_first mid picks spares f right

  pub clear_first : (mid : Image) → Picks Others mine old place (own generation) generation text
      → Spares (λ f. ¬ (IsChosen place (own generation) mine f)) old mid
      → Spares (IsClear old place generation text) old mid
  clear_first mid picks spares f clear =
      spares f (spared_apart Others mine old place (own generation) generation text f picks
      (λ copy lt. (clear copy lt).0))

  pub clear_both : (mid new : Image) → Picks Others mine old place (own generation) generation text
      → Picks Verifying stale old place (other generation) generation text
      → Spares (λ f. ¬ (IsChosen place (own generation) mine f)) old mid
      → Spares (λ f. ¬ (IsChosen place (other generation) stale f)) mid new
      → Spares (IsClear old place generation text) old new
  clear_both mid new picks stales spares later f clear =
      later f (spared_apart Verifying stale old place (other generation) generation text f stales
      (λ copy lt. (clear copy lt).1))
      ∙ clear_first mid picks spares f clear

-- an image that was only read is the old one
pub right_since : (place : Place) (generation : ℕ) (text : List ℕ) (old mid new : Image) → mid ≡ old
    → Spares (IsRight mid place generation text) mid new
    → Spares (IsRight old place generation text) old new
right_since place generation text old mid new same spares =
    subst (λ (im : Image). Spares (IsRight im place generation text) im new) same spares

pub clear_since : (place : Place) (generation : ℕ) (text : List ℕ) (old mid new : Image) → mid ≡ old
    → Spares (IsClear mid place generation text) mid new
    → Spares (IsClear old place generation text) old new
clear_since place generation text old mid new same spares =
    subst (λ (im : Image). Spares (IsClear im place generation text) im new) same spares

-- where a text stands, the slots that are right for it are left alone
pub right_for : (s : Option Seen) (seen : Seen) (place : Place) (old new : Image) → s ≡ Some seen
    → Spares (IsRight old place seen.generation seen.text) old new
    → Spares (IsRightFor s old place) old new
right_for s seen place old new stands spares =
    subst (λ (x : Option Seen). Spares (IsRightFor x old place) old new) (sym stands) spares

-- ---- where every copy holds the text alone, no slot is picked

module _ (place : Place) (generation : ℕ) (text : List ℕ) (image : Image)
    (alone : IsAlone image place generation text) (chosen : List Bool) where
  pub none_lacking : Picks Lacking chosen image place (own generation) generation text → IsNone place.copies chosen
  none_lacking picks copy lt = elim (cases_Bool (get_or chosen copy false)) [
    | inl passes ↦ absurd (subst (λ (b : Bool). Tells Lacking b (image (slot place copy (own generation))) generation
        text) passes (picks copy lt) (alone.held copy lt))
    | inr fails ↦ fails
  ]

  pub none_stale : Picks Verifying chosen image place (other generation) generation text → IsNone place.copies chosen
  none_stale picks copy lt = elim (cases_Bool (get_or chosen copy false)) [
    | inl passes ↦ absurd (subst (λ (b : Bool). Tells Verifying b (image (slot place copy (other generation)))
        generation text) passes (picks copy lt) (alone.blank copy lt))
    | inr fails ↦ fails
  ]
