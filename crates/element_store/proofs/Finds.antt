-- The text at which a storage opens, from what a survey hands up.
use Rattle.std.proofs.Common.{◌≡◌, ℕ, List, [], ◌∷◌, Bool, true, false, Option, Some, None, sym, ap, ◌∙◌, subst}
use Rattle.std.specs.Prelude.{find, IfSome}
use Rattle.std.specs.Option.{option_map}
use Rattle.disk_model.specs.Image.{Image}
use Rattle.disk_model.specs.declared.place.Place.{Place}
use Rattle.guarded_cell.specs.Seens.{IsSeenOn}
use Rattle.guarded_cell.specs.Slots.{IsSlotsOf}
use Rattle.element_state.specs.declared.shapes.Shape.{Shape}
use Rattle.element_state.specs.declared.shapes.View.{View}
use Rattle.element_state.specs.declared.surveying.Found.{Found}
use Rattle.element_state.specs.Fit.{FitText, fit_texts}
use Rattle.element_state.specs.Views.{qualifies, view_of}
use Rattle.element_state.specs.States.{State, store_at}
use Rattle.element_state.specs.Chosen.{chosen, or_first, opened_of}
use Rattle.element_state.specs.Surveys.{IsViewedOn, OpensOrSalvages, found_text}

abbrev flagged : Bool → FitText → Option (Bool × FitText)
flagged b t = Some (b, t)

abbrev text_in : FitText → Option (Bool × FitText) → FitText
text_in d None = d
text_in d (Some x) = x.1

abbrev flag_of : Option (Bool × FitText) → Bool
flag_of None = true
flag_of (Some x) = x.0

from_or_first : (texts : List FitText) (o : Option FitText) (t : FitText) → flagged true t ≡ or_first texts o
    → o ≡ Some t
from_or_first texts (Some x) t e = ap (λ (y : FitText). Some y) (sym (ap (text_in t) e))
from_or_first [] None t e = cc
from_or_first (x ∷ texts) None t e = absurd (never e)
  where
    differ : true ≡ false → ⊥
    differ e = cc

    never : flagged true t ≡ flagged false x → ⊥
    never e = differ (ap flag_of e)

opens_is : (opens : Bool) (v : View) (state : State) → opens ≡ true → OpensOrSalvages opens v state → opened_of state
    ≡ Some v
opens_is true v state e is = ap opened_of is.1
opens_is false v state e is = absurd (never e)
  where
    never : false ≡ true → ⊥
    never e = cc

module _ (image : Image) (shape : Shape) (found : Option Found) (f : Found) (is : found ≡ Some f)
    (opens : f.opens ≡ true)
    (chose : option_map found_text found ≡ chosen image shape) (viewed : IfSome found (IsViewedOn image shape)) where
  pub found_first : find (qualifies image shape) (fit_texts shape image) ≡ Some (f.seen, f.index)
  unfolding chosen
  found_first = from_or_first (fit_texts shape image) (find (qualifies image shape) (fit_texts shape image))
      (f.seen, f.index)
      (ap (λ (b : Bool). flagged b (f.seen, f.index)) (sym opens) ∙ sym (ap (option_map found_text) is) ∙ chose)

  its_view : IsViewedOn image shape f
  its_view = subst (λ (o : Option Found). IfSome o (IsViewedOn image shape)) is viewed

  pub found_view : f.view ≡ view_of image shape (f.seen, f.index)
  found_view = its_view.view

  pub found_opens : opened_of (store_at image shape) ≡ Some f.view
  found_opens = opens_is f.opens f.view (store_at image shape) opens its_view.state

  pub found_copies : IsSeenOn image shape.place f.seen
  found_copies = its_view.copies

-- its flags
pub found_slots : (image : Image) (place : Place) (found : Option Found) (f : Found) → found ≡ Some f
    → IfSome found (λ f. IsSlotsOf image place f.slots) → IsSlotsOf image place f.slots
found_slots image place found f is are =
    subst (λ (o : Option Found). IfSome o (λ f. IsSlotsOf image place f.slots)) is are
