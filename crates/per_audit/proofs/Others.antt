-- What is found of a storage by the text that a survey hands up is what its state says: also whether other texts are
-- held.
use Rattle.std.proofs.Common.{◌≡◌, ℕ, List, [], ◌∷◌, ◌++◌, length, Bool, true, false, cond, Option, Some, None, refl}
use Rattle.std.proofs.Common.{sym, ap, ◌∙◌, arith, IfSome, option_map}
use Rattle.std.specs.List.{flat_map, range_with_len}
use Rattle.std.proofs.lemmas.Bool.{lt-leb}
use Rattle.per_base.specs.declared.errors.Unit.TheVariants.{Whole}
use Rattle.disk_model.specs.Image.{Image}
use Rattle.deployment_model.specs.Data.{StorageData}
use Rattle.element_state.specs.declared.shapes.Shape.{Shape}
use Rattle.element_state.specs.declared.shapes.View.{View}
use Rattle.element_state.specs.declared.surveying.Found.{Found}
use Rattle.element_state.specs.Fit.{FitText, fit_texts, is_sole}
use Rattle.element_state.specs.Views.{qualifies, view_of}
use Rattle.element_state.specs.States.{State, Corrupt, store_at, state_of, first_picked, beside, others_of, salvage_of}
use Rattle.element_state.specs.Surveys.{IsViewedOn, OpensOrSalvages}
use Rattle.per_audit.specs.declared.findings.FindingKind.TheVariants.{Lost}
use Rattle.per_audit.specs.declared.noting.Notes.{Notes}
use Rattle.per_audit.specs.declared.findings.Finding.{Finding}
use Rattle.per_audit.specs.declared.findings.Listed.{Listed}
use Rattle.per_audit.specs.Audits.{damaged_by, finding, is_none_left, listed_of, of_element, of_storage, unless_sole}
use Rattle.per_audit.specs.Noted.{AddsNotes, elements_by, elements_found, findings_by, findings_found}

-- ---- whether other texts are held

one_left : (view : FitText → View) (t : FitText) (b : Bool)
    → is_none_left (others_of (state_of view (t ∷ []) (cond b (Some (t, [])) None))) ≡ true
one_left view t true = refl
one_left view t false = refl

more_left : (view : FitText → View) (t u : FitText) (texts : List FitText) (b : Bool)
    (o : Option (FitText × List FitText))
    → is_none_left (others_of (state_of view (t ∷ u ∷ texts) (cond b (Some (t, u ∷ texts)) (beside t o)))) ≡ false
more_left view t u texts true o = refl
more_left view t u texts false None = refl
more_left view t u texts false (Some found) = refl

state_settled : (view : FitText → View) (test : FitText → Bool) (texts : List FitText)
    → is_none_left (others_of (state_of view texts (first_picked test texts))) ≡ is_sole texts
state_settled view test [] = refl
state_settled view test (t ∷ []) = one_left view t (test t)
state_settled view test (t ∷ u ∷ texts) = more_left view t u texts (test t) (first_picked test (u ∷ texts))
    ∙ sym (lt-leb (length (t ∷ u ∷ texts)) 1 (omega arith))

store_settled : (image : Image) (shape : Shape) → is_none_left (others_of (store_at image shape))
    ≡ is_sole (fit_texts shape image)
unfolding store_at
store_settled image shape = state_settled (view_of image shape) (qualifies image shape) (fit_texts shape image)

view_settled : (image : Image) (shape : Shape) (text : FitText)
    → (view_of image shape text).sole ≡ is_sole (fit_texts shape image)
unfolding view_of
view_settled image shape text = refl

-- ---- of a storage of which no text fits

no_text : (view : FitText → View) (texts : List FitText) (o : Option (FitText × List FitText))
    → salvage_of (state_of view texts o) ≡ None
    → state_of view texts o ≡ Corrupt None []
no_text view [] None e = refl
no_text view (t ∷ texts) None e = let some : Some (view t) ≡ None = e in cc
no_text view texts (Some found) e = let some : Some (view found.0) ≡ None = e in cc

none_seen : (image : Image) (shape : Shape) → salvage_of (store_at image shape) ≡ None
    → store_at image shape ≡ Corrupt None []
unfolding store_at
none_seen image shape e = no_text (view_of image shape) (fit_texts shape image)
    (first_picked (qualifies image shape) (fit_texts shape image)) e

-- ---- what is found

module _ (app bank : ℕ) (s : StorageData) where
  findings_as : (opens : Bool) (v : View) (state : State) → OpensOrSalvages opens v state
      → v.sole ≡ is_none_left (others_of state)
      → findings_by app bank s opens v ≡ of_storage app bank s state
  findings_as true v state of sole =
      ap (λ (b : Bool). damaged_by app (Some bank) (Whole s.name) v.lacking
      ++ unless_sole b app (Some bank) (Whole s.name) ++ flat_map (of_element app bank s) v.entries)
      (sole ∙ ap (λ (st : State). is_none_left (others_of st)) of.1)
      ∙ sym (ap (of_storage app bank s) of.1)
  findings_as false v state of sole =
      ap (λ (b : Bool). finding app (Some bank) Lost (Whole s.name) (range_with_len 1 s.n)
      ∷ unless_sole b app (Some bank) (Whole s.name))
      (sole ∙ ap (λ (st : State). is_none_left (others_of st)) of.1)
      ∙ sym (ap (of_storage app bank s) of.1)

  elements_as : (opens : Bool) (v : View) (state : State) → OpensOrSalvages opens v state
      → elements_by app bank s opens v ≡ listed_of app bank s state
  elements_as true v state of = sym (ap (listed_of app bank s) of.1)
  elements_as false v state of = sym (ap (listed_of app bank s) of.1)

  module _ (image : Image) (shape : Shape) where
    pub findings_stand : (found : Option Found) → salvage_of (store_at image shape)
        ≡ option_map (λ (f : Found). f.view) found → IfSome found (IsViewedOn image shape)
        → findings_found app bank s found ≡ of_storage app bank s (store_at image shape)
    findings_stand None salvage viewed = sym (ap (of_storage app bank s) (none_seen image shape salvage))
    findings_stand (Some found) salvage viewed = findings_as found.opens found.view (store_at image shape) viewed.state
        (ap (λ (v : View). v.sole) viewed.view ∙ view_settled image shape (found.seen, found.index)
        ∙ sym (store_settled image shape))

    pub elements_stand : (found : Option Found) → salvage_of (store_at image shape)
        ≡ option_map (λ (f : Found). f.view) found → IfSome found (IsViewedOn image shape)
        → elements_found app bank s found ≡ listed_of app bank s (store_at image shape)
    elements_stand None salvage viewed = sym (ap (listed_of app bank s) (none_seen image shape salvage))
    elements_stand (Some found) salvage viewed = elements_as found.opens found.view (store_at image shape) viewed.state

-- ---- what was added

pub adds_as : (es fs : List Listed) (gs hs : List Finding) (old new : Notes) → es ≡ fs → gs ≡ hs
    → AddsNotes es gs old new
    → AddsNotes fs hs old new
adds_as es fs gs hs old new elements findings adds = record {
  elements_are = adds.elements_are ∙ ap (λ (xs : List Listed). old.elements.items ++ xs) elements;
  findings_are = adds.findings_are ∙ ap (λ (xs : List Finding). old.findings.items ++ xs) findings;
}
