-- The first that passes a test, and the texts that fit among those that are held.
use Rattle.std.proofs.Common.{◌≡◌, ℕ, zero, suc, ◌+◌, ◌<◌, ◌≤◌, not, List, [], ◌∷◌, ◌++◌, length, get_or, take, map}
use Rattle.std.proofs.Common.{Bool, true, false, cond, Option, Some, None, All, find, refl, sym, ap, ◌∙◌, subst, arith}
use Rattle.std.proofs.Common.{IfSome, Vec, Global}
use Rattle.std.specs.List.{AllByRecursion, AllZip, cons_option}
use Rattle.std.specs.Option.{option_map}
use Rattle.std.proofs.lemmas.Bool.{cond-true, cond-false}
use Rattle.std.proofs.lemmas.List.{take_more}
use Rattle.disk_model.specs.Image.{Image}
use Rattle.guarded_cell.specs.declared.looking.Seen.{Seen}
use Rattle.guarded_cell.specs.declared.slots.Slots.{Slots}
use Rattle.guarded_cell.specs.Held.{held, holds, copies_that}
use Rattle.guarded_cell.specs.Slots.{IsSlotsOf}
use Rattle.guarded_cell.specs.lemmas.ShownLaws.{held_shows}
use Rattle.index_text.specs.declared.entries.Index.{Index}
use Rattle.sha2.specs.declared.Sha256.{Sha256}
use Rattle.element_state.specs.declared.reading.ReadEntries.{ReadEntries}
use Rattle.element_state.specs.declared.shapes.Shape.{Shape}
use Rattle.element_state.specs.declared.shapes.View.{View}
use Rattle.element_state.specs.declared.surveying.Found.{Found}
use Rattle.element_state.specs.Fit.{FitText, fit_index, with_index, fit_among, fit_texts, is_sole}
use Rattle.element_state.specs.Views.{qualifies, view_of, entries_seen}
use Rattle.element_state.specs.States.{State, Corrupt, store_at, salvage_of, state_of, first_picked, beside}
use Rattle.element_state.specs.Chosen.{chosen, or_first, first_fit, opened_of, IsFit, IsReadBy}
use Rattle.element_state.specs.Surveys.{IsFoundView, IsHeldOn, OpensOrSalvages, IsViewedOn, opened_view, opened_if}
use Rattle.element_state.specs.Surveys.{AreOfEntry, HasStates, found_text, view_by}
use Rattle.element_state.specs.lemmas.Entrywise.{all_at}
use Rattle.element_state.proofs.Viewing.{view_is}
use Rattle.element_state.specs.lemmas.ViewsRead.{AreNumbers, view_read, lacking_are}
use Rattle.disk_model.specs.Orders.{named_in}
use Rattle.disk_model.specs.declared.place.Place.{Place}
use Rattle.per_base.specs.declared.elements.Entry.{Entry}

-- ---- the first that passes

find_push : {A : Type 0} (test : A → Bool) (ys : List A) (y : A) → find test ys ≡ None → test y ≡ false
    → find test (ys ++ y ∷ []) ≡ None
find_push test [] y none fails = cond-false (test y) (Some y) None fails
find_push {A} test (z ∷ ys) y none fails = step (test z) none (find_push test ys y)
  where
    step : (b : Bool) → cond b (Some z) (find test ys) ≡ None
        → (find test ys ≡ None → test y ≡ false → find test (ys ++ y ∷ []) ≡ None)
        → cond b (Some z) (find test (ys ++ y ∷ [])) ≡ None
    step true none rest = let found : Some z ≡ None = none in cc
    step false none rest = rest none fails

pub none_more : {A : Type 0} (test : A → Bool) (xs : List A) (i : ℕ) (d : A) → i < length xs
    → find test (take i xs) ≡ None → test (get_or xs i d) ≡ false
    → find test (take (i + 1) xs) ≡ None
none_more test xs i d lt none fails = ap (find test) (take_more xs i d lt)
    ∙ find_push test (take i xs) (get_or xs i d) none fails

later_found : {A : Type 0} (b : Bool) (x y : A) (o p : Option A) → cond b (Some x) o ≡ None → (o ≡ None → p ≡ Some y)
    → cond b (Some x) p ≡ Some y
later_found true x y o p none rest = let found : Some x ≡ None = none in cc
later_found false x y o p none rest = rest none

pub found_at : {A : Type 0} (test : A → Bool) (xs : List A) (i : ℕ) (d : A) → i < length xs
    → find test (take i xs) ≡ None → test (get_or xs i d) ≡ true
    → find test xs ≡ Some (get_or xs i d)
found_at test [] i d lt none passes = absurd (omega (arith, lt))
found_at test (x ∷ xs) zero d lt none passes = cond-true (test x) (Some x) (find test xs) passes
found_at test (x ∷ xs) (suc i) d lt none passes =
    later_found (test x) x (get_or xs i d) (find test (take i xs)) (find test xs) none
    (λ before. found_at test xs i d (omega (arith, lt)) before passes)

abbrev pub first_option : {A : Type 0} → Option (A × List A) → Option A
first_option None = None
first_option (Some p) = Some p.0

first_beside : {A : Type 0} (x : A) (o : Option (A × List A)) → first_option (beside x o) ≡ first_option o
first_beside x None = refl
first_beside x (Some p) = refl

picked_step : {A : Type 0} (b : Bool) (x : A) (xs : List A) (o : Option (A × List A)) (p : Option A)
    → first_option o ≡ p
    → first_option (cond b (Some (x, xs)) (beside x o)) ≡ cond b (Some x) p
picked_step true x xs o p e = refl
picked_step false x xs o p e = first_beside x o ∙ e

-- the one that is picked is the first that passes
pub picked_first : {A : Type 0} (test : A → Bool) (xs : List A) → first_option (first_picked test xs) ≡ find test xs
picked_first test [] = refl
picked_first test (x ∷ xs) = picked_step (test x) x xs (first_picked test xs) (find test xs) (picked_first test xs)

-- ---- what holds of all texts is so of those that fit

pub all_rec : {A : Type 0} (P : A → Type 0) (xs : List A) → All P xs → AllByRecursion P xs
all_rec P [] all = tt
all_rec P (x ∷ xs) all = (all 0 x (omega arith), all_rec P xs (λ k d lt. all (suc k) d (omega (arith, lt))))

fit_step : (shape : Shape) (P : Seen → Type 0) (s : Seen) (o : Option Index) (rest : List FitText) → P s
    → AllByRecursion (λ (t : FitText). P t.0) rest
    → AllByRecursion (λ (t : FitText). P t.0) (cons_option (with_index s o) rest)
fit_step shape P s None rest here all = all
fit_step shape P s (Some i) rest here all = (here, all)

pub fit_all : (shape : Shape) (P : Seen → Type 0) (seens : List Seen) → AllByRecursion P seens
    → AllByRecursion (λ (t : FitText). P t.0) (fit_among shape seens)
fit_all shape P [] all = tt
fit_all shape P (s ∷ seens) all = fit_step shape P s (fit_index shape s.text) (fit_among shape seens) all.0
    (fit_all shape P seens all.1)

pub fit_texts_among : (shape : Shape) (image : Image) (seens : List Seen)
    → seens ≡ held image shape.place
    → fit_among shape seens ≡ fit_texts shape image
unfolding fit_texts
fit_texts_among shape image seens e = ap (fit_among shape) e

pub fit_held : (shape : Shape) (image : Image) → AllByRecursion (IsHeldOn image shape) (fit_texts shape image)
unfolding fit_texts
fit_held shape image =
    let seens = held image shape.place in
    let P : Seen → Type 0 = λ s. s.copies ≡ copies_that (λ copy.
    holds image shape.place copy (s.generation, s.text)) shape.place.copies in
    fit_all shape P seens (all_rec P seens (held_shows image shape.place).copies_are)

pub both_all : {A : Type 0} (P Q R : A → Type 0) → ((x : A) → P x → Q x → R x) → (xs : List A) → AllByRecursion P xs
    → AllByRecursion Q xs → AllByRecursion R xs
both_all P Q R join [] p q = tt
both_all P Q R join (x ∷ xs) p q = (join x p.0 q.0, both_all P Q R join xs p.1 q.1)

-- ---- which text is chosen

module _ (image : Image) (shape : Shape) (texts : List FitText) (are : texts ≡ fit_texts shape image) where
  pub chosen_by : (o : Option FitText) → find (qualifies image shape) texts ≡ o → chosen image shape ≡ or_first texts o
  unfolding chosen
  chosen_by o e = sym (ap (λ ts. or_first ts (find (qualifies image shape) ts)) are) ∙ ap (or_first texts) e

  pub chosen_first : (d : FitText) → find (qualifies image shape) texts ≡ None → 0 < length texts
      → chosen image shape ≡ Some (false, get_or texts 0 d)
  chosen_first d none some = chosen_by None none ∙ first_is texts d some
    where
      first_is : (ts : List FitText) (d : FitText) → 0 < length ts → first_fit ts ≡ Some (false, get_or ts 0 d)
      first_is [] d some = absurd (omega (arith, some))
      first_is (t ∷ ts) d some = refl

  pub chosen_none : find (qualifies image shape) texts ≡ None → texts ≡ [] → chosen image shape ≡ None
  chosen_none none empty = chosen_by None none ∙ ap first_fit empty

-- ---- the state, by the text that is chosen

abbrev pub Matches : (FitText → View) → Option (Bool × FitText) → State → Type 0
Matches view None state = state ≡ Corrupt None []
Matches view (Some c) state = OpensOrSalvages c.0 (view c.1) state

state_matches : (view : FitText → View) (texts : List FitText) (o : Option (FitText × List FitText))
    → Matches view (or_first texts (first_option o)) (state_of view texts o)
state_matches view [] None = refl
state_matches view (t ∷ texts) None = (map view texts, refl)
state_matches view texts (Some p) = (map view p.1, refl)

pub chosen_matches : (image : Image) (shape : Shape) → Matches (view_of image shape) (chosen image shape)
    (store_at image shape)
unfolding chosen store_at
chosen_matches image shape =
    let texts = fit_texts shape image in
    let test = qualifies image shape in
    subst (λ (o : Option FitText). Matches (view_of image shape) (or_first texts o)
    (state_of (view_of image shape) texts (first_picked test texts)))
    (picked_first test texts) (state_matches (view_of image shape) texts (first_picked test texts))

of_opened : (b : Bool) (v : View) (s : State) → OpensOrSalvages b v s → opened_of s ≡ opened_if b v
of_opened true v s is = ap opened_of is.1
of_opened false v s is = ap opened_of is.1

of_salvage : (b : Bool) (v : View) (s : State) → OpensOrSalvages b v s → salvage_of s ≡ Some v
of_salvage true v s is = ap salvage_of is.1
of_salvage false v s is = ap salvage_of is.1

module _ (image : Image) (shape : Shape) where
  none_corrupt : None ≡ chosen image shape → store_at image shape ≡ Corrupt None []
  none_corrupt e = subst (λ (c : Option (Bool × FitText)). Matches (view_of image shape) c (store_at image shape))
      (sym e) (chosen_matches image shape)

  pub survey_opened : (found : Option Found) → option_map found_text found ≡ chosen image shape
      → IfSome found (IsViewedOn image shape)
      → opened_of (store_at image shape) ≡ opened_view found
  survey_opened None e viewed = ap opened_of (none_corrupt e)
  survey_opened (Some f) e viewed = of_opened f.opens f.view (store_at image shape) viewed.state

  pub survey_salvaged : (found : Option Found) → option_map found_text found ≡ chosen image shape
      → IfSome found (IsViewedOn image shape)
      → salvage_of (store_at image shape) ≡ option_map (λ (f : Found). f.view) found
  survey_salvaged None e viewed = ap salvage_of (none_corrupt e)
  survey_salvaged (Some f) e viewed = of_salvage f.opens f.view (store_at image shape) viewed.state

-- ---- what is handed up

pub found_chosen : (f : Found) (b : Bool) (t : FitText) → f.opens ≡ b → (f.seen, f.index) ≡ t
    → Some (found_text f) ≡ Some (b, t)
found_chosen f b t eo et =
    ap (λ (o : Bool). let p : Bool × FitText = (o, (f.seen, f.index)) in Some p) eo
    ∙ ap (λ (x : FitText). let p : Bool × FitText = (b, x) in Some p) et

module _ (shape : Shape) (texts : List FitText) (f : Found) (at : ℕ) (sole : Bool) (entries : List Entry)
    (lt : at < length texts)
    (text : (f.seen, f.index) ≡ get_or texts at (f.seen, f.index))
    (view : f.view ≡ view_by shape f.seen sole entries) where
  pub found_read : AllByRecursion (IsFit shape) texts → AllZip (IsReadBy shape.place.copies)
      (get_or texts at (f.seen, f.index)).1.entries entries → IsFoundView shape f
  found_read fit read =
      let is = subst (IsFit shape) (sym text) (all_at (IsFit shape) texts at (f.seen, f.index) fit lt) in
      let rows = subst (λ (es : List Entry). AllZip (IsReadBy shape.place.copies) f.index.entries es)
      (sym (ap (λ (v : View). v.entries) view))
      (subst (λ (t : FitText). AllZip (IsReadBy shape.place.copies) t.1.entries entries) (sym text) read) in
      let lacks = subst (AreNumbers shape.place.copies) (sym (ap (λ (v : View). v.lacking) view))
      (lacking_are shape (λ copy. not (named_in f.seen.copies (copy + 1))) entries) in
      let positive = subst (λ (n : ℕ). 1 ≤ n) (sym (ap (λ (v : View). v.generation) view)) is.sealable.positive in
      record {
        text = is;
        generation = ap (λ (v : View). v.generation) view;
        entries = rows;
        read = view_read shape f.index f.view is.index.rules is.index.fits rows positive lacks;
      }

  pub found_viewed : (image : Image) → texts ≡ fit_texts shape image → AllByRecursion (IsHeldOn image shape) texts
      → sole ≡ is_sole texts
      → entries ≡ entries_seen image shape (f.seen, f.index) → Some (found_text f) ≡ chosen image shape
      → IsViewedOn image shape f
  found_viewed image are held settles reads chose =
      let here = subst (IsHeldOn image shape) (sym text) (all_at (IsHeldOn image shape) texts at (f.seen, f.index) held
      lt) in
      let is = view ∙ view_is image shape f.seen f.index sole entries here (settles ∙ ap is_sole are) reads in
      record {
        view = is;
        copies = here;
        state = subst (λ (v : View). OpensOrSalvages f.opens v (store_at image shape)) (sym is)
            (subst (λ (c : Option (Bool × FitText)). Matches (view_of image shape) c (store_at image shape)) (sym chose)
            (chosen_matches image shape));
      }

-- the flags of the look
pub found_slots : (image : Image) (place : Place) (slots : Slots) (found : Option Found)
    → IfSome found (λ f. f.slots ≡ slots) → IsSlotsOf image place slots
    → IfSome found (λ f. IsSlotsOf image place f.slots)
found_slots image place slots None same are = tt
found_slots image place slots (Some f) same are = subst (IsSlotsOf image place) (sym same) are

-- its states
pub found_states : (shape : Shape) (f : Found) (r : ReadEntries) (sole : Bool)
    → f.view ≡ view_by shape f.seen sole r.entries → f.states ≡ r.states
    → AllZip AreOfEntry r.entries r.states.items → HasStates f
found_states shape f r sole view states all =
    subst (λ (v : View). AllZip AreOfEntry v.entries f.states.items) (sym view)
    (subst (λ (ss : Vec (Vec Sha256 Global) Global). AllZip AreOfEntry r.entries ss.items) (sym states) all)
