-- A storage of which every copy holds one text, and no other slot holds any.
use Rattle.std.proofs.Common.{◌≡◌, ℕ, zero, suc, ◌+◌, ◌<◌, ◌≤◌, List, [], ◌∷◌, ◌++◌, length, get_or, Bool, true, false}
use Rattle.std.proofs.Common.{cond, Some, refl, sym, ap, ◌∙◌, subst, arith, length-append}
use Rattle.std.specs.Prelude.{map, not, ◌||◌}
use Rattle.std.proofs.lemmas.Bool.{cond-true, cond-false, le-leb}
use Rattle.per_base.specs.declared.elements.Scope.{Scope}
use Rattle.per_base.specs.declared.elements.Entry.{Entry}
use Rattle.per_base.specs.declared.elements.Scope.TheVariants as scope
use Rattle.disk_model.specs.Image.{Image}
use Rattle.disk_model.specs.declared.place.Place.{Place}
use Rattle.guarded_cell.specs.declared.looking.Seen.{Seen}
use Rattle.guarded_cell.specs.Register.{IsAlone}
use Rattle.guarded_cell.specs.Held.{held, holds, copies_that}
use Rattle.guarded_cell.specs.lemmas.CopyLaws.{some_passes}
use Rattle.guarded_cell.specs.lemmas.HeldLaws.{holds_is, is_holds, held_copies, held_all, held_once}
use Rattle.guarded_cell.specs.lemmas.FirstLaws.{held_some}
use Rattle.guarded_cell.specs.lemmas.StopLaws.{alone_only}
use Rattle.index_text.specs.declared.entries.Index.{Index}
use Rattle.element_state.specs.declared.shapes.Shape.{Shape}
use Rattle.element_state.specs.declared.shapes.View.{View}
use Rattle.element_state.specs.Fit.{FitText, fit_index, fit_texts, is_sole}
use Rattle.element_state.specs.Views.{holds_text, supporters, qualifies, entry_view, lacks_one, store_lacking, view_of}
use Rattle.element_state.specs.States.{Opens, store_at, state_of, first_picked, beside, whole_view, lacking_by}

-- ---- copies that pass a test

pub copies_same : (p q : ℕ → Bool) (n : ℕ) → ((c : ℕ) → c < n → p c ≡ q c) → copies_that p n ≡ copies_that q n
copies_same p q zero same = refl
copies_same p q (suc n) same =
    ap (λ xs. xs ++ cond (p n) ((n + 1) ∷ []) []) (copies_same p q n (λ c lt. same c (omega arith)))
    ∙ ap (λ b. copies_that q n ++ cond b ((n + 1) ∷ []) []) (same n (omega arith))

pub no_copies : (p : ℕ → Bool) (n : ℕ) → ((c : ℕ) → c < n → p c ≡ false) → copies_that p n ≡ []
no_copies p zero none = refl
no_copies p (suc n) none =
    ap (λ xs. xs ++ cond (p n) ((n + 1) ∷ []) []) (no_copies p n (λ c lt. none c (omega arith)))
    ∙ cond-false (p n) ((n + 1) ∷ []) [] (none n (omega arith))

pub all_copies : (p : ℕ → Bool) (n : ℕ) → ((c : ℕ) → c < n → p c ≡ true) → length (copies_that p n) ≡ n
all_copies p zero all = refl
all_copies p (suc n) all =
    let rest = all_copies p n (λ c lt. all c (omega arith)) in
    let here : cond (p n) ((n + 1) ∷ []) [] ≡ (n + 1) ∷ [] = cond-true (p n) ((n + 1) ∷ []) [] (all n (omega arith)) in
    let long = length-append (copies_that p n) (cond (p n) ((n + 1) ∷ []) []) in
    let one : length (cond (p n) ((n + 1) ∷ []) []) ≡ 1 = ap length here in
    omega (arith, rest, long, one)

-- ---- the one text that is held

one_of : {X : Type 0} (xs : List X) (d : X) → length xs ≡ 1 → xs ≡ get_or xs 0 d ∷ []
one_of [] d long = absurd (omega (arith, long))
one_of (x ∷ []) d long = refl
one_of (x ∷ y ∷ xs) d long = absurd (omega (arith, long))

module _ (image : Image) (place : Place) (g : ℕ) (text : List ℕ) (some : 1 ≤ place.copies)
    (alone : IsAlone image place g text) where
  -- it is the only one
  is_it : (k : ℕ) (d : Seen) → k < length (held image place)
      → ((get_or (held image place) k d).generation ≡ g) × ((get_or (held image place) k d).text ≡ text)
  is_it k d lt =
      let seen : Seen = get_or (held image place) k d in
      let long : 1 ≤ length seen.copies = held_some image place k d lt in
      let are = held_copies image place k d lt in
      let (c, within, passes) = some_passes (λ c. holds image place c (seen.generation, seen.text)) place.copies
      (subst (λ (cs : List ℕ). 1 ≤ length cs) are long) in
      alone_only image place g text alone c within seen.generation seen.text
      (holds_is image place c (seen.generation, seen.text) passes)

  pub held_of : Seen
  held_of = record {
    generation = g;
    text = text;
    copies = copies_that (λ c. holds image place c (g, text)) place.copies;
  }

  one_held : length (held image place) ≡ 1
  one_held =
      let (k, x, lt, at, is) = held_all image place 0 g text some (alone.held 0 some) in
      let few : length (held image place) < 2 = few_of (length (held image place)) (λ two.
      let d : Seen = record { generation = g; text = text; copies = [] } in
      let a = is_it 0 d (omega (arith, two)) in
      let b = is_it 1 d (omega (arith, two)) in
      held_once image place 0 1 d (omega arith) (omega (arith, two)) (b.0 ∙ sym a.0) (b.1 ∙ sym a.1)) in
      omega (arith, lt, few)
    where
      few_of : (n : ℕ) → (2 ≤ n → ⊥) → n < 2
      few_of zero never = omega arith
      few_of (suc zero) never = omega arith
      few_of (suc (suc n)) never = absurd (never (omega arith))

  pub held_alone : held image place ≡ record {
    generation = g;
    text = text;
    copies =
        copies_that (λ c. holds image place c (g, text)) place.copies;
  } ∷ []
  held_alone =
      let d : Seen = record { generation = g; text = text; copies = [] } in
      let lt : 0 < length (held image place) = omega (arith, one_held) in
      let seen : Seen = get_or (held image place) 0 d in
      let it = is_it 0 d lt in
      let are : seen.copies ≡ copies_that (λ c. holds image place c (seen.generation, seen.text)) place.copies =
      held_copies image place 0 d lt in
      let shown : seen ≡ record {
        generation = g;
        text = text;
        copies =
            copies_that (λ c. holds image place c (g, text)) place.copies;
      } =
      seen_is seen it.0 it.1 are in
      one_of (held image place) d one_held ∙ ap (λ (s : Seen). s ∷ []) shown
    where
      seen_is : (s : Seen) → s.generation ≡ g → s.text ≡ text
          → s.copies ≡ copies_that (λ c. holds image place c (s.generation, s.text)) place.copies
          → s ≡ record {
            generation = g;
            text = text;
            copies = copies_that (λ c. holds image place c (g, text)) place.copies;
          }
      seen_is s a b e =
          let both : copies_that (λ c. holds image place c (s.generation, s.text)) place.copies
          ≡ copies_that (λ c. holds image place c (g, text)) place.copies =
          ap (λ h. copies_that (λ c. holds image place c (h, s.text)) place.copies) a
          ∙ ap (λ t. copies_that (λ c. holds image place c (g, t)) place.copies) b in
          ap (λ (h : ℕ). record { generation = h; text = s.text; copies = s.copies }) a
          ∙ ap (λ (t : List ℕ). record { generation = g; text = t; copies = s.copies }) b
          ∙ ap (λ (cs : List ℕ). record { generation = g; text = text; copies = cs }) (e ∙ both)

  pub all_hold : (c : ℕ) → c < place.copies → holds image place c (g, text) ≡ true
  all_hold c lt = is_holds image place c (g, text) (alone.held c lt)

-- ---- the state

module _ (image : Image) (shape : Shape) (g : ℕ) (text : List ℕ) (index : Index) (some : 1 ≤ shape.place.copies)
    (alone : IsAlone image shape.place g text) (fit : fit_index shape text ≡ Some index) where
  abbrev pub alone_text : FitText
  alone_text = (
    record {
      generation = g;
      text = text;
      copies =
          copies_that (λ c. holds image shape.place c (g, text)) shape.place.copies;
    },
    index,
  )

  pub texts_alone : fit_texts shape image ≡ alone_text ∷ []
  unfolding fit_texts
  texts_alone =
      let seen : Seen = record {
        generation = g;
        text = text;
        copies =
            copies_that (λ c. holds image shape.place c (g, text)) shape.place.copies;
      } in
      rw (held_alone image shape.place g text some alone, fit)

  abbrev viewed : View
  viewed = whole_view shape g (map (entry_view image shape.place shape.m) index.entries)

  lacking_of : (s : Scope) (es : List Entry) → store_lacking s (λ c. not (holds_text image shape.place alone_text c)) es
      shape.place.copies ≡ lacking_by s es shape.place.copies
  lacking_of scope.Element es = no_copies (λ c. not (holds_text image shape.place alone_text c)) shape.place.copies
      (λ c lt. ap not (all_hold image shape.place g text some alone c lt))
  lacking_of scope.Storage es = copies_same (λ c. not (holds_text image shape.place alone_text c)
      || lacks_one es (c + 1)) (λ copy. lacks_one es (copy + 1)) shape.place.copies
      (λ c lt. ap (λ b. not b || lacks_one es (c + 1)) (all_hold image shape.place g text some
      alone c lt))

  view_alone : view_of image shape alone_text ≡ viewed
  unfolding view_of
  view_alone =
      let a = lacking_of shape.scope (map (entry_view image shape.place shape.m) index.entries) in
      let b : is_sole (fit_texts shape image) ≡ true = ap is_sole texts_alone in
      ap (λ (xs : List ℕ). record {
        generation = g;
        lacking = xs;
        sole =
            is_sole (fit_texts shape image);
        entries = map (entry_view image shape.place shape.m) index.entries;
      })
      a
      ∙ ap (λ (s : Bool). record {
        generation = g;
        lacking =
            lacking_by shape.scope (map (entry_view image shape.place shape.m) index.entries) shape.place.copies;
        sole = s;
        entries = map (entry_view image shape.place shape.m) index.entries;
      }) b

  -- the storage opens at the text, and at no other
  pub opens_alone : shape.m ≤ length (supporters shape.scope image shape.place alone_text)
      → store_at image shape ≡ Opens (whole_view shape g (map (entry_view image shape.place shape.m) index.entries)) []
  unfolding store_at
  opens_alone enough =
      let passes : qualifies image shape alone_text ≡ true =
      le-leb shape.m (length (supporters shape.scope image shape.place alone_text)) enough in
      ap (λ (ts : List FitText). state_of (view_of image shape) ts (first_picked (qualifies image shape) ts))
      texts_alone
      ∙ ap (state_of (view_of image shape) (alone_text ∷ []))
      (cond-true (qualifies image shape alone_text) (Some (alone_text, []))
      (beside alone_text (first_picked (qualifies image shape) [])) passes)
      ∙ ap (λ (v : View). Opens v []) view_alone

  -- with element scope every copy supports it
  pub supports_element : length (supporters scope.Element image shape.place alone_text) ≡ shape.place.copies
  supports_element = all_copies (λ c. holds image shape.place c (g, text)) shape.place.copies
      (all_hold image shape.place g text some alone)
