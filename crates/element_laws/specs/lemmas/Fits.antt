-- The texts that fit: which they are, in what order, which of them is picked, and the views of a state.
use Rattle.std.proofs.Common.{◌≡◌, ℕ, ◌<◌, ◌≤◌, ◌⊎◌, Bool, true, false, cond, List, [], ◌∷◌, length, Option, Some, None}
use Rattle.std.proofs.Common.{refl, sym, ap, subst, ◌∙◌, inl, inr, arith}
use Rattle.std.specs.Prelude.{map, filter_map, ⊤}
use Rattle.std.specs.List.{Contains, cons_option}
use Rattle.std.proofs.lemmas.List.Elements.{All-contains}
use Rattle.disk_model.specs.Image.{Image}
use Rattle.guarded_cell.specs.declared.looking.Seen.{Seen}
use Rattle.guarded_cell.specs.Register.{Holds}
use Rattle.guarded_cell.specs.Held.{held, holds, copies_that}
use Rattle.guarded_cell.specs.lemmas.HeldLaws.{holds_is, held_in_order}
use Rattle.guarded_cell.specs.lemmas.SeenLaws.{IsAhead, IsInOrder, text_of}
use Rattle.guarded_cell.specs.lemmas.CopyLaws.{some_passes}
use Rattle.guarded_cell.specs.lemmas.ShownLaws.{held_shows}
use Rattle.index_text.specs.declared.entries.Index.{Index}
use Rattle.index_text.specs.Sizes.{fits}
use Rattle.index_text.specs.Reading.{index_of}
use Rattle.element_state.specs.declared.shapes.Shape.{Shape}
use Rattle.element_state.specs.declared.shapes.View.{View}
use Rattle.element_state.specs.Fit.{FitText, fit_index, fit_texts, if_fits, with_index}
use Rattle.element_state.specs.States.{beside, first_picked, corrupt_state, state_of}
use Rattle.element_state.specs.Kept.{all_views}
use Rattle.element_laws.specs.lemmas.Lists.{In, In-Contains, Contains-In, not_none, some_is, not_false, In-map, map-In}
use Rattle.element_laws.specs.lemmas.Lists.{In-filter_map, filter_map-In}

-- a text with the copies that hold it
abbrev pub seen_at : Image → Shape → ℕ → List ℕ → Seen
seen_at image shape g t = record {
  generation = g;
  text = t;
  copies =
      copies_that (λ copy. holds image shape.place copy (g, t)) shape.place.copies;
}

abbrev pub fit_at : Image → Shape → ℕ → List ℕ → Index → FitText
fit_at image shape g t i = (seen_at image shape g t, i)

with_index-is : (s : Seen) (o : Option Index) (y : FitText) → with_index s o ≡ Some y
    → (i : Index) × (o ≡ Some i) × ((s, i) ≡ y)
with_index-is s None y e = absurd (not_none y (sym e))
with_index-is s (Some i) y e = (i, refl, some_is (s, i) y e)

-- what stands among the texts that fit is held by a copy, with its index
pub record IsHeldFit (image : Image) (shape : Shape) (y : FitText) : Type 0 where
  pub generation : ℕ
  pub text : List ℕ
  pub index : Index
  pub copy : ℕ
  pub inside : copy < shape.place.copies
  pub holds : Holds image shape.place copy generation text
  pub fit : fit_index shape text ≡ Some index
  pub is : fit_at image shape generation text index ≡ y

pub In-fit : (image : Image) (shape : Shape) (y : FitText) → In y (fit_texts shape image) → IsHeldFit image shape y
unfolding fit_texts
In-fit image shape y h =
    let place = shape.place in
    let copies = shape.place.copies in
    let r = In-filter_map (λ (s : Seen). with_index s (fit_index shape s.text)) y (held image place) h in
    let seen : Seen = r.0 in
    let there = In-Contains seen (held image place) r.1 in
    let w = with_index-is seen (fit_index shape seen.text) y r.2 in
    let shows = held_shows image place in
    let are = All-contains (λ (s : Seen). s.copies ≡ copies_that (λ copy. holds image place copy (s.generation, s.text))
    place.copies) (held image place) seen shows.copies_are there in
    let some = All-contains (λ (s : Seen). 1 ≤ length s.copies) (held image place) seen shows.some there in
    let p = some_passes (λ copy. holds image place copy (seen.generation, seen.text)) place.copies
    (subst (λ (cs : List ℕ). 1 ≤ length cs) are some) in
    record {
      generation = seen.generation;
      text = seen.text;
      index = w.0;
      copy = p.0;
      inside = p.1;
      holds = holds_is image place p.0 (seen.generation, seen.text) p.2;
      fit = w.1;
      is = (λ j. (record { generation = seen.generation; text = seen.text; copies = sym are j }, w.0)) ∙ w.2;
    }

pub fit-In : (image : Image) (shape : Shape) (copy g : ℕ) (t : List ℕ) (i : Index) → copy < shape.place.copies
    → Holds image shape.place copy g t
    → fit_index shape t ≡ Some i → In (fit_at image shape g t i) (fit_texts shape image)
unfolding fit_texts
fit-In image shape copy g t i lt v e =
    let place = shape.place in
    let copies = shape.place.copies in
    let shows = held_shows image place in
    let any = shows.every copy g t lt v in
    let seen : Seen = any.1 in
    let there : Contains (held image place) seen = (any.0, any.2, any.3) in
    let are = All-contains (λ (s : Seen). s.copies ≡ copies_that (λ copy. holds image place copy (s.generation, s.text))
    place.copies) (held image place) seen shows.copies_are there in
    let gen = any.4.0 in
    let text = any.4.1 in
    let same : seen ≡ seen_at image shape g t =
    (λ j. record { generation = seen.generation; text = seen.text; copies = are j })
    ∙ (λ j. record {
      generation = gen j;
      text = text j;
      copies =
          copies_that (λ copy. holds image place copy (gen j, text j)) place.copies;
    }) in
    filter_map-In (λ (s : Seen). with_index s (fit_index shape s.text)) (seen_at image shape g t)
    (fit_at image shape g t i) (held image place)
    (subst (λ (s : Seen). In s (held image place)) same (Contains-In seen (held image place) there))
    (ap (with_index (seen_at image shape g t)) e)

if_fits-is : (shape : Shape) (o : Option Index) (i : Index) → if_fits shape o ≡ Some i → o ≡ Some i
if_fits-is shape None i e = absurd (not_none i (sym e))
if_fits-is shape (Some j) i e = elim (fits shape.kind shape.allowed j) as
    (λ b. cond b (Some j) None ≡ Some i → Some j ≡ Some i) [ true ↦ λ e. e | false ↦ λ e. absurd (not_none i (sym e)) ]
    e

-- a text that fits spells its index
pub fit-spelled : (shape : Shape) (text : List ℕ) (i : Index) → fit_index shape text ≡ Some i → index_of text ≡ Some i
unfolding fit_index
fit-spelled shape text i e = if_fits-is shape (index_of text) i e

-- ---- the views of a state are those of its texts

keep_some : {A : Type 0} (x : A) (o : Option (A × List A)) (r : A × List A) → beside x o ≡ Some r
    → (s : A × List A) × (o ≡ Some s) × (r ≡ (s.0, x ∷ s.1))
keep_some x None r e = absurd (not_none r (sym e))
keep_some x (Some s) r e = (s, refl, sym (some_is (s.0, x ∷ s.1) r e))

-- picking an item leaves the others, and the item passes
pub picked_parts : {A : Type 0} (q : A → Bool) (xs : List A) (r : A × List A) → first_picked q xs ≡ Some r
    → ((z : A) → In z xs → (r.0 ≡ z) ⊎ In z r.1) × ((z : A) → (r.0 ≡ z) ⊎ In z r.1 → In z xs) × (q r.0 ≡ true)
picked_parts q [] r e = absurd (not_none r (sym e))
picked_parts {A} q (x ∷ xs) r e = elim (q x) as (λ b. q x ≡ b → cond b (Some (x, xs)) (beside x (first_picked q xs))
    ≡ Some r
    → ((z : A) → In z (x ∷ xs) → (r.0 ≡ z) ⊎ In z r.1) × ((z : A) → (r.0 ≡ z) ⊎ In z r.1 → In z (x ∷ xs))
    × (q r.0 ≡ true)) [
      | true ↦ λ is e. let same = some_is (x, xs) r e in
          subst (λ (r : A × List A). ((z : A) → In z (x ∷ xs) → (r.0 ≡ z) ⊎ In z r.1)
          × ((z : A) → (r.0 ≡ z) ⊎ In z r.1 → In z (x ∷ xs)) × (q r.0 ≡ true)) same (λ z h. h, λ z h. h, is)
      | false ↦ λ is e.
          let k = keep_some x (first_picked q xs) r e in
          let p = picked_parts q xs k.0 k.1 in
          subst (λ (r : A × List A). ((z : A) → In z (x ∷ xs) → (r.0 ≡ z) ⊎ In z r.1)
          × ((z : A) → (r.0 ≡ z) ⊎ In z r.1 → In z (x ∷ xs)) × (q r.0 ≡ true)) (sym k.2) (
            λ z h. elim h [ inl a ↦ inr (inl a) | inr l ↦ elim (p.0 z l) [ inl a ↦ inl a | inr b ↦ inr (inr b) ] ],
            λ z h. elim h [
              | inl a ↦ inr (p.1 z (inl a))
              | inr l ↦
                  elim l [ inl a ↦ inl a | inr b ↦ inr (p.1 z (inr b)) ]
            ],
            p.2,
          )
    ] refl e

module _ (view : FitText → View) where
  corrupt_views : (w : View) (vs : List View) → In w (all_views (corrupt_state vs)) → In w vs
  corrupt_views w [] h = h
  corrupt_views w (v ∷ vs) h = h

  views_corrupt : (w : View) (vs : List View) → In w vs → In w (all_views (corrupt_state vs))
  views_corrupt w [] h = h
  views_corrupt w (v ∷ vs) h = h

  pub In-views : (q : FitText → Bool) (xs : List FitText) (w : View) (o : Option (FitText × List FitText))
      → first_picked q xs ≡ o
      → In w (all_views (state_of view xs o)) → (x : FitText) × In x xs × (view x ≡ w)
  In-views q xs w None e h = In-map view w xs (corrupt_views w (map view xs) h)
  In-views q xs w (Some r) e h =
      let p = picked_parts q xs r e in
      elim h [
        | inl same ↦ (r.0, p.1 r.0 (inl refl), same)
        | inr k ↦ let s = In-map view w r.1 k in (s.0, p.1 s.0 (inr s.1), s.2)
      ]

  pub views-In : (q : FitText → Bool) (xs : List FitText) (x : FitText) (o : Option (FitText × List FitText))
      → first_picked q xs ≡ o
      → In x xs → In (view x) (all_views (state_of view xs o))
  views-In q xs x None e h = views_corrupt (view x) (map view xs) (map-In view x xs h)
  views-In q xs x (Some r) e h = let p = picked_parts q xs r e in
      elim (p.0 x h) [ inl same ↦ inl (ap view same) | inr k ↦ inr (map-In view x r.1 k) ]

-- ---- the order of the texts that fit, and what is picked

abbrev pub GBelow : ℕ → List FitText → Type 0
GBelow n [] = ⊤
GBelow n (x ∷ xs) = (x.0.generation ≤ n) × GBelow n xs

abbrev pub GDescends : List FitText → Type 0
GDescends [] = ⊤
GDescends (x ∷ xs) = GBelow x.0.generation xs × GDescends xs

module _ (shape : Shape) where
  abbrev fit_of : Seen → Option FitText
  fit_of s = with_index s (fit_index shape s.text)

  below_fit : (n : ℕ) (u : ℕ × List ℕ) (xs : List Seen) → u.0 ≡ n → IsAhead u xs → GBelow n (filter_map fit_of xs)
  below_fit n u [] e h = tt
  below_fit n u (s ∷ xs) e h = elim (fit_index shape s.text) as
      (λ o. GBelow n (cons_option (with_index s o) (filter_map fit_of xs))) [
        | None ↦ below_fit n u xs e h.2
        | Some i ↦ (let le = h.0 in omega (arith, le, e), below_fit n u xs e h.2)
      ]

  descends_fit : (xs : List Seen) → IsInOrder xs → GDescends (filter_map fit_of xs)
  descends_fit [] h = tt
  descends_fit (s ∷ xs) h = elim (fit_index shape s.text) as
      (λ o. GDescends (cons_option (with_index s o) (filter_map fit_of xs))) [
        | None ↦ descends_fit xs h.1
        | Some i ↦ (below_fit s.generation (text_of s) xs refl h.0, descends_fit xs h.1)
      ]

pub fit_descends : (image : Image) (shape : Shape) → GDescends (fit_texts shape image)
unfolding fit_texts
fit_descends image shape = descends_fit shape (held image shape.place)
    (held_in_order image shape.place shape.place.copies)

below_In : (n : ℕ) (xs : List FitText) (z : FitText) → GBelow n xs → In z xs → z.0.generation ≤ n
below_In n [] z h k = absurd k
below_In n (x ∷ xs) z h (inl e) = subst (λ (y : FitText). y.0.generation ≤ n) e h.0
below_In n (x ∷ xs) z h (inr k) = below_In n xs z h.1 k

-- nothing that passes stands above what is picked
pub picked_max : (q : FitText → Bool) (xs : List FitText) (r : FitText × List FitText) → GDescends xs
    → first_picked q xs ≡ Some r
    → (z : FitText) → In z xs → q z ≡ true → z.0.generation ≤ r.0.0.generation
picked_max q [] r g e z h is = absurd h
picked_max q (x ∷ xs) r g e z h is = elim (q x) as (λ b. q x ≡ b
    → cond b (Some (x, xs)) (beside x (first_picked q xs)) ≡ Some r → z.0.generation ≤ r.0.0.generation) [
      | true ↦ λ now e. let same : x ≡ r.0 = ap (λ (s : FitText × List FitText). s.0) (some_is (x, xs) r e) in
          subst (λ (y : FitText). z.0.generation ≤ y.0.generation) same
          (elim h [
            | inl a ↦ subst (λ (y : FitText). y.0.generation ≤ x.0.generation) a (omega arith)
            | inr k ↦
                below_In x.0.generation xs z g.0 k
          ])
      | false ↦ λ now e.
          let k = keep_some x (first_picked q xs) r e in
          let same : k.0.0 ≡ r.0 = ap (λ (s : FitText × List FitText). s.0) (sym k.2) in
          subst (λ (y : FitText). z.0.generation ≤ y.0.generation) same
          (picked_max q xs k.0 g.1 k.1 z (elim h [
            | inl a ↦ absurd
                (not_false (sym now ∙ subst (λ y. q y ≡ true) (sym a) is))
            | inr l ↦ l
          ]) is)
    ] refl e

-- what passes and has the greatest generation of all that pass is picked
pub pick_greatest : (q : FitText → Bool) (xs : List FitText) (y : FitText) → GDescends xs → In y xs → q y ≡ true
    → ((z : FitText) → In z xs → q z ≡ true → z.0.generation ≤ y.0.generation)
    → ((z : FitText) → In z xs → z.0.generation ≡ y.0.generation → z ≡ y)
    → (r : FitText × List FitText) × (first_picked q xs ≡ Some r) × (r.0 ≡ y)
pick_greatest q [] y g h is most one = absurd h
pick_greatest q (x ∷ xs) y g h is most one = elim (q x) as
    (λ b. q x ≡ b → (r : FitText × List FitText) × (cond b (Some (x, xs)) (beside x (first_picked q xs)) ≡ Some r)
    × (r.0 ≡ y)) [
      | true ↦ λ now.
          let low : x.0.generation ≤ y.0.generation = most x (inl refl) now in
          let high : y.0.generation ≤ x.0.generation = elim h [
            | inl a ↦ subst (λ (z : FitText). z.0.generation ≤ x.0.generation) a (omega arith)
            | inr k ↦
                below_In x.0.generation xs y g.0 k
          ] in
          ((x, xs), refl, one x (inl refl) (omega (arith, low, high)))
      | false ↦ λ now.
          let k : In y xs = elim h [
            | inl a ↦ absurd (not_false (sym now ∙ subst (λ z. q z ≡ true) (sym a) is))
            | inr l ↦
                l
          ]
          in
          let r = pick_greatest q xs y g.1 k is (λ z l. most z (inr l)) (λ z l. one z (inr l)) in
          ((r.0.0, x ∷ r.0.1), ap (beside x) r.1, r.2)
    ] refl

pub nothing_beside : {A : Type 0} (x : A) (o : Option (A × List A)) → beside x o ≡ None → o ≡ None
nothing_beside x None e = refl
nothing_beside x (Some r) e = absurd (not_none (r.0, x ∷ r.1) e)

pub none_passes : (q : FitText → Bool) (xs : List FitText) (z : FitText) → first_picked q xs ≡ None → In z xs → q z
    ≡ true → ⊥
none_passes q [] z e h is = h
none_passes q (x ∷ xs) z e h is = elim (q x) as (λ b. q x ≡ b → cond b (Some (x, xs)) (beside x (first_picked q xs))
    ≡ None
    → ⊥) [
      | true ↦ λ now e. not_none (x, xs) e
      | false ↦ λ now e. none_passes q xs z (nothing_beside x (first_picked q xs) e)
          (elim h [ inl a ↦ absurd (not_false (sym now ∙ subst (λ z. q z ≡ true) (sym a) is)) | inr l ↦ l ]) is
    ] refl e
