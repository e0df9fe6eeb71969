-- The phase in which an index is written: from a storage that opens.
use Rattle.std.proofs.Common.{◌≡◌, ℕ, ◌+◌, ◌<◌, ◌≤◌, ◌⊎◌, true, false, List, Some, refl, sym, ap, subst, ◌∙◌, inl, inr}
use Rattle.std.proofs.Common.{arith}
use Rattle.std.specs.List.{AllZip}
use Rattle.std.proofs.lemmas.Bool.{cases_Bool}
use Rattle.disk_model.specs.Image.{Image}
use Rattle.disk_model.specs.Damage.{AtLeast, IsUndamaged}
use Rattle.guarded_cell.specs.Register.{Holds}
use Rattle.guarded_cell.specs.lemmas.StopLaws.{at_least_map, at_least_one}
use Rattle.block_files.specs.Aside.{Where}
use Rattle.index_text.specs.declared.entries.Index.{Index}
use Rattle.index_text.specs.declared.entries.IndexEntry.{IndexEntry}
use Rattle.element_state.specs.declared.shapes.Shape.{Shape}
use Rattle.element_state.specs.declared.shapes.View.{View}
use Rattle.element_state.specs.Fit.{FitText, fit_index, fit_texts}
use Rattle.element_state.specs.Views.{qualifies, view_of}
use Rattle.element_state.specs.States.{Opens, store_at}
use Rattle.element_state.specs.Clean.{where_of, IsNamed, IsClean}
use Rattle.element_state.specs.Kept.{HasEnough, CostsNoCopy, Kept}
use Rattle.element_laws.specs.Phases.{OpensAt}
use Rattle.element_laws.specs.lemmas.Lists.{In, some_is, not_false}
use Rattle.element_laws.specs.lemmas.Copies.{CopyGives, AreAlike}
use Rattle.element_laws.specs.lemmas.Fits.{fit_at, In-fit, fit-In, picked_parts}
use Rattle.element_laws.specs.lemmas.Standing.{gift_of, DenotesView, one_fit, generation_of, EachStands}
use Rattle.element_laws.specs.lemmas.Standing.{SparesCopies, Found}
use Rattle.element_laws.specs.lemmas.Standing.{kept_opens}
use Rattle.element_laws.specs.lemmas.Left.{is_whole_at, value_at, named, stands_left, costs_left, enough_left}
use Rattle.element_laws.specs.lemmas.Left.{enough_held}
use Rattle.element_laws.specs.lemmas.Left.{qualifies_left, qualified_held}
use Rattle.element_laws.specs.lemmas.Keeping.{WasHeld}
use Rattle.element_laws.specs.lemmas.Phases.{opens_pick}
use Rattle.element_laws.specs.lemmas.NewText.{EntryStands, new_enough, new_costs, new_qualifies}
use Rattle.element_laws.specs.lemmas.TwoTexts.{two_clean, each_two, stands_new}

-- ---- the text at which a storage opens

module _ (shape : Shape) (start : Image) (g : ℕ) (t : List ℕ) (i : Index) (clean : IsClean shape start)
    (opens : OpensAt shape start g t i) where
  -- it opens at the view of the text, which qualifies
  pub open_at : (others : List View) × (store_at start shape
      ≡ Opens (view_of start shape (fit_at start shape g t i)) others)
      × (qualifies start shape (fit_at start shape g t i) ≡ true)
  open_at =
      let (r, e, is) = opens_pick shape start opens.view opens.others opens.opens in
      let parts = picked_parts (qualifies start shape) (fit_texts shape start) r e in
      let gen : g ≡ r.0.0.generation = sym opens.generation_is ∙ sym (ap (λ (v : View). v.generation) is)
      ∙ generation_of shape start r.0 in
      let same : fit_at start shape g t i ≡ r.0 = one_fit shape start clean (fit_at start shape g t i) r.0
      (fit-In start shape opens.copy g t i opens.inside opens.held opens.fit) (parts.1 r.0 (inl refl)) gen in (
        opens.others,
        opens.opens ∙ ap (λ v. Opens v opens.others) (sym is ∙ ap (view_of start shape) (sym same)),
        subst (λ x. qualifies start shape x ≡ true) (sym same) parts.2,
      )

-- ---- old or new

no_next : (g : ℕ) → g ≡ g + 1 → ⊥
no_next g e = omega (arith, e)

module _ (shape : Shape) (start new : Image) (damaged : List ℕ) (positive : 1 ≤ shape.m) (clean : IsClean shape start)
    (g : ℕ) (t : List ℕ) (i : Index) (opens : OpensAt shape start g t i)
    (next : List ℕ) (index : Index) (view : View) (others : List View)
    (fit : fit_index shape next ≡ Some index) (generation_is : view.generation ≡ g + 1)
    (stand : (copy : ℕ) → copy < shape.place.copies → Holds new shape.place copy (g + 1) next
    → AllZip (EntryStands shape new damaged) index.entries view.entries)
    (texts : (copy h : ℕ) (u : List ℕ) → copy < shape.place.copies → Holds new shape.place copy h u
    → ((h ≡ g) × (u ≡ t)) ⊎ ((h ≡ g + 1) × (u ≡ next)))
    (counted : (at : Where) → (is : IsNamed shape.place new at) → (is.generation ≡ g + 1 → ⊥)
    → IsNamed shape.place start at → (copy : ℕ) (w : List ℕ) → copy < shape.place.copies
    → CopyGives (gift_of new shape at) copy w → CopyGives (gift_of start shape at) copy w
    ⊎ (value_at start shape at ≡ Some w))
    (alike_new : (e : IndexEntry) → In e index.entries → IsNamed shape.place new (where_of e)
    → AreAlike (gift_of new shape (where_of e)) shape.place.copies)
    (whole : (e : IndexEntry) → In e i.entries → (copy : ℕ) (v : List ℕ) → copy < shape.place.copies
    → IsUndamaged damaged shape.place copy
    → is_whole_at start shape copy (where_of e) ≡ true → CopyGives (gift_of start shape (where_of e)) copy v
    → (is_whole_at new shape copy (where_of e) ≡ true) × CopyGives (gift_of new shape (where_of e)) copy v)
    (stays : ((c : ℕ) → c < shape.place.copies → IsUndamaged damaged shape.place c
    → Holds new shape.place c g t)
    ⊎ ((c : ℕ) → c < shape.place.copies → IsUndamaged damaged shape.place c
    → Holds new shape.place c (g + 1) next)) where
  was_held : WasHeld shape start g t
  was_held = record { copy = opens.copy; inside = opens.inside; holds = opens.held }

  old_or_new : (copy h : ℕ) (u : List ℕ) → copy < shape.place.copies → Holds new shape.place copy h u
      → (WasHeld shape start h u × (h ≡ g + 1 → ⊥)) ⊎ ((h ≡ g + 1) × (u ≡ next))
  old_or_new copy h u lt v = elim (texts copy h u lt v) [
    | inl same ↦ inl (
      subst (λ (k : ℕ). WasHeld shape start k u) (sym same.0)
          (subst (λ (x : List ℕ). WasHeld shape start g x) (sym same.1) was_held),
      λ e. omega (arith, e, same.0),
    )
    | inr same ↦ inr same
  ]

  pub opened_clean : IsClean shape new
  opened_clean = two_clean shape start new damaged positive clean (g + 1) next index view others fit generation_is stand
      old_or_new counted alike_new

  abbrev before : View
  before = view_of start shape (fit_at start shape g t i)

  -- the old text, where a copy holds it
  module _ (one : ℕ) (lt : one < shape.place.copies) (v : Holds new shape.place one g t) where
    its_counted : (e : IndexEntry) → In e i.entries → (c : ℕ) (w : List ℕ) → c < shape.place.copies
        → CopyGives (gift_of new shape (where_of e)) c w
        → CopyGives (gift_of start shape (where_of e)) c w ⊎ (value_at start shape (where_of e) ≡ Some w)
    its_counted e k c w ltc gives = counted (where_of e) (named shape new opened_clean one g t i lt v opens.fit e k)
        (λ e. no_next g e)
        (named shape start clean opens.copy g t i opens.inside opens.held opens.fit e k) c w ltc gives

    its_view : DenotesView shape new g i before
    its_view = stands_left shape start new damaged positive clean opens.copy g t i opens.inside opens.held opens.fit
        its_counted

    its_costs : CostsNoCopy shape damaged (view_of new shape (fit_at new shape g t i)) before
    its_costs = costs_left shape start new damaged positive clean opens.copy g t i opens.inside opens.held opens.fit
        its_counted whole

  spares : SparesCopies shape new damaged positive opened_clean before
  spares copy h u j lt v is same = elim (texts copy h u lt v) [
    | inl old ↦
        let one : i ≡ j = some_is i j (sym opens.fit ∙ ap (fit_index shape) (sym old.1) ∙ is) in
        let held = subst (λ (k : ℕ). Holds new shape.place copy k t) old.0
        (subst (λ (x : List ℕ). Holds new shape.place copy h x) old.1 v) in
        let at : fit_at new shape g t i ≡ fit_at new shape h u j =
        λ k. fit_at new shape (sym old.0 k) (sym old.1 k) (one k) in (
          subst (λ (k : ℕ). DenotesView shape new k j before) (sym old.0)
              (subst (λ (k : Index). DenotesView shape new g k before) one (its_view copy lt held)),
          subst (λ y. CostsNoCopy shape damaged (view_of new shape y) before) at (its_costs copy lt held),
        )
    | inr newer ↦ let gen = generation_of shape start (fit_at start shape g t i) in absurd (apart h gen same newer.0)
  ]
    where
      apart : (h : ℕ) → before.generation ≡ g → h ≡ before.generation → h ≡ g + 1 → ⊥
      apart h a b c = omega (arith, a, b, c)

  module _ (passes : qualifies start shape (fit_at start shape g t i) ≡ true)
      (enough : HasEnough shape damaged before.lacking) where
    some_left : AtLeast (λ c. IsUndamaged damaged shape.place c) shape.place.copies shape.m
    some_left = at_least_map (λ c. IsUndamaged damaged shape.place c × Holds start shape.place c g t)
        (λ c. IsUndamaged damaged shape.place c) shape.place.copies shape.m
        (λ c lt both. both.0) (enough_held shape start g t i damaged enough)

    generation_at : (z : FitText) → In z (fit_texts shape new)
        → (z.0.generation ≤ g) ⊎ (fit_at new shape (g + 1) next index ≡ z)
    generation_at z h =
        let w = In-fit new shape z h in
        let gen : w.generation ≡ z.0.generation = ap (λ (x : FitText). x.0.generation) w.is in
        elim (texts w.copy w.generation w.text w.inside w.holds) [
          | inl old ↦ let e = old.0 in inl (omega (arith, e, gen))
          | inr newer ↦
              let one : index ≡ w.index = some_is index w.index (sym fit ∙ ap (fit_index shape) (sym newer.1) ∙ w.fit)
              in
              inr ((λ k. fit_at new shape (sym newer.0 k) (sym newer.1 k) (one k)) ∙ w.is)
        ]

    found_new : qualifies new shape (fit_at new shape (g + 1) next index) ≡ true
        → Found shape new damaged positive opened_clean before (Opens view others)
    found_new is =
        let one = qualified_held shape new (g + 1) next index positive is in
        let all = stand one.0 one.1 one.2 in
        record {
          generation = g + 1;
          text = next;
          index = index;
          there = view;
          copy = one.0;
          inside = one.1;
          holds = one.2;
          fit = fit;
          passes = is;
          most = λ z h q. elim (generation_at z h) [
            | inl le ↦ omega (arith, le)
            | inr at ↦ let e : g + 1 ≡ z.0.generation = ap (λ (x : FitText). x.0.generation) at in omega (arith, e)
          ];
          stands = stands_new shape start new damaged positive clean (g + 1) next index view others fit generation_is
              stand old_or_new counted alike_new one.0 one.1 one.2;
          enough = new_enough shape new damaged (g + 1) next index view all generation_is some_left;
          costs = new_costs shape new damaged (g + 1) next index view all generation_is positive;
          which = inr (
            (λ e. let gen = generation_of shape start (fit_at start shape g t i) in apart e gen),
            others,
            refl,
          );
        }
      where
        apart : view.generation ≡ before.generation → before.generation ≡ g → ⊥
        apart e gen = omega (arith, e, gen, generation_is)

    found_old : qualifies new shape (fit_at new shape (g + 1) next index) ≡ false
        → ((c : ℕ) → c < shape.place.copies → IsUndamaged damaged shape.place c
        → Holds new shape.place c g t)
        → Found shape new damaged positive opened_clean before (Opens view others)
    found_old isnt held =
        let one = at_least_one (λ c. IsUndamaged damaged shape.place c) shape.place.copies shape.m positive
        some_left in
        let v = held one.0 one.1 one.2 in
        record {
          generation = g;
          text = t;
          index = i;
          there = before;
          copy = one.0;
          inside = one.1;
          holds = v;
          fit = opens.fit;
          passes = qualifies_left shape start new damaged positive clean opens.copy g t i opens.inside opens.held
              opens.fit (its_counted one.0 one.1 v) whole enough
              (λ c lt spared was. held c lt spared) passes;
          most = λ z h q. elim (generation_at z h) [
            | inl le ↦ le
            | inr at ↦ absurd (not_false (sym isnt ∙ subst (λ y. qualifies new shape y ≡ true) (sym at) q))
          ];
          stands = its_view one.0 one.1 v;
          enough = enough_left shape start new damaged positive clean opens.copy g t i opens.inside opens.held opens.fit
              (its_counted one.0 one.1 v) whole enough;
          costs = its_costs one.0 one.1 v;
          which = inl refl;
        }

    found : Found shape new damaged positive opened_clean before (Opens view others)
    found = elim (cases_Bool (qualifies new shape (fit_at new shape (g + 1) next index))) [
      | inl is ↦ found_new is
      | inr isnt ↦ elim stays [
        | inl held ↦ found_old isnt held
        | inr held ↦
            let one = at_least_one (λ c. IsUndamaged damaged shape.place c) shape.place.copies shape.m positive
            some_left in
            let all = stand one.0 one.1 (held one.0 one.1 one.2) in
            absurd (not_false (sym isnt ∙ new_qualifies shape new damaged (g + 1) next index view all generation_is held
            some_left))
      ]
    ]

  pub opened_two : Kept shape damaged (store_at new shape) (store_at start shape) (Opens view others)
  opened_two =
      let (rest, is, passes) = open_at shape start g t i clean opens in
      subst (λ s. Kept shape damaged (store_at new shape) s (Opens view others)) (sym is)
      (kept_opens shape new damaged positive opened_clean before rest (Opens view others)
      (subst (λ s. EachStands shape new damaged positive opened_clean s (Opens view others)) is
      (each_two shape start new damaged positive clean (g + 1) next index view others fit generation_is stand
      old_or_new counted alike_new))
      spares (found passes))
