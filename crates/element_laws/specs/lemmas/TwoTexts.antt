-- An image on which copies hold texts of before, and one new text.
use Rattle.std.proofs.Common.{◌≡◌, ℕ, ◌<◌, ◌≤◌, ◌⊎◌, true, false, List, [], ◌∷◌, Option, Some, None, refl, sym, ap}
use Rattle.std.proofs.Common.{subst, ◌∙◌, inl, inr, arith}
use Rattle.std.specs.Prelude.{length, map, nat_le}
use Rattle.std.proofs.lemmas.Bool.{leb-true}
use Rattle.per_base.specs.declared.elements.Scope.{Scope}
use Rattle.per_base.specs.declared.elements.Scope.TheVariants as scope
use Rattle.per_base.specs.declared.elements.Content.{Content}
use Rattle.per_base.specs.declared.elements.Content.TheVariants.{Good}
use Rattle.per_base.specs.declared.elements.Entry.{Entry}
use Rattle.disk_model.specs.Damage.{AtLeast, IsUndamaged}
use Rattle.guarded_cell.specs.lemmas.CopyLaws.{enough_pass}
use Rattle.guarded_cell.specs.lemmas.StopLaws.{at_least_map}
use Rattle.std.specs.List.{AllZip}
use Rattle.disk_model.specs.Image.{Image}
use Rattle.guarded_cell.specs.Register.{Holds}
use Rattle.guarded_cell.specs.Stops.{KeepsText}
use Rattle.block_files.specs.Aside.{Where}
use Rattle.index_text.specs.declared.entries.Index.{Index}
use Rattle.index_text.specs.declared.entries.IndexEntry.{IndexEntry}
use Rattle.index_text.specs.Reading.{index_of}
use Rattle.element_state.specs.declared.shapes.Shape.{Shape}
use Rattle.element_state.specs.declared.shapes.View.{View}
use Rattle.element_state.specs.Fit.{FitText, fit_index, fit_texts}
use Rattle.element_state.specs.Views.{holds_all, supporters, qualifies, view_of}
use Rattle.element_state.specs.States.{Opens, first_picked, state_of, store_at, corrupt_state, salvage_of}
use Rattle.element_state.specs.Clean.{where_of, IsNamed, IsClean}
use Rattle.element_state.specs.Chosen.{chosen}
use Rattle.element_state.specs.Kept.{IsSpared, HasEnough, IsLeftAs, SalvageStays, HasHolder, KeepsSalvage, BecomesAs}
use Rattle.element_state.specs.Kept.{all_views, Kept}
use Rattle.element_laws.specs.Phases.{IsCorruptAt}
use Rattle.element_laws.specs.lemmas.Lists.{In, Contains-In, In-map, append-In, some_is, zip_with}
use Rattle.element_laws.specs.lemmas.Copies.{CopyGives, AreAlike, Backed, voted_given}
use Rattle.element_laws.specs.lemmas.Fits.{fit_at, IsHeldFit, In-fit, fit-In, fit-spelled, picked_parts, none_passes}
use Rattle.element_laws.specs.lemmas.Standing.{gift_of, DenotesView, HasBackedValue, HasEach, EachStands, one_fit}
use Rattle.element_laws.specs.lemmas.Standing.{same_headings}
use Rattle.element_laws.specs.lemmas.Standing.{keeps, keeps_each, corrupt_kept}
use Rattle.element_laws.specs.lemmas.Left.{is_whole_at, value_at, named, counts_all, qualifies_back}
use Rattle.element_laws.specs.lemmas.Keeping.{WasHeld, stood, left_as, at_first, first_greatest, first_held}
use Rattle.element_laws.specs.lemmas.Keeping.{first_chosen}
use Rattle.element_laws.specs.lemmas.Keeping.{salvage_first}
use Rattle.element_laws.specs.lemmas.NewText.{EntryStands, new_stands, new_costs}
use Rattle.element_laws.specs.lemmas.Phases.{no_open, corrupt_pick}

-- outside the damage the copies that held the text of the salvage hold it, or all hold the new one; and they give its
-- contents as before
pub record SalvageKept (shape : Shape) (damaged : List ℕ) (start new : Image) (g : ℕ) (next : List ℕ)
    (text : FitText) : Type 0 where
  pub below : text.0.generation < g
  pub held : KeepsText shape.place text.0.generation text.0.text damaged start new
      ⊎ ((copy : ℕ) → copy < shape.place.copies → IsUndamaged damaged shape.place copy
      → Holds new shape.place copy g next)
  pub whole : (i : Index) → index_of text.0.text ≡ Some i → (e : IndexEntry) → In e i.entries → (copy : ℕ) (v : List ℕ)
      → copy < shape.place.copies
      → IsUndamaged damaged shape.place copy → is_whole_at start shape copy (where_of e) ≡ true
      → CopyGives (gift_of start shape (where_of e)) copy v
      → (is_whole_at new shape copy (where_of e) ≡ true) × CopyGives (gift_of new shape (where_of e)) copy v

module _ (shape : Shape) (start new : Image) (damaged : List ℕ) (positive : 1 ≤ shape.m) (clean : IsClean shape start)
    (g : ℕ) (next : List ℕ) (index : Index) (view : View) (others : List View)
    (fit : fit_index shape next ≡ Some index) (generation_is : view.generation ≡ g)
    (stand : (copy : ℕ) → copy < shape.place.copies → Holds new shape.place copy g next
    → AllZip (EntryStands shape new damaged) index.entries view.entries)
    (texts : (copy h : ℕ) (u : List ℕ) → copy < shape.place.copies → Holds new shape.place copy h u
    → (WasHeld shape start h u × (h ≡ g → ⊥)) ⊎ ((h ≡ g) × (u ≡ next)))
    (counted : (at : Where) → (is : IsNamed shape.place new at) → (is.generation ≡ g → ⊥) → IsNamed shape.place start at
    → (copy : ℕ) (w : List ℕ) → copy < shape.place.copies
    → CopyGives (gift_of new shape at) copy w → CopyGives (gift_of start shape at) copy w
    ⊎ (value_at start shape at ≡ Some w))
    (alike_new : (e : IndexEntry) → In e index.entries → IsNamed shape.place new (where_of e)
    → AreAlike (gift_of new shape (where_of e)) shape.place.copies) where
  origin : (at : Where) → (is : IsNamed shape.place new at) → (is.generation ≡ g → ⊥) → IsNamed shape.place start at
      → (copy : ℕ) (w : List ℕ) → copy < shape.place.copies
      → CopyGives (gift_of new shape at) copy w → (b : ℕ) × (b < shape.place.copies)
      × CopyGives (gift_of start shape at) b w
  origin at is apart was copy w lt gives = elim (counted at is apart was copy w lt gives) [
    | inl then ↦ (copy, lt, then)
    | inr value ↦ voted_given shape.m shape.place.copies positive (gift_of start shape at) w value
  ]

  named_then : (at : Where) → (is : IsNamed shape.place new at) → WasHeld shape start is.generation is.text
      → IsNamed shape.place start at
  named_then at is x = record {
    copy = x.copy;
    generation = is.generation;
    text = is.text;
    index = is.index;
    inside =
        x.inside;
    held = x.holds;
    spelled = is.spelled;
    named = is.named;
  }

  alike_at : (at : Where) (a b : ℕ) (s t : List ℕ) → IsNamed shape.place new at → a < shape.place.copies
      → b < shape.place.copies
      → CopyGives (gift_of new shape at) a s → CopyGives (gift_of new shape at) b t → s ≡ t
  alike_at at a b s t is la lb ga gb = elim (texts is.copy is.generation is.text is.inside is.held) [
    | inl x ↦
        let was = named_then at is x.0 in
        let p = origin at is x.1 was a s la ga in
        let q = origin at is x.1 was b t lb gb in
        clean.alike at p.0 q.0 s t was p.1 q.1 p.2 q.2
    | inr same ↦
        let one : is.index ≡ index = some_is is.index index
        (sym is.spelled ∙ ap index_of same.1 ∙ fit-spelled shape next index fit) in
        let (e, k, at_is) = In-map where_of at index.entries
        (subst (λ (j : Index). In at (map where_of j.entries)) one
        (Contains-In at (map where_of is.index.entries) is.named)) in
        alike_new e k (subst (λ (x : Where). IsNamed shape.place new x) (sym at_is) is) a b s t la lb
        (subst (λ (x : Where). CopyGives (gift_of new shape x) a s) (sym at_is) ga)
        (subst (λ (x : Where). CopyGives (gift_of new shape x) b t) (sym at_is) gb)
  ]

  pub two_clean : IsClean shape new
  two_clean = record {
    one_each = λ a b h s t la lb va vb. elim (texts a h s la va) [
      | inl x ↦ elim (texts b h t lb vb) [
        | inl y ↦ clean.one_each x.0.copy y.0.copy h s t x.0.inside y.0.inside x.0.holds y.0.holds
        | inr y ↦ absurd (x.1 y.0)
      ]
      | inr x ↦ elim (texts b h t lb vb) [ inl y ↦ absurd (y.1 x.0) | inr y ↦ x.1 ∙ sym y.1 ]
    ];
    fit = λ copy h u lt v. elim (texts copy h u lt v) [
      | inl x ↦ clean.fit x.0.copy h u x.0.inside x.0.holds
      | inr same ↦ (index, ap (fit_index shape) same.1 ∙ fit)
    ];
    alike = λ at a b s t is la lb ga gb. alike_at at a b s t is la lb ga gb;
  }

  -- an old text denotes what it denoted
  old_counted : (copy h : ℕ) (u : List ℕ) (j : Index) → copy < shape.place.copies → Holds new shape.place copy h u
      → fit_index shape u ≡ Some j → WasHeld shape start h u → (h ≡ g → ⊥)
      → (e : IndexEntry) → In e j.entries → (c : ℕ) (w : List ℕ) → c < shape.place.copies
      → CopyGives (gift_of new shape (where_of e)) c w
      → CopyGives (gift_of start shape (where_of e)) c w ⊎ (value_at start shape (where_of e) ≡ Some w)
  old_counted copy h u j lt v is x apart e k c w ltc gives =
      counted (where_of e) (named shape new two_clean copy h u j lt v is e k) apart
      (named shape start clean x.copy h u j x.inside x.holds is e k) c w ltc gives

  pub stands_new : (copy : ℕ) → copy < shape.place.copies → Holds new shape.place copy g next
      → DenotesView shape new g index view
  stands_new copy lt v = new_stands shape new damaged g next index view (stand copy lt v) generation_is

  pub each_two : EachStands shape new damaged positive two_clean (store_at start shape) (Opens view others)
  each_two copy h u j lt v is = elim (texts copy h u lt v) [
    | inl x ↦
        let s = stood shape start new damaged positive clean h u j x.0 is (old_counted copy h u j lt v is x.0 x.1) in
        (s.0, append-In s.0 (all_views (store_at start shape)) (view ∷ []) (inl s.1), s.2)
    | inr same ↦
        let one : index ≡ j = some_is index j (sym fit ∙ ap (fit_index shape) (sym same.1) ∙ is) in
        let held = subst (λ (k : ℕ). Holds new shape.place copy k next) same.0
        (subst (λ (x : List ℕ). Holds new shape.place copy h x) same.1 v) in (
          view,
          append-In view (all_views (store_at start shape)) (view ∷ []) (inr (inl refl)),
          subst (λ (k : ℕ). DenotesView shape new k j view) (sym same.0)
              (subst (λ (k : Index). DenotesView shape new g k view) one (stands_new copy lt held)),
        )
  ]

  -- ---- from a corrupt storage

  module _ (corrupt : IsCorruptAt shape start)
      (same_copy : (copy h : ℕ) (u : List ℕ) → copy < shape.place.copies → (h ≡ g → ⊥)
      → Holds new shape.place copy h u → Holds start shape.place copy h u)
      (same_gift : (at : Where) → (is : IsNamed shape.place new at) → (is.generation ≡ g → ⊥)
      → IsNamed shape.place start at → (copy : ℕ) (w : List ℕ) → copy < shape.place.copies
      → CopyGives (gift_of new shape at) copy w → CopyGives (gift_of start shape at) copy w) where
    abbrev pick_new : Option (FitText × List FitText)
    pick_new = first_picked (qualifies new shape) (fit_texts shape new)

    -- copies give the values of a new text that qualifies
    module _ (copy : ℕ) (lt : copy < shape.place.copies) (holds : Holds new shape.place copy g next)
        (passes : qualifies new shape (fit_at new shape g next index) ≡ true) where
      enough_all : shape.scope ≡ scope.Storage → AtLeast (λ c.
          holds_all new shape.place (fit_at new shape g next index) c ≡ true) shape.place.copies shape.m
      enough_all storage = enough_pass (holds_all new shape.place (fit_at new shape g next index)) shape.place.copies
          shape.m
          (leb-true shape.m (length (supporters scope.Storage new shape.place (fit_at new shape g next index)))
          (subst (λ (s : Scope). nat_le shape.m (length (supporters s new shape.place (fit_at new shape g next index)))
          ≡ true) storage passes))

      value_of : (e : IndexEntry) (f : Entry) → In e index.entries → EntryStands shape new damaged e f
          → HasBackedValue shape new damaged e f
      value_of e f h s v good enough = elim enough [
        | inl storage ↦ at_least_map (λ c. holds_all new shape.place (fit_at new shape g next index) c ≡ true)
            (λ c. CopyGives (gift_of new shape (where_of e)) c v) shape.place.copies shape.m
            (λ c ltc all.
            let w = counts_all shape new two_clean copy g next index lt holds fit c all e h in
            let backed = subst (λ (x : Content). Backed shape.m shape.place.copies (gift_of new shape (where_of e)) x)
            good s.backed in
            subst (λ (x : List ℕ). CopyGives (gift_of new shape (where_of e)) c x) (backed c w.0 ltc w.1) w.1)
            (enough_all storage)
        | inr spared ↦ at_least_map (IsSpared shape damaged f.lacking)
            (λ c. CopyGives (gift_of new shape (where_of e)) c v)
            shape.place.copies shape.m
            (λ c ltc is. (s.gives v c good ltc is.0).1) spared
      ]

      becomes : BecomesAs shape damaged (view_of new shape (fit_at new shape g next index)) (Opens view others)
      becomes = (
        same_headings shape new damaged positive two_clean g next index view (stands_new copy lt holds),
        keeps shape new damaged positive two_clean g next index view (stands_new copy lt holds)
            (zip_with (EntryStands shape new damaged) (HasBackedValue shape new damaged) index.entries view.entries
            (λ e f h k s. value_of e f h s) (stand copy lt holds)),
        new_costs shape new damaged g next index view (stand copy lt holds) generation_is positive,
      )

    opens_like : (o : Option (FitText × List FitText)) → pick_new ≡ o → (w : View) (rest : List View)
        → state_of (view_of new shape) (fit_texts shape new) o ≡ Opens w rest
        → BecomesAs shape damaged w (Opens view others)
    opens_like None e w rest is = absurd (no_open (map (view_of new shape) (fit_texts shape new)) w rest is)
    opens_like (Some r) e w rest is =
        let parts = picked_parts (qualifies new shape) (fit_texts shape new) r e in
        let u = In-fit new shape r.0 (parts.1 r.0 (inl refl)) in
        let passes = subst (λ x. qualifies new shape x ≡ true) (sym u.is) parts.2 in
        let shown : view_of new shape r.0 ≡ w = cc in
        elim (texts u.copy u.generation u.text u.inside u.holds) [
          | inl x ↦ absurd (
              let back = qualifies_back shape start new u.generation u.text u.index
              (λ c lt v. same_copy c u.generation u.text lt x.1 v)
              (λ e k c w lt gives. same_gift (where_of e) (named shape new two_clean u.copy u.generation u.text u.index
              u.inside u.holds u.fit e k) x.1
              (named shape start clean x.0.copy u.generation u.text u.index x.0.inside x.0.holds u.fit e k) c w lt
              gives) passes in
              none_passes (qualifies start shape) (fit_texts shape start)
              (fit_at start shape u.generation u.text u.index) (corrupt_pick shape start corrupt)
              (fit-In start shape x.0.copy u.generation u.text u.index x.0.inside x.0.holds u.fit) back)
          | inr same ↦
              let one : u.index ≡ index = some_is u.index index (sym u.fit ∙ ap (fit_index shape) same.1 ∙ fit) in
              let held = subst (λ (k : ℕ). Holds new shape.place u.copy k next) same.0
              (subst (λ (x : List ℕ). Holds new shape.place u.copy u.generation x) same.1 u.holds) in
              let at : fit_at new shape g next index ≡ r.0 = (λ j.
              fit_at new shape (sym same.0 j) (sym same.1 j) (sym one j)) ∙ u.is in
              subst (λ v. BecomesAs shape damaged v (Opens view others)) (ap (view_of new shape) at ∙ shown)
              (becomes u.copy u.inside held (subst (λ x. qualifies new shape x ≡ true) (sym at) parts.2))
        ]

    like : (w : View) (rest : List View) → store_at new shape ≡ Opens w rest
        → BecomesAs shape damaged w (Opens view others)
    unfolding store_at
    like w rest is = opens_like pick_new refl w rest is

    corrupt_is : store_at start shape ≡ corrupt_state (map (view_of start shape) (fit_texts shape start))
    unfolding store_at
    corrupt_is = ap (state_of (view_of start shape) (fit_texts shape start)) (corrupt_pick shape start corrupt)

    -- ---- the salvage

    -- the new text, where a copy holds it
    left_new : (copy : ℕ) → copy < shape.place.copies → Holds new shape.place copy g next
        → IsLeftAs shape damaged (view_of new shape (fit_at new shape g next index)) view
    left_new copy lt holds = record {
      same = same_headings shape new damaged positive two_clean g next index view (stands_new copy lt holds);
      good = keeps_each shape new damaged positive two_clean g next index view (stands_new copy lt holds)
          (zip_with (EntryStands shape new damaged) (HasEach shape new damaged) index.entries view.entries
          (λ e f h k s v good enough. at_least_map (IsSpared shape damaged f.lacking)
          (λ c. CopyGives (gift_of new shape (where_of e)) c v) shape.place.copies shape.m
          (λ c ltc is. (s.gives v c good ltc is.0).1) enough) (stand copy lt holds));
      copies = new_costs shape new damaged g next index view (stand copy lt holds) generation_is positive;
    }

    opens_at : (r : FitText × List FitText) → pick_new ≡ Some r
        → store_at new shape ≡ Opens (view_of new shape r.0) (map (view_of new shape) r.1)
    unfolding store_at
    opens_at r e = ap (state_of (view_of new shape) (fit_texts shape new)) e

    -- where it opens, it opens at the new text
    left_open : (w : View) (rest : List View) → store_at new shape ≡ Opens w rest → IsLeftAs shape damaged w view
    left_open w rest is =
        let becomes = like w rest is in
        record {
          same = becomes.0;
          good = zip_with (λ (e f : Entry). (v : List ℕ) → f.content ≡ Good v
              → (shape.scope ≡ scope.Storage) ⊎ HasEnough shape damaged f.lacking → e.content ≡ Good v)
              (λ (e f : Entry). (v : List ℕ) → f.content ≡ Good v → HasEnough shape damaged f.lacking
              → e.content ≡ Good v) w.entries view.entries
              (λ e f h k keeps v good enough. keeps v good (inr enough)) becomes.1;
          copies = becomes.2;
        }

    module _ (x : FitText) (xs : List FitText) (are : fit_texts shape start ≡ x ∷ xs) (below : x.0.generation < g)
        (keeps : KeepsText shape.place x.0.generation x.0.text damaged start new
        ⊎ ((copy : ℕ) → copy < shape.place.copies → IsUndamaged damaged shape.place copy
        → Holds new shape.place copy g next))
        (whole : (i : Index) → index_of x.0.text ≡ Some i → (e : IndexEntry) → In e i.entries → (copy : ℕ) (v : List ℕ)
        → copy < shape.place.copies
        → IsUndamaged damaged shape.place copy → is_whole_at start shape copy (where_of e) ≡ true
        → CopyGives (gift_of start shape (where_of e)) copy v
        → (is_whole_at new shape copy (where_of e) ≡ true) × CopyGives (gift_of new shape (where_of e)) copy v)
        (one : HasHolder shape start damaged x) where
      abbrev at_x : IsHeldFit start shape x
      at_x = at_first shape start x xs are

      generation_x : at_x.generation ≡ x.0.generation
      generation_x = ap (λ (u : FitText). u.0.generation) at_x.is

      text_x : at_x.text ≡ x.0.text
      text_x = ap (λ (u : FitText). u.0.text) at_x.is

      apart_x : at_x.generation ≡ g → ⊥
      apart_x e = let same = generation_x in omega (arith, below, e, same)

      -- a text of before that is held, and above which none is, is the salvage
      left_old : (copy : ℕ) → copy < shape.place.copies → Holds new shape.place copy at_x.generation at_x.text
          → IsLeftAs shape damaged (view_of new shape (fit_at new shape at_x.generation at_x.text at_x.index))
          (view_of start shape x)
      left_old copy lt held =
          let was : WasHeld shape start at_x.generation at_x.text =
          record { copy = at_x.copy; inside = at_x.inside; holds = at_x.holds } in
          subst (λ (u : FitText). IsLeftAs shape damaged (view_of new shape
          (fit_at new shape at_x.generation at_x.text at_x.index)) (view_of start shape u)) at_x.is
          (left_as shape start new damaged positive clean two_clean at_x.copy at_x.generation at_x.text at_x.index
          at_x.inside at_x.holds at_x.fit
          (old_counted copy at_x.generation at_x.text at_x.index lt held at_x.fit was apart_x)
          (whole at_x.index (ap index_of (sym text_x) ∙ fit-spelled shape at_x.text at_x.index at_x.fit)))

      -- one of the two is held
      held_one : Holds new shape.place one.0 at_x.generation at_x.text ⊎ Holds new shape.place one.0 g next
      held_one = elim keeps [
        | inl old ↦ inl (subst (λ (u : FitText). Holds new shape.place one.0 u.0.generation u.0.text)
            (sym at_x.is) (old one.0 one.1 one.2 one.3))
        | inr newer ↦ inr (newer one.0 one.1 one.2)
      ]

      -- what the first text is
      module _ (z : FitText) (zs : List FitText) (be : fit_texts shape new ≡ z ∷ zs) where
        abbrev at_z : IsHeldFit new shape z
        at_z = at_first shape new z zs be

        first_new : (at_z.generation ≡ g) × (at_z.text ≡ next) → IsLeftAs shape damaged (view_of new shape z) view
        first_new same =
            let i : index ≡ at_z.index = some_is index at_z.index
            (sym fit ∙ ap (fit_index shape) (sym same.1) ∙ at_z.fit) in
            let at : fit_at new shape g next index ≡ z = (λ k. fit_at new shape (sym same.0 k) (sym same.1 k) (i k))
            ∙ at_z.is in
            let held = subst (λ (k : ℕ). Holds new shape.place at_z.copy k next) same.0
            (subst (λ (u : List ℕ). Holds new shape.place at_z.copy at_z.generation u) same.1 at_z.holds) in
            subst (λ (u : FitText). IsLeftAs shape damaged (view_of new shape u) view) at
            (left_new at_z.copy at_z.inside held)

        first_old : WasHeld shape start at_z.generation at_z.text
            → IsLeftAs shape damaged (view_of new shape z) (view_of start shape x)
        first_old was =
            let low : at_z.generation ≤ x.0.generation = first_greatest shape start x xs are
            (fit_at start shape at_z.generation at_z.text at_z.index)
            (fit-In start shape was.copy at_z.generation at_z.text at_z.index was.inside was.holds at_z.fit) in
            let gen : at_z.generation ≡ z.0.generation = ap (λ (u : FitText). u.0.generation) at_z.is in
            let gen_x = generation_x in
            elim held_one [
              | inl held ↦
                  let here = fit-In new shape one.0 at_x.generation at_x.text at_x.index one.1 held at_x.fit in
                  let high : at_x.generation ≤ z.0.generation =
                  first_greatest shape new z zs be (fit_at new shape at_x.generation at_x.text at_x.index) here in
                  let same = one_fit shape new two_clean (fit_at new shape at_x.generation at_x.text at_x.index) z here
                  (subst (λ (us : List FitText). In z us) (sym be) (inl refl)) (omega (arith, low, high, gen, gen_x)) in
                  subst (λ (u : FitText). IsLeftAs shape damaged (view_of new shape u) (view_of start shape x)) same
                  (left_old one.0 one.1 held)
              | inr held ↦
                  let high : g ≤ z.0.generation = first_greatest shape new z zs be (fit_at new shape g next index)
                  (fit-In new shape one.0 g next index one.1 held fit) in
                  absurd (omega (arith, low, high, gen, below))
            ]

        first_left : IsLeftAs shape damaged (view_of new shape z) (view_of start shape x)
            ⊎ IsLeftAs shape damaged (view_of new shape z) view
        first_left = elim (texts at_z.copy at_z.generation at_z.text at_z.inside at_z.holds) [
          | inl old ↦ inl (first_old old.0)
          | inr newer ↦ inr (first_new newer)
        ]

      some_text : (ts : List FitText) → fit_texts shape new ≡ ts
          → (w : View) × (salvage_of (corrupt_state (map (view_of new shape) ts)) ≡ Some w)
          × (IsLeftAs shape damaged w (view_of start shape x) ⊎ IsLeftAs shape damaged w view)
      some_text [] be = absurd (elim held_one [
        | inl held ↦ subst (λ (us : List FitText). In (fit_at new shape at_x.generation at_x.text at_x.index) us) be
            (fit-In new shape one.0 at_x.generation at_x.text at_x.index one.1 held at_x.fit)
        | inr held ↦ subst (λ (us : List FitText). In (fit_at new shape g next index) us) be
            (fit-In new shape one.0 g next index one.1 held fit)
      ])
      some_text (z ∷ zs) be = (view_of new shape z, refl, first_left z zs be)

      salvage_here : (o : Option (FitText × List FitText)) → pick_new ≡ o
          → (w : View) × (salvage_of (state_of (view_of new shape) (fit_texts shape new) o) ≡ Some w)
          × (IsLeftAs shape damaged w (view_of start shape x) ⊎ IsLeftAs shape damaged w view)
      salvage_here None e = some_text (fit_texts shape new) refl
      salvage_here (Some r) e = (
        view_of new shape r.0,
        refl,
        inr (left_open (view_of new shape r.0) (map (view_of new shape) r.1) (opens_at r e)),
      )

      salvage_two : (w : View) × (salvage_of (store_at new shape) ≡ Some w)
          × (IsLeftAs shape damaged w (view_of start shape x) ⊎ IsLeftAs shape damaged w view)
      unfolding store_at
      salvage_two = salvage_here pick_new refl

    module _ (kept : (text : FitText) → chosen start shape ≡ Some (false, text)
        → SalvageKept shape damaged start new g next text) where
      salvage_stays : (ts : List FitText) → fit_texts shape start ≡ ts
          → SalvageStays shape damaged (store_at new shape) (corrupt_state (map (view_of start shape) ts))
          (Opens view others)
      salvage_stays [] are = tt
      salvage_stays (x ∷ xs) are = λ one.
          let it = kept x (first_chosen shape start x xs are (corrupt_pick shape start corrupt)) in
          salvage_two x xs are it.below it.held it.whole (first_held shape start damaged x xs are one)

      pub two_salvage : KeepsSalvage shape start damaged (store_at new shape) (Opens view others)
      two_salvage x is holder =
          let (xs, are) = salvage_first shape start x is in
          let it = kept x is in
          salvage_two x xs are it.below it.held it.whole holder

      pub corrupt_two : Kept shape damaged (store_at new shape) (store_at start shape) (Opens view others)
      corrupt_two = subst (λ s. Kept shape damaged (store_at new shape) s (Opens view others)) (sym corrupt_is)
          (corrupt_kept shape new damaged positive two_clean (map (view_of start shape) (fit_texts shape start))
          (Opens view others)
          (subst (λ s. EachStands shape new damaged positive two_clean s (Opens view others)) corrupt_is each_two) like
          (salvage_stays (fit_texts shape start) refl))
