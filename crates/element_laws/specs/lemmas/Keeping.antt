-- A stop and damage that put no new text and no new content on the disk keep a storage.
use Rattle.std.proofs.Common.{◌≡◌, ℕ, ◌<◌, ◌≤◌, ◌⊎◌, Bool, true, false, List, [], ◌∷◌, Option, Some, None, refl, sym}
use Rattle.std.proofs.Common.{ap, subst, ◌∙◌, inl, inr, arith}
use Rattle.std.specs.Prelude.{map, cond, find}
use Rattle.std.proofs.lemmas.Bool.{cases_eq}
use Rattle.disk_model.specs.Image.{Image}
use Rattle.disk_model.specs.Damage.{IsUndamaged}
use Rattle.guarded_cell.specs.Register.{Holds}
use Rattle.guarded_cell.specs.lemmas.StopLaws.{at_least_one}
use Rattle.guarded_cell.specs.Stops.{KeepsText, HoldsLess}
use Rattle.block_files.specs.Aside.{Where}
use Rattle.index_text.specs.declared.entries.Index.{Index}
use Rattle.index_text.specs.declared.entries.IndexEntry.{IndexEntry}
use Rattle.index_text.specs.Reading.{index_of}
use Rattle.element_state.specs.declared.shapes.Shape.{Shape}
use Rattle.element_state.specs.declared.shapes.View.{View}
use Rattle.element_state.specs.Fit.{FitText, fit_index, fit_texts}
use Rattle.element_state.specs.Views.{qualifies, view_of}
use Rattle.element_state.specs.States.{State, Opens, beside, first_picked, state_of, store_at, corrupt_state}
use Rattle.element_state.specs.States.{salvage_of}
use Rattle.element_state.specs.Clean.{where_of, IsNamed, IsClean}
use Rattle.element_state.specs.Chosen.{chosen, first_fit, or_first}
use Rattle.element_state.specs.Kept.{IsSpared, HasEnough, HasOne, CostsNoCopy, IsLeftAs, SalvageStays, HasHolder}
use Rattle.element_state.specs.Kept.{KeepsSalvage, all_views, views_in, Kept}
use Rattle.element_laws.specs.lemmas.Lists.{In, append-In, some_is, not_none, not_false}
use Rattle.element_laws.specs.lemmas.Copies.{CopyGives, voted_given}
use Rattle.element_laws.specs.lemmas.Fits.{fit_at, IsHeldFit, In-fit, fit-In, fit-spelled, fit_descends, nothing_beside}
use Rattle.element_laws.specs.lemmas.Fits.{pick_greatest, picked_max, picked_parts, none_passes, views-In}
use Rattle.element_laws.specs.lemmas.Standing.{gift_of, DenotesView, one_fit, EachStands, SparesCopies, Found}
use Rattle.element_laws.specs.lemmas.Standing.{same_headings}
use Rattle.element_laws.specs.lemmas.Standing.{keeps_each, kept_opens, corrupt_kept}
use Rattle.element_laws.specs.lemmas.Left.{is_whole_at, value_at, named, numbers_lacking, spared_holds, lacking_view}
use Rattle.element_laws.specs.lemmas.Left.{stands_left, costs_left, each_left, enough_left, enough_held, qualifies_left}
use Rattle.element_laws.specs.lemmas.Left.{qualifies_back}

-- copies hold no other text than this
abbrev pub HoldsOnly : Shape → Image → ℕ → List ℕ → Type 0
HoldsOnly shape image g t = (copy h : ℕ) (u : List ℕ) → copy < shape.place.copies
    → Holds image shape.place copy h u → (h ≡ g) × (u ≡ t)

-- Beside an earlier image, and of the text that stood there: no copy holds a text that it did not hold, but that one;
-- none gives a content that it did not give, but where that text alone is held a value on which enough copies agreed;
-- and outside the damage a copy holds the text and gives its contents as before.
pub record IsLess (shape : Shape) (g : ℕ) (t : List ℕ) (damaged : List ℕ) (old new : Image) : Type 0 where
  pub held : (copy h : ℕ) (u : List ℕ) → copy < shape.place.copies → Holds new shape.place copy h u
      → Holds old shape.place copy h u ⊎ ((h ≡ g) × (u ≡ t))
  pub counted : (at : Where) → IsNamed shape.place new at → (copy : ℕ) (w : List ℕ) → copy < shape.place.copies
      → CopyGives (gift_of new shape at) copy w
      → CopyGives (gift_of old shape at) copy w ⊎ (HoldsOnly shape new g t × (value_at old shape at ≡ Some w))
  pub text : KeepsText shape.place g t damaged old new
  pub whole : (i : Index) → index_of t ≡ Some i → (e : IndexEntry) → In e i.entries → (copy : ℕ) (v : List ℕ)
      → copy < shape.place.copies
      → IsUndamaged damaged shape.place copy → is_whole_at old shape copy (where_of e) ≡ true
      → CopyGives (gift_of old shape (where_of e)) copy v
      → (is_whole_at new shape copy (where_of e) ≡ true) × CopyGives (gift_of new shape (where_of e)) copy v

-- a text that was held on the earlier image
pub record WasHeld (shape : Shape) (old : Image) (h : ℕ) (u : List ℕ) : Type 0 where
  pub copy : ℕ
  pub inside : copy < shape.place.copies
  pub holds : Holds old shape.place copy h u

-- ---- what was known

-- texts were held before, and contents given before: the place stays clean
pub clean_from : (shape : Shape) (old new : Image) → IsClean shape old
    → (from : (copy h : ℕ) (u : List ℕ) → copy < shape.place.copies → Holds new shape.place copy h u
    → WasHeld shape old h u)
    → (given : (at : Where) → IsNamed shape.place new at → (copy : ℕ) (w : List ℕ) → copy < shape.place.copies
    → CopyGives (gift_of new shape at) copy w
    → (b : ℕ) × (b < shape.place.copies) × CopyGives (gift_of old shape at) b w)
    → IsClean shape new
clean_from shape old new clean from given = record {
  one_each = λ a b h s u la lb va vb.
      let x = from a h s la va in
      let y = from b h u lb vb in
      clean.one_each x.copy y.copy h s u x.inside y.inside x.holds y.holds;
  fit = λ copy h u lt v. let x = from copy h u lt v in clean.fit x.copy h u x.inside x.holds;
  alike = λ at a b s t is la lb ga gb.
      let x = from is.copy is.generation is.text is.inside is.held in
      let was : IsNamed shape.place old at = record {
        copy = x.copy;
        generation = is.generation;
        text = is.text;
        index =
            is.index;
        inside = x.inside;
        held = x.holds;
        spelled = is.spelled;
        named = is.named;
      } in
      let p = given at is a s la ga in
      let q = given at is b t lb gb in
      clean.alike at p.0 q.0 s t was p.1 q.1 p.2 q.2;
}

-- a view of before for a text that was held
module _ (shape : Shape) (old new : Image) (damaged : List ℕ) (positive : 1 ≤ shape.m) (clean : IsClean shape old) where
  pub stood : (h : ℕ) (u : List ℕ) (j : Index) → WasHeld shape old h u → fit_index shape u ≡ Some j
      → ((e : IndexEntry) → In e j.entries → (copy : ℕ) (w : List ℕ) → copy < shape.place.copies
      → CopyGives (gift_of new shape (where_of e)) copy w
      → CopyGives (gift_of old shape (where_of e)) copy w ⊎ (value_at old shape (where_of e) ≡ Some w))
      → (there : View) × In there (all_views (store_at old shape)) × DenotesView shape new h j there
  unfolding store_at
  stood h u j was fit counted = (
    view_of old shape (fit_at old shape h u j),
    views-In (view_of old shape) (qualifies old shape) (fit_texts shape old) (fit_at old shape h u j)
        (first_picked (qualifies old shape) (fit_texts shape old)) refl
        (fit-In old shape was.copy h u j was.inside was.holds fit),
    stands_left shape old new damaged positive clean was.copy h u j was.inside was.holds fit counted,
  )

-- ---- from a storage that opened

module _ (shape : Shape) (old new : Image) (damaged : List ℕ) (positive : 1 ≤ shape.m) (clean : IsClean shape old)
    (r : FitText × List FitText) (found : first_picked (qualifies old shape) (fit_texts shape old) ≡ Some r) where
  -- the text that it opened at
  pub its : IsHeldFit old shape r.0
  its = In-fit old shape r.0 ((picked_parts (qualifies old shape) (fit_texts shape old) r found).1 r.0 (inl refl))

  pub its_passes : qualifies old shape (fit_at old shape its.generation its.text its.index) ≡ true
  its_passes = subst (λ x. qualifies old shape x ≡ true) (sym its.is)
      (picked_parts (qualifies old shape) (fit_texts shape old) r found).2

  pub its_generation : its.generation ≡ r.0.0.generation
  its_generation = ap (λ (x : FitText). x.0.generation) its.is

  pub opened : store_at old shape ≡ Opens (view_of old shape r.0) (map (view_of old shape) r.1)
  unfolding store_at
  opened = ap (state_of (view_of old shape) (fit_texts shape old)) found

  -- what holds its generation holds its text
  pub its_only : (h : ℕ) (u : List ℕ) → WasHeld shape old h u → h ≡ its.generation → u ≡ its.text
  its_only h u x e = clean.one_each x.copy its.copy its.generation u its.text x.inside its.inside
      (subst (λ (k : ℕ). Holds old shape.place x.copy k u) e x.holds) its.holds

  module _ (less : IsLess shape its.generation its.text damaged old new) where
    from : (copy h : ℕ) (u : List ℕ) → copy < shape.place.copies → Holds new shape.place copy h u
        → WasHeld shape old h u
    from copy h u lt v = elim (less.held copy h u lt v) [
      | inl was ↦ record { copy = copy; inside = lt; holds = was }
      | inr same ↦ record {
        copy = its.copy;
        inside = its.inside;
        holds = subst (λ (k : ℕ). Holds old shape.place its.copy k u) (sym same.0)
            (subst (λ (x : List ℕ). Holds old shape.place its.copy its.generation x) (sym same.1) its.holds);
      }
    ]

    given : (at : Where) → IsNamed shape.place new at → (copy : ℕ) (w : List ℕ) → copy < shape.place.copies
        → CopyGives (gift_of new shape at) copy w
        → (b : ℕ) × (b < shape.place.copies) × CopyGives (gift_of old shape at) b w
    given at is copy w lt gives = elim (less.counted at is copy w lt gives) [
      | inl was ↦ (copy, lt, was)
      | inr value ↦ voted_given shape.m shape.place.copies positive (gift_of old shape at) w value.1
    ]

    pub less_clean : IsClean shape new
    less_clean = clean_from shape old new clean from given

    counted_in : (copy h : ℕ) (u : List ℕ) (j : Index) → copy < shape.place.copies
        → Holds new shape.place copy h u → fit_index shape u ≡ Some j
        → (e : IndexEntry) → In e j.entries → (c : ℕ) (w : List ℕ) → c < shape.place.copies
        → CopyGives (gift_of new shape (where_of e)) c w
        → CopyGives (gift_of old shape (where_of e)) c w ⊎ (value_at old shape (where_of e) ≡ Some w)
    counted_in copy h u j lt v fit e k c w ltc gives = elim (less.counted (where_of e)
        (named shape new less_clean copy h u j lt v fit e k) c w ltc gives) [
          | inl was ↦ inl was
          | inr value ↦ inr value.1
        ]

    each : (after : State) → EachStands shape new damaged positive less_clean (store_at old shape) after
    each after copy h u j lt v fit =
        let s = stood shape old new damaged positive clean h u j (from copy h u lt v) fit
        (counted_in copy h u j lt v fit) in
        (s.0, append-In s.0 (all_views (store_at old shape)) (views_in (salvage_of after)) (inl s.1), s.2)

    whole_in : (u : List ℕ) (j : Index) → fit_index shape u ≡ Some j → u ≡ its.text → (e : IndexEntry) → In e j.entries
        → (c : ℕ) (v : List ℕ) → c < shape.place.copies
        → IsUndamaged damaged shape.place c → is_whole_at old shape c (where_of e) ≡ true
        → CopyGives (gift_of old shape (where_of e)) c v
        → (is_whole_at new shape c (where_of e) ≡ true) × CopyGives (gift_of new shape (where_of e)) c v
    whole_in u j fit same = less.whole j (ap index_of (sym same) ∙ fit-spelled shape u j fit)

    spares : SparesCopies shape new damaged positive less_clean (view_of old shape r.0)
    unfolding view_of
    spares copy h u j lt v fit same =
        let x = from copy h u lt v in
        let g : h ≡ its.generation = same ∙ sym its_generation in
        let t : u ≡ its.text = its_only h u x g in
        let one = one_fit shape old clean (fit_at old shape h u j) r.0
        (fit-In old shape x.copy h u j x.inside x.holds fit)
        ((picked_parts (qualifies old shape) (fit_texts shape old) r found).1 r.0 (inl refl)) same in
        subst (λ y. DenotesView shape new h j (view_of old shape y)
        × CostsNoCopy shape damaged (view_of new shape (fit_at new shape h u j)) (view_of old shape y)) one (
          stands_left shape old new damaged positive clean x.copy h u j x.inside x.holds fit
              (counted_in copy h u j lt v fit),
          costs_left shape old new damaged positive clean x.copy h u j x.inside x.holds fit
              (counted_in copy h u j lt v fit) (whole_in u j fit t),
        )

    -- the text itself, where enough copies of it are left
    module _ (enough : HasEnough shape damaged (view_of old shape r.0).lacking) where
      enough_its : HasEnough shape damaged (view_of old shape
          (fit_at old shape its.generation its.text its.index)).lacking
      enough_its = subst (λ y. HasEnough shape damaged (view_of old shape y).lacking) (sym its.is) enough

      -- a text of another generation qualified before
      most : (z : FitText) → In z (fit_texts shape new) → qualifies new shape z ≡ true → z.0.generation ≤ its.generation
      most z h passes =
          let w = In-fit new shape z h in
          let gen : w.generation ≡ z.0.generation = ap (λ (x : FitText). x.0.generation) w.is in
          elim (cases_eq w.generation its.generation) [
            | inl e ↦ omega (arith, e, gen)
            | inr ne ↦
                let x = from w.copy w.generation w.text w.inside w.holds in
                let back = qualifies_back shape old new w.generation w.text w.index
                (λ c lt v. elim (less.held c w.generation w.text lt v)
                [ inl was ↦ was | inr same ↦ absurd (ne same.0) ])
                (λ e k c u lt gives. elim (less.counted (where_of e)
                (named shape new less_clean w.copy w.generation w.text w.index w.inside w.holds w.fit e k) c u
                lt gives) [
                  | inl was ↦ was
                  | inr value ↦ absurd (ne (value.0 w.copy w.generation w.text w.inside w.holds).0)
                ])
                (subst (λ y. qualifies new shape y ≡ true) (sym w.is) passes) in
                let max = picked_max (qualifies old shape) (fit_texts shape old) r (fit_descends old shape) found
                (fit_at old shape w.generation w.text w.index)
                (fit-In old shape x.copy w.generation w.text w.index x.inside x.holds w.fit) back in
                let le : w.generation ≤ r.0.0.generation = max in
                omega (arith, le, gen, its_generation)
          ]

      found_again : (after : State) → Found shape new damaged positive less_clean (view_of old shape r.0) after
      found_again after =
          let g = its.generation in
          let t = its.text in
          let i = its.index in
          let counted = λ (e : IndexEntry) (k : In e i.entries) (c : ℕ) (w : List ℕ) (lt : c < shape.place.copies)
          (gives : CopyGives (gift_of new shape (where_of e)) c w).
          counted_in one.0 g t i one.1 one.2 its.fit e k c w lt gives in
          let whole = whole_in t i its.fit refl in
          record {
            generation = g;
            text = t;
            index = i;
            there = view_of old shape (fit_at old shape g t i);
            copy = one.0;
            inside = one.1;
            holds = one.2;
            fit = its.fit;
            passes = qualifies_left shape old new damaged positive clean its.copy g t i its.inside its.holds its.fit
                counted whole enough_its
                (λ c lt spared v. less.text c lt spared v) its_passes;
            most = most;
            stands = stands_left shape old new damaged positive clean its.copy g t i its.inside its.holds its.fit
                counted;
            enough = enough_left shape old new damaged positive clean its.copy g t i its.inside its.holds its.fit
                counted whole enough_its;
            costs = costs_left shape old new damaged positive clean its.copy g t i its.inside its.holds its.fit counted
                whole;
            which = inl (ap (view_of old shape) its.is);
          }
        where
          one : (c : ℕ) × (c < shape.place.copies) × Holds new shape.place c its.generation its.text
          one =
              let held = at_least_one (λ c. IsUndamaged damaged shape.place c
              × Holds old shape.place c its.generation its.text) shape.place.copies shape.m positive
              (enough_held shape old its.generation its.text its.index damaged enough_its) in
              (held.0, held.1, less.text held.0 held.1 held.2.0 held.2.1)

    pub less_opens : (after : State) → Kept shape damaged (store_at new shape) (store_at old shape) after
    less_opens after =
        subst (λ s. Kept shape damaged (store_at new shape) s after) (sym opened)
        (kept_opens shape new damaged positive less_clean (view_of old shape r.0) (map (view_of old shape) r.1) after
        (subst (λ s. EachStands shape new damaged positive less_clean s after) opened (each after)) spares
        (λ enough. found_again enough after))

-- ---- from a storage that was corrupt

-- outside the damage a copy that held the text holds it, and gives its contents whole as before
pub record KeepsAll (shape : Shape) (g : ℕ) (t : List ℕ) (damaged : List ℕ) (old new : Image) : Type 0 where
  pub text : KeepsText shape.place g t damaged old new
  pub whole : (i : Index) → index_of t ≡ Some i → (e : IndexEntry) → In e i.entries → (copy : ℕ) (v : List ℕ)
      → copy < shape.place.copies
      → IsUndamaged damaged shape.place copy → is_whole_at old shape copy (where_of e) ≡ true
      → CopyGives (gift_of old shape (where_of e)) copy v
      → (is_whole_at new shape copy (where_of e) ≡ true) × CopyGives (gift_of new shape (where_of e)) copy v

pub less_keeps : (shape : Shape) (g : ℕ) (t : List ℕ) (damaged : List ℕ) (old new : Image)
    → IsLess shape g t damaged old new → KeepsAll shape g t damaged old new
less_keeps shape g t damaged old new less = record { text = less.text; whole = less.whole }

-- a text that fits, and whose contents are those of before, shows what is left of its view
pub left_as : (shape : Shape) (old new : Image) (damaged : List ℕ) → 1 ≤ shape.m → IsClean shape old → IsClean shape new
    → (copy g : ℕ) (t : List ℕ) (i : Index)
    → copy < shape.place.copies → Holds old shape.place copy g t → fit_index shape t ≡ Some i
    → ((e : IndexEntry) → In e i.entries → (copy : ℕ) (w : List ℕ) → copy < shape.place.copies
    → CopyGives (gift_of new shape (where_of e)) copy w
    → CopyGives (gift_of old shape (where_of e)) copy w ⊎ (value_at old shape (where_of e) ≡ Some w))
    → ((e : IndexEntry) → In e i.entries → (copy : ℕ) (v : List ℕ) → copy < shape.place.copies
    → IsUndamaged damaged shape.place copy
    → is_whole_at old shape copy (where_of e) ≡ true → CopyGives (gift_of old shape (where_of e)) copy v
    → (is_whole_at new shape copy (where_of e) ≡ true) × CopyGives (gift_of new shape (where_of e)) copy v)
    → IsLeftAs shape damaged (view_of new shape (fit_at new shape g t i)) (view_of old shape (fit_at old shape g t i))
left_as shape old new damaged positive clean new_clean copy g t i inside held fit counted whole =
    let stands = stands_left shape old new damaged positive clean copy g t i inside held fit counted in
    record {
      same = same_headings shape new damaged positive new_clean g t i (view_of old shape (fit_at old shape g t i))
          stands;
      good = keeps_each shape new damaged positive new_clean g t i (view_of old shape (fit_at old shape g t i)) stands
          (each_left shape old new damaged positive clean copy g t i inside held fit counted whole);
      copies = costs_left shape old new damaged positive clean copy g t i inside held fit counted whole;
    }

-- the first of the texts that fit has the greatest generation
pub at_first : (shape : Shape) (old : Image) (x : FitText) (xs : List FitText) → fit_texts shape old ≡ x ∷ xs
    → IsHeldFit old shape x
at_first shape old x xs are = In-fit old shape x (subst (λ (ys : List FitText). In x ys) (sym are) (inl refl))

pub first_greatest : (shape : Shape) (old : Image) (x : FitText) (xs : List FitText) → fit_texts shape old ≡ x ∷ xs
    → (z : FitText) → In z (fit_texts shape old)
    → z.0.generation ≤ x.0.generation
first_greatest shape old x xs are z h = picked_max (λ (u : FitText). true) (fit_texts shape old) (x, xs)
    (fit_descends old shape)
    (subst (λ (ys : List FitText). first_picked (λ (u : FitText). true) ys ≡ Some (x, xs)) (sym are) refl) z h refl

-- a copy that is spared and did not lack it holds its text
pub first_held : (shape : Shape) (old : Image) (damaged : List ℕ) (x : FitText) (xs : List FitText)
    (are : fit_texts shape old ≡ x ∷ xs)
    → HasOne shape damaged (view_of old shape x).lacking → HasHolder shape old damaged x
first_held shape old damaged x xs are one =
    let at = at_first shape old x xs are in
    let spared : IsSpared shape damaged (numbers_lacking shape old at.generation at.text at.index shape.scope) one.0 =
    subst (λ (ls : List ℕ). IsSpared shape damaged ls one.0)
    (ap (λ (u : FitText). (view_of old shape u).lacking) (sym at.is)
    ∙ lacking_view shape old at.generation at.text at.index) one.2 in
    let holds = spared_holds shape old at.generation at.text at.index shape.scope one.0 one.1 spared.1 in (
      one.0,
      one.1,
      spared.0,
      subst (λ (u : FitText). Holds old shape.place one.0 u.0.generation u.0.text) at.is
          holds,
    )

-- the salvage is the view of the first text
pub first_salvage : (view : FitText → View) (ts : List FitText) (r : FitText × List FitText)
    → first_picked (λ (u : FitText). true) ts ≡ Some r
    → salvage_of (corrupt_state (map view ts)) ≡ Some (view r.0)
first_salvage view [] r e = absurd (not_none r (sym e))
first_salvage view (x ∷ xs) r e = ap (λ (s : FitText × List FitText). Some (view s.0)) (some_is (x, xs) r e)

none_found : (q : FitText → Bool) (ts : List FitText) → first_picked q ts ≡ None → find q ts ≡ None
none_found q [] e = refl
none_found q (x ∷ xs) e = elim (q x) as (λ b. cond b (Some (x, xs)) (beside x (first_picked q xs)) ≡ None
    → cond b (Some x) (find q xs) ≡ None) [
      | true ↦ λ n. absurd (not_none (x, xs) n)
      | false ↦ λ n. none_found q xs (nothing_beside x (first_picked q xs) n)
    ] e

pub first_chosen : (shape : Shape) (old : Image) (x : FitText) (xs : List FitText) → fit_texts shape old ≡ x ∷ xs
    → first_picked (qualifies old shape) (fit_texts shape old) ≡ None → chosen old shape ≡ Some (false, x)
unfolding chosen
first_chosen shape old x xs are none =
    ap (or_first (fit_texts shape old)) (none_found (qualifies old shape) (fit_texts shape old) none) ∙ ap first_fit are

first_list : (ts : List FitText) (o : Option FitText) (text : FitText) → or_first ts o ≡ Some (false, text)
    → (rest : List FitText) × (ts ≡ text ∷ rest)
first_list ts (Some x) text e = absurd (not_false (sym
    (ap (λ (p : Bool × FitText). p.0) (some_is (true, x) (false, text) e))))
first_list [] None text e = absurd (not_none (false, text) (sym e))
first_list (y ∷ ys) None text e = (ys, ap (λ (p : Bool × FitText). p.1 ∷ ys) (some_is (false, y) (false, text) e))

-- the text of a salvage is the first that fits
pub salvage_first : (shape : Shape) (old : Image) (text : FitText) → chosen old shape ≡ Some (false, text)
    → (rest : List FitText) × (fit_texts shape old ≡ text ∷ rest)
unfolding chosen
salvage_first shape old text is = first_list (fit_texts shape old) (find (qualifies old shape) (fit_texts shape old))
    text is

-- copies hold only texts that they held, and give only contents that they gave
pub record IsFewer (shape : Shape) (old new : Image) : Type 0 where
  pub held : HoldsLess shape.place old new
  pub counted : (at : Where) → IsNamed shape.place new at → (copy : ℕ) (w : List ℕ) → copy < shape.place.copies
      → CopyGives (gift_of new shape at) copy w
      → CopyGives (gift_of old shape at) copy w

module _ (shape : Shape) (old new : Image) (damaged : List ℕ) (positive : 1 ≤ shape.m) (clean : IsClean shape old)
    (fewer : IsFewer shape old new) where
  pub fewer_clean : IsClean shape new
  fewer_clean = clean_from shape old new clean
      (λ copy h u lt v. record { copy = copy; inside = lt; holds = fewer.held copy lt h u v })
      (λ at is copy w lt gives. (copy, lt, fewer.counted at is copy w lt gives))

  module _ (none : first_picked (qualifies old shape) (fit_texts shape old) ≡ None) where
    pub was_corrupt : store_at old shape ≡ corrupt_state (map (view_of old shape) (fit_texts shape old))
    unfolding store_at
    was_corrupt = ap (state_of (view_of old shape) (fit_texts shape old)) none

    each_fewer : (after : State) → EachStands shape new damaged positive fewer_clean (store_at old shape) after
    each_fewer after copy h u j lt v fit =
        let s = stood shape old new damaged positive clean h u j
        (record { copy = copy; inside = lt; holds = fewer.held copy lt h u v }) fit
        (λ e k c w ltc gives. inl (fewer.counted (where_of e) (named shape new fewer_clean copy h u j lt v fit e k) c w
        ltc gives)) in
        (s.0, append-In s.0 (all_views (store_at old shape)) (views_in (salvage_of after)) (inl s.1), s.2)

    -- it does not open
    still_none : (o : Option (FitText × List FitText)) → first_picked (qualifies new shape) (fit_texts shape new) ≡ o
        → (w : View) (rest : List View)
        → state_of (view_of new shape) (fit_texts shape new) o ≡ Opens w rest → ⊥
    still_none None e w rest is = no_open (map (view_of new shape) (fit_texts shape new)) w rest is
      where
        no_open : (vs : List View) (w : View) (rest : List View) → corrupt_state vs ≡ Opens w rest → ⊥
        no_open [] w rest e = cc
        no_open (v ∷ vs) w rest e = cc
    still_none (Some r) e w rest is =
        let parts = picked_parts (qualifies new shape) (fit_texts shape new) r e in
        let u = In-fit new shape r.0 (parts.1 r.0 (inl refl)) in
        let passes = subst (λ x. qualifies new shape x ≡ true) (sym u.is) parts.2 in
        let back = qualifies_back shape old new u.generation u.text u.index
        (λ c lt v. fewer.held c lt u.generation u.text v)
        (λ e k c w lt gives. fewer.counted (where_of e) (named shape new fewer_clean u.copy u.generation u.text u.index
        u.inside u.holds u.fit e k) c w lt gives) passes in
        none_passes (qualifies old shape) (fit_texts shape old) (fit_at old shape u.generation u.text u.index) none
        (fit-In old shape u.copy u.generation u.text u.index u.inside
        (fewer.held u.copy u.inside u.generation u.text u.holds) u.fit) back

    never_opens : (w : View) (rest : List View) → store_at new shape ≡ Opens w rest → ⊥
    unfolding store_at
    never_opens w rest is = still_none (first_picked (qualifies new shape) (fit_texts shape new)) refl w rest is

    -- and the salvage is the one of before, where a copy of it is left
    module _ (x : FitText) (xs : List FitText) (are : fit_texts shape old ≡ x ∷ xs)
        (keeps : KeepsAll shape x.0.generation x.0.text damaged old new)
        (one : HasHolder shape old damaged x) where
      abbrev at_x : IsHeldFit old shape x
      at_x = at_first shape old x xs are

      keeps_x : KeepsAll shape at_x.generation at_x.text damaged old new
      keeps_x = subst (λ (u : FitText). KeepsAll shape u.0.generation u.0.text damaged old new) (sym at_x.is) keeps

      still : Holds new shape.place one.0 at_x.generation at_x.text
      still = subst (λ (u : FitText). Holds new shape.place one.0 u.0.generation u.0.text) (sym at_x.is)
          (keeps.text one.0 one.1 one.2 one.3)

      abbrev y : FitText
      y = fit_at new shape at_x.generation at_x.text at_x.index

      y_In : In y (fit_texts shape new)
      y_In = fit-In new shape one.0 at_x.generation at_x.text at_x.index one.1 still at_x.fit

      greatest : (z : FitText) → In z (fit_texts shape new) → true ≡ true → z.0.generation ≤ at_x.generation
      greatest z h passes =
          let w = In-fit new shape z h in
          let there = fit-In old shape w.copy w.generation w.text w.index w.inside
          (fewer.held w.copy w.inside w.generation w.text w.holds) w.fit in
          let max : w.generation ≤ x.0.generation = first_greatest shape old x xs are
          (fit_at old shape w.generation w.text w.index) there in
          let a : w.generation ≡ z.0.generation = ap (λ (u : FitText). u.0.generation) w.is in
          let b : at_x.generation ≡ x.0.generation = ap (λ (u : FitText). u.0.generation) at_x.is in
          omega (arith, max, a, b)

      left_x : IsLeftAs shape damaged (view_of new shape y) (view_of old shape x)
      left_x = subst (λ (u : FitText). IsLeftAs shape damaged (view_of new shape y) (view_of old shape u)) at_x.is
          (left_as shape old new damaged positive clean fewer_clean at_x.copy at_x.generation at_x.text at_x.index
          at_x.inside at_x.holds at_x.fit
          (λ e k c w ltc gives. inl (fewer.counted (where_of e)
          (named shape new fewer_clean one.0 at_x.generation at_x.text at_x.index one.1 still at_x.fit e k) c w
          ltc gives))
          (keeps_x.whole at_x.index (fit-spelled shape at_x.text at_x.index at_x.fit)))

      salvage_here : (o : Option (FitText × List FitText)) → first_picked (qualifies new shape) (fit_texts shape new)
          ≡ o
          → salvage_of (state_of (view_of new shape) (fit_texts shape new) o) ≡ Some (view_of new shape y)
      salvage_here None e =
          let r = pick_greatest (λ (u : FitText). true) (fit_texts shape new) y (fit_descends new shape) y_In refl
          greatest
          (λ z h same. one_fit shape new fewer_clean z y h y_In same) in
          first_salvage (view_of new shape) (fit_texts shape new) r.0 r.1
          ∙ ap (λ (u : FitText). Some (view_of new shape u)) r.2
      salvage_here (Some r) e = absurd (still_none (Some r) e (view_of new shape r.0) (map (view_of new shape) r.1)
          refl)

      salvage_now : salvage_of (store_at new shape) ≡ Some (view_of new shape y)
      unfolding store_at
      salvage_now = salvage_here (first_picked (qualifies new shape) (fit_texts shape new)) refl

    salvage_stays : (after : State) (ts : List FitText) → fit_texts shape old ≡ ts
        → ((text : FitText) → chosen old shape ≡ Some (false, text)
        → KeepsAll shape text.0.generation text.0.text damaged old new)
        → SalvageStays shape damaged (store_at new shape) (corrupt_state (map (view_of old shape) ts)) after
    salvage_stays after [] are keeps = tt
    salvage_stays after (x ∷ xs) are keeps = λ one.
        let here = keeps x (first_chosen shape old x xs are none) in
        let holder = first_held shape old damaged x xs are one in (
          view_of new shape (y x xs are here holder),
          salvage_now x xs are here holder,
          inl (left_x x xs are here holder),
        )

    pub fewer_salvage : (after : State) → ((text : FitText) → chosen old shape ≡ Some (false, text)
        → KeepsAll shape text.0.generation text.0.text damaged old new)
        → KeepsSalvage shape old damaged (store_at new shape) after
    fewer_salvage after keeps x is holder =
        let (xs, are) = salvage_first shape old x is in
        let here = keeps x is in (
          view_of new shape (y x xs are here holder),
          salvage_now x xs are here holder,
          inl (left_x x xs are here holder),
        )

    pub fewer_corrupt : (after : State) → ((text : FitText) → chosen old shape ≡ Some (false, text)
        → KeepsAll shape text.0.generation text.0.text damaged old new)
        → Kept shape damaged (store_at new shape) (store_at old shape) after
    fewer_corrupt after keeps =
        subst (λ s. Kept shape damaged (store_at new shape) s after) (sym was_corrupt)
        (corrupt_kept shape new damaged positive fewer_clean (map (view_of old shape) (fit_texts shape old)) after
        (subst (λ s. EachStands shape new damaged positive fewer_clean s after) was_corrupt (each_fewer after))
        (λ w rest is. absurd (never_opens w rest is))
        (salvage_stays after (fit_texts shape old) refl keeps))
