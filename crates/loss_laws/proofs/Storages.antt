-- A storage that was whole, where the files of one copy were lost: it opens at the text that it had, which alone has
-- enough copies.
use Rattle.std.proofs.Common.{◌≡◌, ◌≢◌, ℕ, ◌+◌, ◌*◌, ◌%◌, ◌<◌, ◌≤◌, List, [], ◌∷◌, length, Bool, true, false, not}
use Rattle.std.proofs.Common.{Some, refl, sym, ap, ◌∙◌, subst, inl, inr, ⊎_elim, arith}
use Rattle.std.specs.Prelude.{map, ◌||◌, is_some}
use Rattle.std.specs.List.{AllByRecursion, list_all}
use Rattle.std.proofs.lemmas.Bool.{cases_eq, le-leb, leb-true}
use Rattle.per_base.specs.declared.elements.Scope.{Scope}
use Rattle.per_base.specs.declared.elements.Scope.TheVariants as scope
use Rattle.per_base.specs.declared.elements.Entry.{Entry}
use Rattle.hash_guard.specs.SealedText.{verified}
use Rattle.disk_model.specs.Image.{Image}
use Rattle.disk_model.specs.Orders.{named_in}
use Rattle.disk_model.specs.Place.{area}
use Rattle.guarded_cell.specs.Held.{copies_that, holds, is_slot_text}
use Rattle.guarded_cell.specs.Register.{Holds}
use Rattle.guarded_cell.specs.lemmas.CopyLaws.{is_passing, named_contains, named_passing}
use Rattle.guarded_cell.specs.lemmas.HeldLaws.{holds_is}
use Rattle.guarded_cell.specs.lemmas.StopLaws.{at_least_one}
use Rattle.index_text.specs.declared.entries.Index.{Index}
use Rattle.index_text.specs.declared.entries.IndexEntry.{IndexEntry}
use Rattle.element_state.specs.Clean.{IsClean, where_of}
use Rattle.element_state.specs.declared.shapes.Shape.{Shape}
use Rattle.element_state.specs.declared.shapes.View.{View}
use Rattle.element_state.specs.Fit.{FitText, fit_texts, is_sole}
use Rattle.element_state.specs.Reports.{reports}
use Rattle.element_state.specs.Views.{counts, element_of, entries_seen, entry_view, holds_all, holds_text, judged_entry}
use Rattle.element_state.specs.Views.{judged_view, lacks_number, lacks_one, map_of, qualifies, supporters, view_of}
use Rattle.element_state.specs.States.{first_picked, lacking_by, mended_entry, mended_view, Opens, others_of, state_of}
use Rattle.element_state.specs.States.{store_at}
use Rattle.element_laws.specs.lemmas.Copies.{CopyGives}
use Rattle.element_laws.specs.lemmas.Fits.{fit_at, fit_descends, fit-In, In-fit, IsHeldFit, pick_greatest}
use Rattle.element_laws.specs.lemmas.Left.{named}
use Rattle.element_laws.specs.lemmas.Lists.{all_by, all_in, both_true, false_not_true, In, In-list_all, In-map}
use Rattle.element_laws.specs.lemmas.Lists.{list_any-In, map-In, not_is_false, or_false, true_both}
use Rattle.element_laws.specs.lemmas.Phases.{opens_pick, pick}
use Rattle.element_laws.specs.lemmas.Standing.{generation_of, gift_of, one_fit}
use Rattle.loss_laws.specs.ReadsOn.{OnlyLost, ReadsOn}
use Rattle.loss_laws.specs.Whole.{IsWholeStorage}
use Rattle.loss_laws.proofs.Contents.{element_still, GivesOnly, has, judged_still, lost_alone, mended_still}
use Rattle.loss_laws.proofs.Contents.{two_only}
use Rattle.loss_laws.proofs.Lists.{alone_picked, another, most_pass, none_that, pick_only}
use Rattle.loss_laws.proofs.Silent.{IsWholeElement, silent_lacking, silent_whole}

-- ---- lists

pub map_none : {A B : Type 0} (f : A → B) (xs : List A) → map f xs ≡ [] → xs ≡ []
map_none f [] e = refl
map_none f (x ∷ xs) e = cc

map_alike : {A B C : Type 0} (p : B → C) (f g : A → B) (xs : List A) → ((x : A) → In x xs → p (f x) ≡ p (g x))
    → map p (map f xs) ≡ map p (map g xs)
map_alike p f g [] alike = refl
map_alike p f g (x ∷ xs) alike =
    let rest = map_alike p f g xs (λ y h. alike y (inr h)) in
    let first = alike x (inl refl) in λ j. first j ∷ rest j

maps_alike : {A B C D : Type 0} (p : C → D) (q : B → C) (f g : A → B) (xs : List A)
    → ((x : A) → In x xs → p (q (f x)) ≡ p (q (g x))) → map p (map q (map f xs)) ≡ map p (map q (map g xs))
maps_alike p q f g [] alike = refl
maps_alike p q f g (x ∷ xs) alike =
    let rest = maps_alike p q f g xs (λ y h. alike y (inr h)) in
    let first = alike x (inl refl) in λ j. first j ∷ rest j

map_back : {A B : Type 0} (p : B → B) (f g : A → B) (xs : List A) → ((x : A) → In x xs → p (f x) ≡ g x)
    → map p (map f xs) ≡ map g xs
map_back p f g [] back = refl
map_back p f g (x ∷ xs) back =
    let rest = map_back p f g xs (λ y h. back y (inr h)) in
    let first = back x (inl refl) in λ j. first j ∷ rest j

text_held : (s : Scope) (h : Bool) (entries : List Entry) (number : ℕ) → lacks_number s (not h) entries number ≡ false
    → h ≡ true
text_held scope.Element h entries number e = not_is_false h e
text_held scope.Storage h entries number e = not_is_false h (or_false (not h) (lacks_one entries number) e).0

never_both : (b : Bool) → b ≡ true → b ≡ false → ⊥
never_both b one two = cc

nobody_lacks : (entries : List Entry) → AllByRecursion IsWholeElement entries → (number : ℕ)
    → lacks_one entries number ≡ false
nobody_lacks entries each number = false_not_true (lacks_one entries number) (λ is.
    let (x, here, named) = list_any-In (λ (e : Entry). named_in e.lacking number) entries is in
    let e = all_in IsWholeElement entries each x here in
    never_both (named_in x.lacking number) named (ap (λ (l : List ℕ). named_in l number) e.lacking))

whole_lacking : (s : Scope) (entries : List Entry) (copies : ℕ) → AllByRecursion IsWholeElement entries
    → lacking_by s entries copies ≡ []
whole_lacking scope.Element entries copies each = refl
whole_lacking scope.Storage entries copies each = none_that (λ c. lacks_one entries (c + 1)) copies
    (λ c lt. nobody_lacks entries each (c + 1))

module _ (old new : Image) (shape : Shape) (lost : ℕ) (positive : 1 ≤ shape.m) (few : shape.m < shape.place.copies)
    (same : (c k : ℕ) → c < shape.place.copies → c ≢ lost → k < 4
    → new (shape.place.first + 4 * c + k) ≡ old (shape.place.first + 4 * c + k))
    (view : View) (was : IsWholeStorage old shape view) where
  abbrev n : ℕ
  n = shape.place.copies

  holds_same : (c : ℕ) → c < n → c ≢ lost → (g : ℕ) (t : List ℕ)
      → holds new shape.place c (g, t) ≡ holds old shape.place c (g, t)
  holds_same c lt apart g t = ap (λ file. is_slot_text (g, t) (verified file)) (same c (g % 2) lt apart (omega arith))

  areas : (c : ℕ) → c < n → c ≢ lost → new (area shape.place c) ≡ old (area shape.place c)
  areas c lt apart = same c 2 lt apart (omega arith)

  -- ---- the text that it had, alone

  opened : (r : FitText × List FitText) × (pick shape old ≡ Some r) × (view_of old shape r.0 ≡ view)
  opened = opens_pick shape old view [] was.opens

  abbrev x : FitText
  x = opened.0.0

  opened_at : store_at old shape ≡ Opens (view_of old shape x) (map (view_of old shape) opened.0.1)
  unfolding store_at
  opened_at = ap (state_of (view_of old shape) (fit_texts shape old)) opened.1

  alone : fit_texts shape old ≡ x ∷ []
  alone = alone_picked (qualifies old shape) (fit_texts shape old) opened.0 opened.1
      (map_none (view_of old shape) opened.0.1 (ap others_of (sym opened_at ∙ was.opens)))

  only_old : (z : FitText) → In z (fit_texts shape old) → x ≡ z
  only_old z h = elim (subst (λ (zs : List FitText). In z zs) alone h) [ inl e ↦ e | inr none ↦ absurd none ]

  it : IsHeldFit old shape x
  it = In-fit old shape x (subst (λ (zs : List FitText). In x zs) (sym alone) (inl refl))

  abbrev g : ℕ
  g = it.generation

  abbrev t : List ℕ
  t = it.text

  abbrev i : Index
  i = it.index

  abbrev before : FitText
  before = fit_at old shape g t i

  abbrev after : FitText
  after = fit_at new shape g t i

  view_is : view_of old shape before ≡ view
  view_is = ap (view_of old shape) it.is ∙ opened.2

  abbrev lacks_before : ℕ → Bool
  lacks_before c = lacks_number shape.scope (not (holds_text old shape.place before c)) (entries_seen old shape before)
      (c + 1)

  none_lacks : copies_that lacks_before n ≡ []
  unfolding view_of
  none_lacks = ap (λ (w : View). w.lacking) view_is ∙ silent_lacking was.test shape view was.silent

  nobody_lacks_it : (c : ℕ) → c < n → lacks_before c ≡ false
  nobody_lacks_it c lt = sym (named_passing lacks_before n c lt)
      ∙ ap (λ (l : List ℕ). named_in l (c + 1)) none_lacks

  all_held : (c : ℕ) → c < n → holds old shape.place c (g, t) ≡ true
  all_held c lt = text_held shape.scope (holds_text old shape.place before c) (entries_seen old shape before) (c + 1)
      (nobody_lacks_it c lt)

  element : (e : IndexEntry) → In e i.entries → IsWholeElement (entry_view old shape.place shape.m e)
  unfolding view_of
  element e h = silent_whole old shape was.test (view_of old shape before) e
      (λ c. not (holds_text old shape.place before c)) (ap (reports was.test shape) view_is ∙ was.silent)
      (map-In (entry_view old shape.place shape.m) e i.entries h) nobody_lacks_it

  each_whole : AllByRecursion IsWholeElement (map (entry_view old shape.place shape.m) i.entries)
  each_whole = all_by IsWholeElement (map (entry_view old shape.place shape.m) i.entries)
      (λ f h. let (e, inside, is) = In-map (entry_view old shape.place shape.m) f i.entries h in
      subst IsWholeElement is (element e inside))

  -- ---- the copies that support it now

  held_still : (c : ℕ) → c < n → c ≢ lost → holds new shape.place c (g, t) ≡ true
  held_still c lt apart = holds_same c lt apart g t ∙ all_held c lt

  counts_still : (e : IndexEntry) → In e i.entries → (c : ℕ) → c < n → c ≢ lost → counts new shape.place e c ≡ true
  counts_still e h c lt apart =
      let whole = element e h in
      ap is_some (has old new shape lost few areas e whole.value whole.good whole.lacking c lt apart).0

  holds_all_still : (c : ℕ) → c < n → c ≢ lost → holds_all new shape.place after c ≡ true
  holds_all_still c lt apart = true_both (holds_text new shape.place after c)
      (list_all (λ e. counts new shape.place e c) i.entries) (held_still c lt apart)
      (In-list_all (λ e. counts new shape.place e c) i.entries (λ e h. counts_still e h c lt apart))

  supported : (s : Scope) → shape.m ≤ length (supporters s new shape.place after)
  supported scope.Element =
      let most = most_pass (λ c. holds new shape.place c (g, t)) n lost held_still in omega (arith, most, few)
  supported scope.Storage =
      let most = most_pass (holds_all new shape.place after) n lost holds_all_still in omega (arith, most, few)

  passes : qualifies new shape after ≡ true
  passes = le-leb shape.m (length (supporters shape.scope new shape.place after)) (supported shape.scope)

  one_left : (c : ℕ) × (c < n) × (c ≢ lost)
  one_left = ⊎_elim
      (λ first. (1, omega (arith, positive, few), (λ e. omega (arith, first, e))))
      (λ apart. (0, omega (arith, positive, few), apart))
      (cases_eq 0 lost)

  here : In after (fit_texts shape new)
  here = fit-In new shape one_left.0 g t i one_left.1
      (holds_is new shape.place one_left.0 (g, t) (held_still one_left.0 one_left.1 one_left.2)) it.fit

  -- the text is picked
  abbrev IsPicked : Type 0
  IsPicked = (r : FitText × List FitText) × (first_picked (qualifies new shape) (fit_texts shape new) ≡ Some r)
      × (r.0 ≡ after)

  -- of each element no other content than its value has enough copies
  abbrev HaveValues : Type 0
  HaveValues = (e : IndexEntry) (h : In e i.entries) → GivesOnly new shape (where_of e) (element e h).value

  -- ---- where at least two copies must agree, no other text has enough, and no other content

  module _ (two : 2 ≤ shape.m) where
    module _ (z : FitText) (h : In z (fit_texts shape new)) (enough : qualifies new shape z ≡ true) where
      other : IsHeldFit new shape z
      other = In-fit new shape z h

      abbrev its : FitText
      its = fit_at new shape other.generation other.text other.index

      holder : (s : Scope) → 2 ≤ length (supporters s new shape.place its)
          → (c : ℕ) × (c < n) × (c ≢ lost) × (holds new shape.place c (other.generation, other.text) ≡ true)
      holder scope.Element many = another (λ c. holds new shape.place c (other.generation, other.text)) n lost many
      holder scope.Storage many =
          let (c, lt, apart, all) = another (holds_all new shape.place its) n lost many in (
            c,
            lt,
            apart,
            (both_true (holds_text new shape.place its c) (list_all (λ e. counts new shape.place e c) other.index.entries)
                all).0,
          )

      it_is : z ≡ after
      it_is =
          let le = leb-true shape.m (length (supporters shape.scope new shape.place its))
          (subst (λ (a : FitText). qualifies new shape a ≡ true) (sym other.is) enough) in
          let (c, lt, apart, is) = holder shape.scope (omega (arith, le, two)) in
          let held : Holds old shape.place c other.generation other.text =
          holds_is old shape.place c (other.generation, other.text)
          (sym (holds_same c lt apart other.generation other.text) ∙ is) in
          let there = fit-In old shape c other.generation other.text other.index lt held other.fit in
          let one : before ≡ fit_at old shape other.generation other.text other.index =
          it.is ∙ only_old (fit_at old shape other.generation other.text other.index) there in
          let generation : other.generation ≡ g = sym (ap (λ (a : FitText). a.0.generation) one) in
          let text : other.text ≡ t = sym (ap (λ (a : FitText). a.0.text) one) in
          let index : other.index ≡ i = sym (ap (λ (a : FitText). a.1) one) in
          sym other.is ∙ (λ j. fit_at new shape (generation j) (text j) (index j))

    two_picked : IsPicked
    two_picked = pick_only (qualifies new shape) (fit_texts shape new) after here passes it_is

    two_values : HaveValues
    two_values e h = let whole = element e h in
        two_only old new shape lost few areas e whole.value whole.good whole.lacking two

  -- ---- where one copy is enough, on a clean place no text is as great, and no content differs

  module _ (clean : IsClean shape new)
      (least : (copy generation : ℕ) (text : List ℕ) → copy < n → Holds new shape.place copy generation text
      → generation ≤ view.generation) where
    generation_is : view.generation ≡ g
    generation_is = ap (λ (w : View). w.generation) (sym view_is) ∙ generation_of shape old before

    most : (z : FitText) → In z (fit_texts shape new) → z.0.generation ≤ g
    most z h =
        let other = In-fit new shape z h in
        let le = least other.copy other.generation other.text other.inside other.holds in
        let same : other.generation ≡ z.0.generation = ap (λ (a : FitText). a.0.generation) other.is in
        let is = generation_is in omega (arith, le, same, is)

    clean_picked : IsPicked
    clean_picked = pick_greatest (qualifies new shape) (fit_texts shape new) after (fit_descends new shape) here passes
        (λ z h enough. most z h) (λ z h e. one_fit shape new clean z after h here e)

    clean_values : HaveValues
    clean_values e h other many =
        let whole = element e h in
        let (c, lt, gives) = at_least_one (λ c. CopyGives (gift_of new shape (where_of e)) c other) n shape.m positive
        many in
        let named = named shape new clean one_left.0 g t i one_left.1
        (holds_is new shape.place one_left.0 (g, t) (held_still one_left.0 one_left.1 one_left.2)) it.fit e h in
        clean.alike (where_of e) c one_left.0 other whole.value named lt one_left.1 gives
        (has old new shape lost few areas e whole.value whole.good whole.lacking one_left.0 one_left.1 one_left.2).0

  -- ---- what it opens at

  module _ (picked : IsPicked) (values : HaveValues) where
    opens_still : store_at new shape ≡ Opens (view_of new shape after) (map (view_of new shape) picked.0.1)
    unfolding store_at
    opens_still = ap (state_of (view_of new shape) (fit_texts shape new)) picked.1
        ∙ ap (λ (a : FitText). Opens (view_of new shape a) (map (view_of new shape) picked.0.1)) picked.2

    generation_still : (view_of new shape after).generation ≡ view.generation
    generation_still = generation_of shape new after ∙ sym (generation_of shape old before)
        ∙ ap (λ (w : View). w.generation) view_is

    map_still : map_of (view_of new shape after) ≡ map_of view
    unfolding view_of
    map_still = map_alike element_of (entry_view new shape.place shape.m) (entry_view old shape.place shape.m) i.entries
        (λ e h. let whole = element e h in
        element_still old new shape lost few areas e whole.value whole.good whole.lacking positive
        (values e h))
        ∙ ap map_of view_is

    judged_map_still : (test : List ℕ → Bool)
        → map_of (judged_view test (view_of new shape after)) ≡ map_of (judged_view test view)
    unfolding view_of
    judged_map_still test = maps_alike element_of (judged_entry test) (entry_view new shape.place shape.m)
        (entry_view old shape.place shape.m) i.entries
        (λ e h. let whole = element e h in
        judged_still old new shape lost few areas e whole.value whole.good whole.lacking positive (values e h) test)
        ∙ ap (λ (w : View). map_of (judged_view test w)) view_is

    entry_lost : (e : IndexEntry) → In e i.entries → OnlyLost lost (entry_view new shape.place shape.m e).lacking
    entry_lost e h = let whole = element e h in
        lost_alone old new shape lost few areas e whole.value whole.good whole.lacking positive
        (values e h)

    each_lost : AllByRecursion (λ (e : Entry). OnlyLost lost e.lacking)
        (map (entry_view new shape.place shape.m) i.entries)
    each_lost = all_by (λ (e : Entry). OnlyLost lost e.lacking) (map (entry_view new shape.place shape.m) i.entries)
        (λ f h. let (e, inside, is) = In-map (entry_view new shape.place shape.m) f i.entries h in
        subst (λ (a : Entry). OnlyLost lost a.lacking) is (entry_lost e inside))

    abbrev lacks_after : ℕ → Bool
    lacks_after c = lacks_number shape.scope (not (holds_text new shape.place after c)) (entries_seen new shape after)
        (c + 1)

    none_but : (s : Scope) (c : ℕ) → c < n → c ≢ lost
        → lacks_number s (not (holds_text new shape.place after c)) (entries_seen new shape after) (c + 1) ≡ true → ⊥
    none_but scope.Element c lt apart is = never_both (not (holds_text new shape.place after c)) is
        (ap not (held_still c lt apart))
    none_but scope.Storage c lt apart is =
        let (f, inside, named) = list_any-In (λ (e : Entry). named_in e.lacking (c + 1)) (entries_seen new shape after)
        (subst (λ b. (b || lacks_one (entries_seen new shape after) (c + 1)) ≡ true) (ap not (held_still c lt apart)) is)
        in
        apart (all_in (λ (e : Entry). OnlyLost lost e.lacking) (entries_seen new shape after) each_lost f inside c
        (named_contains f.lacking (c + 1) named))

    storage_lost : OnlyLost lost (view_of new shape after).lacking
    unfolding view_of
    storage_lost c listed =
        let (lt, is) = is_passing lacks_after n c listed in
        ⊎_elim (λ last. last) (λ apart. absurd (none_but shape.scope c lt apart is)) (cases_eq c lost)

    mended_entries : map mended_entry (entries_seen new shape after)
        ≡ map (entry_view old shape.place shape.m) i.entries
    mended_entries = map_back mended_entry (entry_view new shape.place shape.m) (entry_view old shape.place shape.m)
        i.entries (λ e h. let whole = element e h in
        mended_still old new shape lost few areas e whole.value whole.good whole.lacking positive
        (values e h))

    mended_lacking : lacking_by shape.scope (map mended_entry (entries_seen new shape after)) n
        ≡ copies_that lacks_before n
    mended_lacking = ap (λ (es : List Entry). lacking_by shape.scope es n) mended_entries
        ∙ whole_lacking shape.scope (map (entry_view old shape.place shape.m) i.entries) n each_whole ∙ sym none_lacks

    sole_before : true ≡ is_sole (fit_texts shape old)
    sole_before = sym (ap is_sole alone)

    mended_is : mended_view shape (view_of new shape after) ≡ view_of old shape before
    unfolding mended_view view_of
    mended_is = λ j. record {
      generation = g;
      lacking = mended_lacking j;
      sole = sole_before j;
      entries = mended_entries j;
    }

    reads : ReadsOn shape lost view (store_at new shape)
    unfolding view_of
    reads = record {
      view = view_of new shape after;
      others = map (view_of new shape) picked.0.1;
      opens = opens_still;
      generation = generation_still;
      map = map_still;
      judged = judged_map_still;
      lacking = storage_lost;
      each = each_lost;
      mended = mended_is ∙ view_is;
    }

  pub reads_on : 2 ≤ shape.m → ReadsOn shape lost view (store_at new shape)
  reads_on two = reads (two_picked two) (two_values two)

  pub reads_on_clean : IsClean shape new
      → ((copy generation : ℕ) (text : List ℕ) → copy < n → Holds new shape.place copy generation text
      → generation ≤ view.generation)
      → ReadsOn shape lost view (store_at new shape)
  reads_on_clean clean least = reads (clean_picked clean least) (clean_values clean least)
