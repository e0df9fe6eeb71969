-- One text on an image, and on another to which a stop and damage led.
use Rattle.std.proofs.Common.{◌≡◌, ℕ, ◌+◌, ◌<◌, ◌≤◌, ◌⊎◌, Bool, true, false, ◌&&◌, not, List, length, Option, Some}
use Rattle.std.proofs.Common.{None, refl, sym, ap, subst, ◌∙◌, inl, inr}
use Rattle.std.specs.Prelude.{map, is_some, ◌||◌}
use Rattle.std.specs.Str.{bytes_eq}
use Rattle.std.specs.List.{AllZip, Contains, list_all}
use Rattle.std.proofs.lemmas.Bool.{le-leb, leb-true}
use Rattle.std.proofs.lemmas.Slice.Eq.{bytes_eq-Decides}
use Rattle.per_base.specs.declared.elements.Scope.{Scope}
use Rattle.per_base.specs.declared.elements.Scope.TheVariants as scope
use Rattle.per_base.specs.declared.elements.Entry.{Entry}
use Rattle.per_base.specs.declared.elements.Content.TheVariants.{Good}
use Rattle.disk_model.specs.Image.{Image}
use Rattle.disk_model.specs.Place.{area}
use Rattle.disk_model.specs.Orders.{named_in}
use Rattle.disk_model.specs.Damage.{AtLeast, IsUndamaged}
use Rattle.m_of_n.specs.Vote.{voted}
use Rattle.guarded_cell.specs.Register.{Holds}
use Rattle.guarded_cell.specs.Held.{copies_that}
use Rattle.guarded_cell.specs.lemmas.HeldLaws.{holds_is, is_holds}
use Rattle.guarded_cell.specs.lemmas.CopyLaws.{enough_pass, passing_enough, passing_is, is_passing}
use Rattle.guarded_cell.specs.lemmas.StopLaws.{at_least_map, at_least_one}
use Rattle.block_files.specs.Aside.{Where}
use Rattle.block_files.specs.Areas.{has_all_bytes}
use Rattle.block_files.specs.Contents.{first_content, lacks, lacking}
use Rattle.index_text.specs.declared.entries.Index.{Index}
use Rattle.index_text.specs.declared.entries.IndexEntry.{IndexEntry}
use Rattle.element_state.specs.declared.shapes.Shape.{Shape}
use Rattle.element_state.specs.Fit.{FitText, fit_index}
use Rattle.element_state.specs.Views.{holds_text, counts, holds_all, supporters, qualifies, content_of, entry_view}
use Rattle.element_state.specs.Views.{entries_seen, lacks_one, store_lacking, view_of}
use Rattle.element_state.specs.Clean.{where_of, IsNamed, IsClean}
use Rattle.element_state.specs.Kept.{IsSpared, HasEnough, CostsNoCopy}
use Rattle.element_laws.specs.lemmas.Lists.{In, In-Contains, map-In, not_none, some_is, not_false, both_true, true_both}
use Rattle.element_laws.specs.lemmas.Lists.{or_false, not_is_false, false_not_true, there_is, none_any, list_all-In}
use Rattle.element_laws.specs.lemmas.Lists.{In-list_all, zip_map, zip_right}
use Rattle.element_laws.specs.lemmas.Copies.{Gift, CopyGives, gifts, AreAlike, Backed, backed_now, backed_less}
use Rattle.element_laws.specs.lemmas.Copies.{voted_given}
use Rattle.element_laws.specs.lemmas.Copies.{good_now, filtered_that, Contains_named, good_same, bad_good}
use Rattle.element_laws.specs.lemmas.Fits.{fit_at, fit-spelled}
use Rattle.element_laws.specs.lemmas.Standing.{gift_of, DenotesView, headings_of, generation_of, HasBackedValue}
use Rattle.element_laws.specs.lemmas.Standing.{HasEach}

-- the copy has all bytes of a content within its area
abbrev pub is_whole_at : Image → Shape → ℕ → Where → Bool
is_whole_at image shape copy at = has_all_bytes (image (area shape.place copy)) at.blocks at.len

-- the value on which the copies agree
abbrev pub value_at : Image → Shape → Where → Option (List ℕ)
value_at image shape at = voted shape.m (gifts (gift_of image shape at) shape.place.copies)

pub good_is : (o salvage : Option (List ℕ)) (v : List ℕ) → content_of o salvage ≡ Good v → o ≡ Some v
good_is None salvage v e = absurd (bad_good salvage v e)
good_is (Some w) salvage v e = ap (λ x. Some x) (good_same w v e)

both_false : (b : Bool) → b ≡ true → b ≡ false → ⊥
both_false b p q = not_false (sym q ∙ p)

-- ---- copies that do not lack a value

has_value : (v : List ℕ) (given : Option (List ℕ)) (inside : Bool) → lacks (Some v) given inside ≡ false
    → (given ≡ Some v) × (inside ≡ true)
has_value v None inside e = absurd (not_false (sym e))
has_value v (Some x) inside e =
    let r = both_true inside (bytes_eq x v) (not_is_false (inside && bytes_eq x v) e) in
    (ap (λ y. Some y) ((bytes_eq-Decides x v).0 r.1), r.0)

value_had : (v : List ℕ) (given : Option (List ℕ)) (inside : Bool) → given ≡ Some v → inside ≡ true
    → lacks (Some v) given inside ≡ false
value_had v None inside e is = absurd (not_none v (sym e))
value_had v (Some x) inside e is = ap not (true_both inside (bytes_eq x v) is
    ((bytes_eq-Decides x v).1 (some_is x v e)))

none_lacked : (v : List ℕ) (given : Option (List ℕ)) (inside : Bool) → given ≡ Some v → lacks None given inside ≡ false
none_lacked v given inside e = ap (λ o. not (is_some o)) e

module _ (shape : Shape) (image : Image) (at : Where) where
  abbrev lacks_at : Option (List ℕ) → ℕ → Bool
  lacks_at value copy = lacks value (gift_of image shape at copy) (is_whole_at image shape copy at)

  abbrev numbers : Option (List ℕ) → List ℕ
  numbers value = lacking value shape.place at.blocks at.len at.hash image

  pub listed_lacks : (value : Option (List ℕ)) (copy : ℕ) → Contains (numbers value) (copy + 1)
      → lacks_at value copy ≡ true
  listed_lacks value copy h =
      (is_passing (lacks_at value) shape.place.copies copy
      (subst (λ (xs : List ℕ). Contains xs (copy + 1)) (filtered_that (lacks_at value) shape.place.copies) h)).1

  pub not_listed : (value : Option (List ℕ)) (copy : ℕ) → copy < shape.place.copies
      → ¬ (Contains (numbers value) (copy + 1)) → lacks_at value copy ≡ false
  not_listed value copy lt absent = false_not_true (lacks_at value copy) (λ is. absent
      (subst (λ (xs : List ℕ). Contains xs (copy + 1)) (sym (filtered_that (lacks_at value) shape.place.copies))
      (passing_is (lacks_at value) shape.place.copies copy lt is)))

  -- a copy that is not listed has the value, and whole
  pub spared_has : (v : List ℕ) (copy : ℕ) → value_at image shape at ≡ Some v → copy < shape.place.copies
      → ¬ (Contains (numbers (value_at image shape at)) (copy + 1))
      → CopyGives (gift_of image shape at) copy v × (is_whole_at image shape copy at ≡ true)
  spared_has v copy e lt absent =
      has_value v (gift_of image shape at copy) (is_whole_at image shape copy at)
      (subst (λ o. lacks_at o copy ≡ false) e (not_listed (value_at image shape at) copy lt absent))

pub that_le : (p q : ℕ → Bool) (n m : ℕ) → ((c : ℕ) → c < n → p c ≡ true → q c ≡ true) → m ≤ length (copies_that p n)
    → m ≤ length (copies_that q n)
that_le p q n m h le = passing_enough q n m (at_least_map (λ c. p c ≡ true) (λ c. q c ≡ true) n m h
    (enough_pass p n m le))

pub that_many : (q : ℕ → Bool) (n m : ℕ) → AtLeast (λ c. q c ≡ true) n m → m ≤ length (copies_that q n)
that_many q n m some = passing_enough q n m some

-- ---- a text on an image

module _ (shape : Shape) (image : Image) (clean : IsClean shape image) (copy : ℕ) (g : ℕ) (t : List ℕ) (i : Index)
    (inside : copy < shape.place.copies) (held : Holds image shape.place copy g t)
    (fit : fit_index shape t ≡ Some i) where
  abbrev pub named : (e : IndexEntry) → In e i.entries → IsNamed shape.place image (where_of e)
  named e h = record {
    copy = copy;
    generation = g;
    text = t;
    index = i;
    inside = inside;
    held = held;
    spelled = fit-spelled shape t i fit;
    named = In-Contains (where_of e) (map where_of i.entries) (map-In where_of e i.entries h);
  }

  pub alike : (e : IndexEntry) → In e i.entries → AreAlike (gift_of image shape (where_of e)) shape.place.copies
  alike e h a b s u la lb ga gb = clean.alike (where_of e) a b s u (named e h) la lb ga gb

  abbrev its_text : FitText
  its_text = fit_at image shape g t i

  pub counts_all : (c : ℕ) → holds_all image shape.place its_text c ≡ true → (e : IndexEntry) → In e i.entries
      → (v : List ℕ) × CopyGives (gift_of image shape (where_of e)) c v
  counts_all c all e h =
      let r = both_true (holds_text image shape.place its_text c)
      (list_all (λ e. counts image shape.place e c) i.entries) all in
      there_is (gift_of image shape (where_of e) c) (list_all-In (λ e. counts image shape.place e c) e i.entries r.1 h)

  -- with storage scope a text that qualifies has a value for each entry
  pub with_values : 1 ≤ shape.m → shape.m ≤ length (supporters scope.Storage image shape.place its_text)
      → (e : IndexEntry) → In e i.entries
      → (v : List ℕ) × (value_at image shape (where_of e) ≡ Some v)
  with_values positive le e h =
      let n = shape.place.copies in
      let f : Gift = gift_of image shape (where_of e) in
      let some = enough_pass (holds_all image shape.place its_text) n shape.m le in
      let one = at_least_one (λ c. holds_all image shape.place its_text c ≡ true) n shape.m positive some in
      let v = counts_all one.0 one.2 e h in (
        v.0,
        good_now shape.m n positive f v.0 (λ c w lt gives. alike e h c one.0 w v.0 lt one.1 gives v.1)
            (at_least_map (λ c. holds_all image shape.place its_text c ≡ true) (λ c. CopyGives f c v.0) n shape.m
            (λ c lt all. let w = counts_all c all e h in
            w.1 ∙ ap (λ x. Some x) (alike e h c one.0 w.0 v.0 lt one.1 w.1 v.1)) some),
      )

-- a copy that gives the only value, and whole, is not listed
pub never_listed : (shape : Shape) (image : Image) (at : Where) (v : List ℕ) (c : ℕ) → 1 ≤ shape.m
    → Backed shape.m shape.place.copies (gift_of image shape at) (Good v)
    → is_whole_at image shape c at ≡ true → CopyGives (gift_of image shape at) c v
    → ¬ (Contains (lacking (value_at image shape at) shape.place at.blocks at.len at.hash
    image) (c + 1))
never_listed shape image at v c positive only whole gives listed =
    both_false (lacks_at shape image at (value_at image shape at) c)
    (listed_lacks shape image at (value_at image shape at) c listed) (go (value_at image shape at) refl)
  where
    go : (o : Option (List ℕ)) → value_at image shape at ≡ o → lacks_at shape image at o c ≡ false
    go None e = none_lacked v (gift_of image shape at c) (is_whole_at image shape c at) gives
    go (Some w) e =
        let r = voted_given shape.m shape.place.copies positive (gift_of image shape at) w e in
        value_had w (gift_of image shape at c) (is_whole_at image shape c at)
        (gives ∙ ap (λ x. Some x) (sym (only r.0 w r.1 r.2))) whole

-- a text that qualifies is held
pub qualified_held : (shape : Shape) (image : Image) (g : ℕ) (t : List ℕ) (i : Index) → 1 ≤ shape.m
    → qualifies image shape (fit_at image shape g t i) ≡ true
    → (c : ℕ) × (c < shape.place.copies) × Holds image shape.place c g t
qualified_held shape image g t i positive passes = go shape.scope
    (leb-true shape.m (length (supporters shape.scope image shape.place (fit_at image shape g t i))) passes)
  where
    go : (s : Scope) → shape.m ≤ length (supporters s image shape.place (fit_at image shape g t i))
        → (c : ℕ) × (c < shape.place.copies) × Holds image shape.place c g t
    go scope.Element le =
        let one = at_least_one (λ c. holds_text image shape.place (fit_at image shape g t i) c ≡ true)
        shape.place.copies shape.m positive
        (enough_pass (holds_text image shape.place (fit_at image shape g t i)) shape.place.copies shape.m le) in
        (one.0, one.1, holds_is image shape.place one.0 (g, t) one.2)
    go scope.Storage le =
        let one = at_least_one (λ c. holds_all image shape.place (fit_at image shape g t i) c ≡ true) shape.place.copies
        shape.m positive
        (enough_pass (holds_all image shape.place (fit_at image shape g t i)) shape.place.copies shape.m le) in
        let r = both_true (holds_text image shape.place (fit_at image shape g t i) one.0)
        (list_all (λ e. counts image shape.place e one.0) i.entries) one.2 in
        (one.0, one.1, holds_is image shape.place one.0 (g, t) r.0)

-- ---- copies that do not lack a storage

module _ (shape : Shape) (old : Image) (g : ℕ) (t : List ℕ) (i : Index) where
  abbrev text_was : FitText
  text_was = fit_at old shape g t i

  abbrev lacks_text : ℕ → Bool
  lacks_text c = not (holds_text old shape.place text_was c)

  abbrev pub numbers_lacking : Scope → List ℕ
  numbers_lacking s = store_lacking s lacks_text (entries_seen old shape text_was) shape.place.copies

  pub spared_holds : (s : Scope) (c : ℕ) → c < shape.place.copies → ¬ (Contains (numbers_lacking s) (c + 1))
      → Holds old shape.place c g t
  spared_holds scope.Element c lt absent = holds_is old shape.place c (g, t)
      (not_is_false (holds_text old shape.place text_was c)
      (false_not_true (lacks_text c) (λ yes. absent (passing_is lacks_text shape.place.copies c lt yes))))
  spared_holds scope.Storage c lt absent =
      let test : ℕ → Bool = λ c. lacks_text c || lacks_one (entries_seen old shape text_was) (c + 1) in
      let r = or_false (lacks_text c) (lacks_one (entries_seen old shape text_was) (c + 1))
      (false_not_true (test c) (λ yes. absent (passing_is test shape.place.copies c lt yes))) in
      holds_is old shape.place c (g, t) (not_is_false (holds_text old shape.place text_was c) r.0)

  pub spared_element : (c : ℕ) → c < shape.place.copies → ¬ (Contains (numbers_lacking scope.Storage) (c + 1))
      → (e : IndexEntry) → In e i.entries
      → ¬ (Contains (entry_view old shape.place shape.m e).lacking (c + 1))
  spared_element c lt absent e h inside_it =
      let test : ℕ → Bool = λ c. lacks_text c || lacks_one (entries_seen old shape text_was) (c + 1) in
      let r = or_false (lacks_text c) (lacks_one (entries_seen old shape text_was) (c + 1))
      (false_not_true (test c) (λ yes. absent (passing_is test shape.place.copies c lt yes))) in
      let f : Entry = entry_view old shape.place shape.m e in
      both_false (named_in f.lacking (c + 1)) (Contains_named f.lacking (c + 1) inside_it)
      (none_any (λ (f : Entry). named_in f.lacking (c + 1)) (entries_seen old shape text_was) r.1 f
      (map-In (entry_view old shape.place shape.m) e i.entries h))

  pub lacking_view : (view_of old shape text_was).lacking ≡ numbers_lacking shape.scope
  unfolding view_of
  lacking_view = refl

  module _ (damaged : List ℕ) (enough : HasEnough shape damaged (view_of old shape text_was).lacking) where
    pub enough_lacking : HasEnough shape damaged (numbers_lacking shape.scope)
    enough_lacking = subst (λ (xs : List ℕ). HasEnough shape damaged xs) lacking_view enough

    -- that many copies outside the damage held the text
    pub enough_held : AtLeast (λ c. IsUndamaged damaged shape.place c × Holds old shape.place c g t)
        shape.place.copies shape.m
    enough_held = at_least_map (IsSpared shape damaged (numbers_lacking shape.scope))
        (λ c. IsUndamaged damaged shape.place c × Holds old shape.place c g t) shape.place.copies shape.m
        (λ c lt spared. (spared.0, spared_holds shape.scope c lt spared.1)) enough_lacking

-- ---- and on another

-- no copy gives a content that it did not give, but the value; and a copy outside the damage gives whole what it gave
-- whole
pub record ContentsLeft (shape : Shape) (index : Index) (damaged : List ℕ) (old new : Image) : Type 0 where
  pub counted : (e : IndexEntry) → In e index.entries → (copy : ℕ) (w : List ℕ) → copy < shape.place.copies
      → CopyGives (gift_of new shape (where_of e)) copy w
      → CopyGives (gift_of old shape (where_of e)) copy w ⊎ (value_at old shape (where_of e) ≡ Some w)
  pub whole : (e : IndexEntry) → In e index.entries → (copy : ℕ) (v : List ℕ) → copy < shape.place.copies
      → IsUndamaged damaged shape.place copy
      → is_whole_at old shape copy (where_of e) ≡ true → CopyGives (gift_of old shape (where_of e)) copy v
      → (is_whole_at new shape copy (where_of e) ≡ true) × CopyGives (gift_of new shape (where_of e)) copy v

module _ (shape : Shape) (old new : Image) (damaged : List ℕ) (positive : 1 ≤ shape.m) (clean : IsClean shape old)
    (copy : ℕ) (g : ℕ) (t : List ℕ) (i : Index)
    (inside : copy < shape.place.copies) (held : Holds old shape.place copy g t)
    (fit : fit_index shape t ≡ Some i)
    (counted : (e : IndexEntry) → In e i.entries → (copy : ℕ) (w : List ℕ) → copy < shape.place.copies
    → CopyGives (gift_of new shape (where_of e)) copy w
    → CopyGives (gift_of old shape (where_of e)) copy w ⊎ (value_at old shape (where_of e) ≡ Some w)) where
  abbrev n : ℕ
  n = shape.place.copies

  abbrev was : FitText
  was = fit_at old shape g t i

  abbrev is : FitText
  is = fit_at new shape g t i

  its_alike : (e : IndexEntry) → In e i.entries → AreAlike (gift_of old shape (where_of e)) n
  its_alike = alike shape old clean copy g t i inside held fit

  backed_entry : (e : IndexEntry) → In e i.entries → Backed shape.m n (gift_of new shape (where_of e))
      (entry_view old shape.place shape.m e).content
  unfolding entry_view
  backed_entry e h =
      let f : Gift = gift_of old shape (where_of e) in
      let salvage : Option (List ℕ) = first_content (gifts f n) in
      backed_less shape.m n positive f (gift_of new shape (where_of e))
      (content_of (value_at old shape (where_of e)) salvage)
      (λ c w lt gives. elim (counted e h c w lt gives) [
        | inl was ↦ inl was
        | inr voted ↦
            inr (ap (λ o. content_of o salvage) voted)
      ])
      (backed_now shape.m n positive f (its_alike e h))

  -- the text denotes what it denoted
  pub stands_left : DenotesView shape new g i (view_of old shape was)
  unfolding view_of
  stands_left = record {
    generation_is = sym (generation_of shape old was);
    headings = sym (headings_of shape old was);
    backed = zip_right (λ (e : IndexEntry) (f : Entry). Backed shape.m n (gift_of new shape (where_of e)) f.content)
        (entry_view old shape.place shape.m) i.entries backed_entry;
  }

  module _ (whole : (e : IndexEntry) → In e i.entries → (copy : ℕ) (v : List ℕ) → copy < shape.place.copies
      → IsUndamaged damaged shape.place copy
      → is_whole_at old shape copy (where_of e) ≡ true → CopyGives (gift_of old shape (where_of e)) copy v
      → (is_whole_at new shape copy (where_of e) ≡ true) × CopyGives (gift_of new shape (where_of e)) copy v) where
    -- what a spared copy gives of a good element
    spared_gives : (e : IndexEntry) → In e i.entries → (v : List ℕ) (c : ℕ) → c < n
        → (entry_view old shape.place shape.m e).content ≡ Good v
        → IsSpared shape damaged (entry_view old shape.place shape.m e).lacking c
        → (is_whole_at new shape c (where_of e) ≡ true) × CopyGives (gift_of new shape (where_of e)) c v
        × CopyGives (gift_of old shape (where_of e)) c v
    unfolding entry_view
    spared_gives e h v c lt good spared =
        let at = where_of e in
        let value = good_is (value_at old shape at) (first_content (gifts (gift_of old shape at) n)) v good in
        let r = spared_has shape old at v c value lt spared.1 in
        let now = whole e h c v lt spared.0 r.1 r.0 in
        (now.0, now.1, r.0)

    not_lacking : (e : IndexEntry) → In e i.entries → (v : List ℕ) (c : ℕ) → c < n
        → is_whole_at new shape c (where_of e) ≡ true
        → CopyGives (gift_of new shape (where_of e)) c v → CopyGives (gift_of old shape (where_of e)) c v
        → (o : Option (List ℕ)) → value_at new shape (where_of e) ≡ o
        → lacks_at shape new (where_of e) o c ≡ false
    not_lacking e h v c lt whole_now gives gave None eo =
        none_lacked v (gift_of new shape (where_of e) c) (is_whole_at new shape c (where_of e)) gives
    not_lacking e h v c lt whole_now gives gave (Some w) eo =
        let at = where_of e in
        let r = voted_given shape.m n positive (gift_of new shape at) w eo in
        let same : v ≡ w = elim (counted e h r.0 w r.1 r.2) [
          | inl was ↦ its_alike e h c r.0 v w lt r.1 gave was
          | inr voted ↦ let b = voted_given shape.m n positive (gift_of old shape at) w voted in
              its_alike e h c b.0 v w lt b.1 gave b.2
        ] in
        value_had w (gift_of new shape at c) (is_whole_at new shape c at) (gives ∙ ap (λ x. Some x) same) whole_now

    entry_costs : (e : IndexEntry) → In e i.entries → (v : List ℕ) (c : ℕ)
        → (entry_view old shape.place shape.m e).content ≡ Good v → c < n
        → IsSpared shape damaged (entry_view old shape.place shape.m e).lacking c
        → ¬ (Contains (entry_view new shape.place shape.m e).lacking (c + 1))
    unfolding entry_view
    entry_costs e h v c good lt spared inside_now =
        let r = spared_gives e h v c lt good spared in
        both_false (lacks_at shape new (where_of e) (value_at new shape (where_of e)) c)
        (listed_lacks shape new (where_of e) (value_at new shape (where_of e)) c inside_now)
        (not_lacking e h v c lt r.0 r.1 r.2 (value_at new shape (where_of e)) refl)

    -- and no copy outside the damage is lost
    pub costs_left : CostsNoCopy shape damaged (view_of new shape is) (view_of old shape was)
    unfolding view_of
    costs_left = zip_map (λ (e f : Entry). (value : List ℕ) (copy : ℕ) → f.content ≡ Good value → copy < n
        → IsSpared shape damaged f.lacking copy → ¬ (Contains e.lacking (copy + 1)))
        (entry_view new shape.place shape.m) (entry_view old shape.place shape.m) i.entries entry_costs

    -- with enough copies left of an element, that many give its value
    each_entry : (e : IndexEntry) → In e i.entries → HasEach shape new damaged e (entry_view old shape.place shape.m e)
    each_entry e h v good some =
        at_least_map (IsSpared shape damaged (entry_view old shape.place shape.m e).lacking)
        (λ c. CopyGives (gift_of new shape (where_of e)) c v) n shape.m
        (λ c lt spared. (spared_gives e h v c lt good spared).1) some

    pub each_left : AllZip (HasEach shape new damaged) i.entries (view_of old shape was).entries
    unfolding view_of
    each_left = zip_right (HasEach shape new damaged) (entry_view old shape.place shape.m) i.entries each_entry

    -- ---- with enough copies left

    abbrev store_numbers : Scope → List ℕ
    store_numbers s = numbers_lacking shape old g t i s

    module _ (enough : HasEnough shape damaged (view_of old shape was).lacking) where
      enough_of : HasEnough shape damaged (store_numbers shape.scope)
      enough_of = enough_lacking shape old g t i damaged enough

      value_entry : (e : IndexEntry) → In e i.entries → HasBackedValue shape new damaged e
          (entry_view old shape.place shape.m e)
      value_entry e h v good (inr some) = each_entry e h v good some
      value_entry e h v good (inl storage) =
          let some = subst (λ (s : Scope). HasEnough shape damaged (store_numbers s)) storage enough_of in
          at_least_map (IsSpared shape damaged (store_numbers scope.Storage))
          (λ c. CopyGives (gift_of new shape (where_of e)) c v) n shape.m
          (λ c lt spared. (spared_gives e h v c lt good (spared.0, spared_element shape old g t i c lt spared.1 e h)).1)
          some

      -- enough copies give the value of each good element
      pub enough_left : AllZip (HasBackedValue shape new damaged) i.entries (view_of old shape was).entries
      unfolding view_of
      enough_left = zip_right (HasBackedValue shape new damaged)
          (entry_view old shape.place shape.m) i.entries value_entry

      module _ (text : (c : ℕ) → c < n → IsUndamaged damaged shape.place c → Holds old shape.place c g t
          → Holds new shape.place c g t) where
        still_all : shape.m ≤ length (supporters scope.Storage old shape.place was) → (c : ℕ) → c < n
            → IsSpared shape damaged (store_numbers scope.Storage) c
            → holds_all new shape.place is c ≡ true
        unfolding entry_view
        still_all le c lt spared = true_both (holds_text new shape.place is c)
            (list_all (λ e. counts new shape.place e c) i.entries)
            (is_holds new shape.place c (g, t) (text c lt spared.0
            (spared_holds shape old g t i scope.Storage c lt spared.1)))
            (In-list_all (λ e. counts new shape.place e c) i.entries (λ e h.
            let v = with_values shape old clean copy g t i inside held fit positive le e h in
            let good = ap (λ o. content_of o (first_content (gifts (gift_of old shape (where_of e)) n))) v.1 in
            ap is_some (spared_gives e h v.0 c lt good (spared.0, spared_element shape old g t i c lt spared.1 e h)).1))

        supported : (s : Scope) → shape.m ≤ length (supporters s old shape.place was)
            → HasEnough shape damaged (store_numbers s)
            → shape.m ≤ length (supporters s new shape.place is)
        supported scope.Element le some = that_many (holds_text new shape.place is) n shape.m
            (at_least_map (IsSpared shape damaged (store_numbers scope.Element))
            (λ c. holds_text new shape.place is c ≡ true) n shape.m
            (λ c lt spared. is_holds new shape.place c (g, t)
            (text c lt spared.0 (spared_holds shape old g t i scope.Element c lt spared.1))) some)
        supported scope.Storage le some = that_many (holds_all new shape.place is) n shape.m
            (at_least_map (IsSpared shape damaged (store_numbers scope.Storage))
            (λ c. holds_all new shape.place is c ≡ true) n shape.m (still_all le) some)

        -- the text still qualifies
        pub qualifies_left : qualifies old shape was ≡ true → qualifies new shape is ≡ true
        qualifies_left passes =
            le-leb shape.m (length (supporters shape.scope new shape.place is))
            (supported shape.scope (leb-true shape.m (length (supporters shape.scope old shape.place was)) passes)
            enough_of)

-- ---- a text of which no copy is new, qualified before where it does now

module _ (shape : Shape) (old new : Image) (g : ℕ) (t : List ℕ) (i : Index)
    (held : (c : ℕ) → c < shape.place.copies → Holds new shape.place c g t → Holds old shape.place c g t)
    (counted : (e : IndexEntry) → In e i.entries → (copy : ℕ) (w : List ℕ) → copy < shape.place.copies
    → CopyGives (gift_of new shape (where_of e)) copy w
    → CopyGives (gift_of old shape (where_of e)) copy w) where
  text_back : (c : ℕ) → c < shape.place.copies → holds_text new shape.place (fit_at new shape g t i) c ≡ true
      → holds_text old shape.place (fit_at old shape g t i) c ≡ true
  text_back c lt e = is_holds old shape.place c (g, t) (held c lt (holds_is new shape.place c (g, t) e))

  all_back : (c : ℕ) → c < shape.place.copies → holds_all new shape.place (fit_at new shape g t i) c ≡ true
      → holds_all old shape.place (fit_at old shape g t i) c ≡ true
  all_back c lt e =
      let r = both_true (holds_text new shape.place (fit_at new shape g t i) c)
      (list_all (λ e. counts new shape.place e c) i.entries) e in
      true_both (holds_text old shape.place (fit_at old shape g t i) c)
      (list_all (λ e. counts old shape.place e c) i.entries) (text_back c lt r.0)
      (In-list_all (λ e. counts old shape.place e c) i.entries (λ x h.
      let v = there_is (gift_of new shape (where_of x) c)
      (list_all-In (λ e. counts new shape.place e c) x i.entries r.1 h) in
      ap is_some (counted x h c v.0 lt v.1)))

  supported_back : (s : Scope) → shape.m ≤ length (supporters s new shape.place (fit_at new shape g t i))
      → shape.m ≤ length (supporters s old shape.place (fit_at old shape g t i))
  supported_back scope.Element le = that_le (holds_text new shape.place (fit_at new shape g t i))
      (holds_text old shape.place (fit_at old shape g t i)) shape.place.copies shape.m text_back le
  supported_back scope.Storage le = that_le (holds_all new shape.place (fit_at new shape g t i))
      (holds_all old shape.place (fit_at old shape g t i)) shape.place.copies shape.m all_back le

  pub qualifies_back : qualifies new shape (fit_at new shape g t i) ≡ true
      → qualifies old shape (fit_at old shape g t i) ≡ true
  qualifies_back passes =
      le-leb shape.m (length (supporters shape.scope old shape.place (fit_at old shape g t i)))
      (supported_back shape.scope (leb-true shape.m (length
      (supporters shape.scope new shape.place (fit_at new shape g t i))) passes))
