-- The phase in which an index is written: what stands under the new one, and the laws.
use Rattle.std.proofs.Common.{◌≡◌, ℕ, ◌+◌, ◌<◌, ◌≤◌, ◌⊎◌, true, List, [], length, Option, Some, refl, sym, ap, subst}
use Rattle.std.proofs.Common.{◌∙◌, inl, inr, arith}
use Rattle.std.specs.Prelude.{map}
use Rattle.std.specs.List.{Contains}
use Rattle.std.proofs.lemmas.Bool.{leb-true}
use Rattle.per_base.specs.declared.elements.Scope.{Scope}
use Rattle.per_base.specs.declared.elements.Scope.TheVariants as scope
use Rattle.per_base.specs.declared.elements.Entry.{Entry}
use Rattle.per_base.specs.declared.elements.Content.{Content}
use Rattle.per_base.specs.declared.elements.Content.TheVariants.{Good}
use Rattle.disk_model.specs.Image.{Image}
use Rattle.disk_model.specs.Damage.{IsUndamaged}
use Rattle.disk_model.specs.Place.{slot, area}
use Rattle.hash_guard.specs.SealedText.{VerifiesAs}
use Rattle.guarded_cell.specs.Register.{Holds, own}
use Rattle.guarded_cell.specs.Stops.{IsOldOrNew}
use Rattle.block_files.specs.Aside.{Where, AsideLaw}
use Rattle.block_files.specs.Contents.{first_content}
use Rattle.index_text.specs.declared.entries.Index.{Index}
use Rattle.index_text.specs.declared.entries.IndexEntry.{IndexEntry}
use Rattle.index_text.specs.Reading.{index_of}
use Rattle.element_state.specs.declared.shapes.Shape.{Shape}
use Rattle.element_state.specs.States.{Opens}
use Rattle.element_state.specs.Fit.{fit_index}
use Rattle.element_state.specs.Views.{qualifies, supporters, entry_view, content_of}
use Rattle.element_state.specs.Clean.{where_of, IsNamed, IsClean}
use Rattle.element_state.specs.Conditions.{IsMended}
use Rattle.element_laws.specs.Phases.{OpensAt, IsContentWritten, IsCarried, IndexLaw}
use Rattle.element_laws.specs.lemmas.Lists.{In, In-Contains, Contains-In, In-map, map-In, some_is, zip_with, zip_find}
use Rattle.element_laws.specs.lemmas.Lists.{nothing_listed}
use Rattle.element_laws.specs.lemmas.Copies.{Gift, CopyGives, gifts, Backed, backed_now, backed_less, backed_alike}
use Rattle.element_laws.specs.lemmas.Copies.{good_same}
use Rattle.element_laws.specs.lemmas.Fits.{fit_at, fit-spelled}
use Rattle.element_laws.specs.lemmas.Standing.{gift_of}
use Rattle.element_laws.specs.lemmas.Left.{is_whole_at, value_at, with_values, spared_has, good_is}
use Rattle.element_laws.specs.lemmas.Keeping.{HoldsOnly, IsLess}
use Rattle.element_laws.specs.lemmas.Frames.{slot_no_area, area_no_slot}
use Rattle.element_laws.specs.lemmas.Phases.{opens_pick, opened_on, sound_slots, decays_slots, given_then, whole_then}
use Rattle.element_laws.specs.lemmas.Phases.{contents_then}
use Rattle.element_laws.specs.lemmas.NewText.{EntryStands}
use Rattle.element_laws.specs.lemmas.IndexPhase.{open_at, opened_two, opened_clean}

-- an entry of an index that is held names its content
pub names_it : (shape : Shape) (image : Image) (copy g : ℕ) (t : List ℕ) (i : Index) → copy < shape.place.copies
    → Holds image shape.place copy g t
    → fit_index shape t ≡ Some i → (at : Where) → In at (map where_of i.entries) → IsNamed shape.place image at
names_it shape image copy g t i lt v fit at h = record {
  copy = copy;
  generation = g;
  text = t;
  index = i;
  inside = lt;
  held = v;
  spelled = fit-spelled shape t i fit;
  named = In-Contains at (map where_of i.entries) h;
}

module _ (shape : Shape) (start then new : Image) (damaged : List ℕ)
    (given : (at : Where) → IsNamed shape.place new at → (copy : ℕ) (w : List ℕ) → copy < shape.place.copies
    → CopyGives (gift_of new shape at) copy w → CopyGives (gift_of then shape at) copy w)
    (whole : (at : Where) (copy : ℕ) (v : List ℕ) → IsUndamaged damaged shape.place copy
    → is_whole_at then shape copy at ≡ true
    → CopyGives (gift_of then shape at) copy v → (is_whole_at new shape copy at ≡ true)
    × CopyGives (gift_of new shape at) copy v) where
  pub written_stands : (e : IndexEntry) (f : Entry) → IsNamed shape.place new (where_of e)
      → IsContentWritten shape then e f
      → EntryStands shape new damaged e f
  written_stands e f is w = record {
    headed = w.headed;
    backed = subst (λ x. Backed shape.m shape.place.copies (gift_of new shape (where_of e)) x) (sym w.good)
        (λ c u lt gives. some_is u w.value (sym (given (where_of e) is c u lt gives) ∙ (w.whole c lt).0));
    gives = λ v c good lt spared.
        let same : w.value ≡ v = good_same w.value v (sym w.good ∙ good) in
        whole (where_of e) c v spared (w.whole c lt).1 ((w.whole c lt).0 ∙ ap (λ x. Some x) same);
    good = λ storage. (w.value, w.good);
  }

  module _ (positive : 1 ≤ shape.m) (clean : IsClean shape start) (g : ℕ) (t : List ℕ) (i : Index)
      (opens : OpensAt shape start g t i)
      (less : IsLess shape g t damaged start then) (held : (copy : ℕ) → copy < shape.place.copies
      → Holds then shape.place copy g t) where
    content_at : Where → Content
    content_at at = content_of (value_at start shape at)
        (first_content (gifts (gift_of start shape at) shape.place.copies))

    content_is : (e : IndexEntry) → (entry_view start shape.place shape.m e).content ≡ content_at (where_of e)
    unfolding entry_view content_at
    content_is e = refl

    numbers_are : (e : IndexEntry) (c : ℕ) → (entry_view start shape.place shape.m e).lacking ≡ [] → (v : List ℕ)
        → value_at start shape (where_of e) ≡ Some v → c < shape.place.copies
        → CopyGives (gift_of start shape (where_of e)) c v × (is_whole_at start shape c (where_of e) ≡ true)
    unfolding entry_view
    numbers_are e c none v value lt = spared_has shape start (where_of e) v c value lt
        (λ listed. nothing_listed (c + 1) (subst (λ (xs : List ℕ). Contains xs (c + 1)) none listed))

    module _ (at : Where) (h : In at (map where_of i.entries)) where
      named_start : IsNamed shape.place start at
      named_start = names_it shape start opens.copy g t i opens.inside opens.held opens.fit at h

      named_now : IsNamed shape.place then at
      named_now = names_it shape then opens.copy g t i opens.inside (held opens.copy opens.inside) opens.fit at h

      pub counted_at : IsNamed shape.place new at → (copy : ℕ) (w : List ℕ) → copy < shape.place.copies
          → CopyGives (gift_of new shape at) copy w
          → CopyGives (gift_of start shape at) copy w ⊎ (value_at start shape at ≡ Some w)
      counted_at is copy w lt gives = elim (less.counted at named_now copy w lt (given at is copy w lt gives))
          [ inl was ↦ inl was | inr value ↦ inr value.1 ]

      pub whole_at : (copy : ℕ) (v : List ℕ) → copy < shape.place.copies → IsUndamaged damaged shape.place copy
          → is_whole_at start shape copy at ≡ true
          → CopyGives (gift_of start shape at) copy v → (is_whole_at new shape copy at ≡ true)
          × CopyGives (gift_of new shape at) copy v
      whole_at copy v lt spared was gave =
          let (e, k, same) = In-map where_of at i.entries h in
          let still = less.whole i (fit-spelled shape t i opens.fit) e k copy v lt spared
          (subst (λ (x : Where). is_whole_at start shape copy x ≡ true) (sym same) was)
          (subst (λ (x : Where). CopyGives (gift_of start shape x) copy v) (sym same) gave) in
          whole at copy v spared (subst (λ (x : Where). is_whole_at then shape copy x ≡ true) same still.0)
          (subst (λ (x : Where). CopyGives (gift_of then shape x) copy v) same still.1)

      backed_at : IsNamed shape.place new at → Backed shape.m shape.place.copies (gift_of new shape at) (content_at at)
      unfolding content_at
      backed_at is =
          let f : Gift = gift_of start shape at in
          let salvage : Option (List ℕ) = first_content (gifts f shape.place.copies) in
          backed_less shape.m shape.place.copies positive f (gift_of new shape at)
          (content_of (value_at start shape at) salvage)
          (λ c w lt gives. elim (counted_at is c w lt gives)
          [ inl was ↦ inl was | inr value ↦ inr (ap (λ o. content_of o salvage) value) ])
          (backed_now shape.m shape.place.copies positive f
          (λ a b s u la lb ga gb. clean.alike at a b s u named_start la lb ga gb))

    value_is : (at : Where) (v : List ℕ) → content_at at ≡ Good v → value_at start shape at ≡ Some v
    unfolding content_at
    value_is at v e = good_is (value_at start shape at) (first_content
        (gifts (gift_of start shape at) shape.place.copies)) v e

    is_value : (at : Where) (v : List ℕ) → value_at start shape at ≡ Some v → content_at at ≡ Good v
    unfolding content_at
    is_value at v e = ap (λ o. content_of o (first_content (gifts (gift_of start shape at) shape.place.copies))) e

    value_of_storage : shape.scope ≡ scope.Storage → qualifies start shape (fit_at start shape g t i) ≡ true
        → (at : Where) → In at (map where_of i.entries)
        → (v : List ℕ) × (content_at at ≡ Good v)
    value_of_storage storage passes at h =
        let (e, k, same) = In-map where_of at i.entries h in
        let le = subst (λ (s : Scope). shape.m ≤ length (supporters s start shape.place (fit_at start shape g t i)))
        storage
        (leb-true shape.m (length (supporters shape.scope start shape.place (fit_at start shape g t i))) passes) in
        let v = with_values shape start clean opens.copy g t i opens.inside opens.held opens.fit positive le e k in
        (v.0, is_value at v.0 (subst (λ (x : Where). value_at start shape x ≡ Some v.0) same v.1))

    pub carried_stands : qualifies start shape (fit_at start shape g t i) ≡ true → (e : IndexEntry) (f : Entry)
        → IsNamed shape.place new (where_of e)
        → IsCarried shape start i e f → EntryStands shape new damaged e f
    carried_stands passes e f is carried =
        let at = where_of e in
        let h = Contains-In at (map where_of i.entries) carried.named in
        let shown : f.content ≡ content_at at = carried.content ∙ content_is e in
        record {
          headed = carried.headed;
          backed = subst (λ x. Backed shape.m shape.place.copies (gift_of new shape at) x) (sym shown)
              (backed_at at h is);
          gives = λ v c good lt spared.
              let good_then : (entry_view start shape.place shape.m e).content ≡ Good v = sym carried.content ∙ good in
              let none : (entry_view start shape.place shape.m e).lacking ≡ [] =
              subst (λ x. IsMended x (entry_view start shape.place shape.m e).lacking) good_then carried.mended in
              let r = numbers_are e c none v (value_is at v (sym shown ∙ good)) lt in
              whole_at at h c v lt spared r.1 r.0;
          good = λ storage. let v = value_of_storage storage passes at h in (v.0, shown ∙ v.1);
        }

    pub entry_stands : qualifies start shape (fit_at start shape g t i) ≡ true → (e : IndexEntry) (f : Entry)
        → IsNamed shape.place new (where_of e)
        → IsContentWritten shape then e f ⊎ IsCarried shape start i e f → EntryStands shape new damaged e f
    entry_stands passes e f is (inl written) = written_stands e f is written
    entry_stands passes e f is (inr carried) = carried_stands passes e f is carried

-- a text is the only one of before, or the new one
old_or_new : (shape : Shape) (then new : Image) (g : ℕ) (t next : List ℕ) → HoldsOnly shape then g t
    → ((copy h : ℕ) (u : List ℕ) → copy < shape.place.copies → Holds new shape.place copy h u
    → Holds then shape.place copy h u ⊎ ((h ≡ g + 1) × (u ≡ next)))
    → (copy h : ℕ) (u : List ℕ) → copy < shape.place.copies → Holds new shape.place copy h u
    → ((h ≡ g) × (u ≡ t)) ⊎ ((h ≡ g + 1) × (u ≡ next))
old_or_new shape then new g t next only known copy h u lt v = elim (known copy h u lt v) [
  | inl was ↦ inl (only copy h u lt was)
  | inr newer ↦ inr newer
]

-- what an old text names, its index names
old_named : (shape : Shape) (new : Image) (g : ℕ) (t : List ℕ) (i : Index) (next : List ℕ)
    → ((copy h : ℕ) (u : List ℕ) → copy < shape.place.copies → Holds new shape.place copy h u
    → ((h ≡ g) × (u ≡ t)) ⊎ ((h ≡ g + 1) × (u ≡ next)))
    → index_of t ≡ Some i → (at : Where) → (is : IsNamed shape.place new at) → (is.generation ≡ g + 1 → ⊥)
    → In at (map where_of i.entries)
old_named shape new g t i next texts spells at is apart = elim (texts is.copy is.generation is.text is.inside is.held) [
  | inl old ↦
      let one : is.index ≡ i = some_is is.index i (sym is.spelled ∙ ap index_of old.1 ∙ spells) in
      subst (λ (j : Index). In at (map where_of j.entries)) one
      (Contains-In at (map where_of is.index.entries) is.named)
  | inr newer ↦ absurd (apart newer.0)
]

own_next : (g : ℕ) → own g ≡ own (g + 1 + 1)
own_next g = omega arith

pub index : AsideLaw → IndexLaw
index aside shape start now then g t i taken next new_index view others c positive adopted is_index takes keeps fit
    generation_is entries stops sound damaged image d =
    let place = shape.place in
    let copies = shape.place.copies in
    let both = contents_then aside shape start now then g t i taken damaged adopted is_index takes keeps in
    let less = both.0 in
    let only = both.1 in
    let clean = adopted.clean in
    let opens = adopted.opens in
    let slot_same = λ (copy h : ℕ). keeps.files (slot place copy (own h)) (slot_no_area place copy h) in
    let held = λ (copy : ℕ) (lt : copy < place.copies). subst (λ (bytes : List ℕ). VerifiesAs bytes g t)
    (sym (slot_same copy g)) (adopted.alone.held copy lt) in
    let it : IsOldOrNew place (g + 1) next damaged then image =
    stops.slots (sound_slots shape c sound) damaged image (decays_slots shape c damaged image d) in
    let same = λ (copy : ℕ). stops.elsewhere.left (area place copy) (area_no_slot place copy) in
    let given = λ (at : Where) (is : IsNamed shape.place image at) (copy : ℕ) (w : List ℕ) (lt : copy < place.copies)
    (gives : CopyGives (gift_of image shape at) copy w).
    given_then shape then c.left image damaged same d at is copy w lt gives in
    let whole = λ (at : Where) (copy : ℕ) (v : List ℕ) (spared : IsUndamaged damaged place copy)
    (was : is_whole_at then shape copy at ≡ true) (gave : CopyGives (gift_of then shape at) copy v).
    whole_then shape then c.left image damaged same d at copy v spared was gave in
    let (rest, state, passes) = open_at shape start g t i clean opens in
    let entry = λ (e : IndexEntry) (f : Entry) (is : IsNamed shape.place image (where_of e))
    (w : IsContentWritten shape then e f ⊎ IsCarried shape start i e f).
    entry_stands shape start then image damaged given whole positive clean g t i opens less held passes e f is w in
    let texts = λ (copy h : ℕ) (u : List ℕ) (lt : copy < place.copies) (v : Holds image place copy h u).
    old_or_new shape then image g t next (λ copy h u lt v. only copy h u lt v) (λ copy h u lt v. it.known copy lt h u v)
    copy h u lt v in
    let stand = λ (copy : ℕ) (lt : copy < place.copies) (v : Holds image place copy (g + 1) next).
    zip_with (λ e f. IsContentWritten shape then e f ⊎ IsCarried shape start i e f) (EntryStands shape image damaged)
    new_index.entries view.entries
    (λ e f h k w. entry e f (names_it shape image copy (g + 1) next new_index lt v fit (where_of e)
    (map-In where_of e new_index.entries h)) w) entries in
    let counted = λ (at : Where) (is : IsNamed shape.place image at) (apart : is.generation ≡ g + 1 → ⊥)
    (was : IsNamed shape.place start at) (copy : ℕ) (w : List ℕ)
    (lt : copy < place.copies) (gives : CopyGives (gift_of image shape at) copy w).
    counted_at shape start then image damaged given whole positive clean g t i opens less held at
    (old_named shape image g t i next texts (fit-spelled shape t i opens.fit) at is apart) is copy w lt gives in
    let alike_new = λ (e : IndexEntry) (h : In e new_index.entries) (is : IsNamed shape.place image (where_of e)).
    let found = zip_find (λ e f. IsContentWritten shape then e f
    ⊎ IsCarried shape start i e f) new_index.entries view.entries
    e entries h in
    let stands = entry e found.0 is found.2 in
    backed_alike shape.m place.copies (gift_of image shape (where_of e)) found.0.content stands.backed in
    let whole_old = λ (e : IndexEntry) (h : In e i.entries) (copy : ℕ) (v : List ℕ) (lt : copy < place.copies)
    (spared : IsUndamaged damaged place copy)
    (was : is_whole_at start shape copy (where_of e) ≡ true) (gave : CopyGives
    (gift_of start shape (where_of e)) copy v).
    whole_at shape start then image damaged given whole positive clean g t i opens less held (where_of e)
    (map-In where_of e i.entries h) copy v lt spared was gave in
    let stays : ((c : ℕ) → c < place.copies → IsUndamaged damaged place c → Holds image place c g t)
    ⊎ ((c : ℕ) → c < place.copies → IsUndamaged damaged place c → Holds image place c (g + 1) next) =
    elim it.stands [
      | inl old ↦ inl (λ c lt spared. old c lt spared g t (own_next g) (held c lt))
      | inr newer ↦ inr newer
    ] in
    let (r, found, is) = opens_pick shape start opens.view opens.others opens.opens in
    opened_on shape start image damaged (Opens view others) r found
    (opened_two shape start image damaged positive clean g t i opens next new_index view others fit generation_is stand
    texts counted alike_new whole_old stays)
    (opened_clean shape start image damaged positive clean g t i opens next new_index view others fit generation_is
    stand texts counted alike_new whole_old stays)
