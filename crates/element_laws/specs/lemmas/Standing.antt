-- What it takes to keep a storage: a known view for each text that may be found, and one that is found where enough
-- copies are left.
use Rattle.std.proofs.Common.{◌≡◌, ℕ, ◌<◌, ◌≤◌, ◌⊎◌, Bool, true, List, [], ◌∷◌, ◌++◌, Option, Some, None, refl, sym, ap}
use Rattle.std.proofs.Common.{subst, ◌∙◌, inl, inr}
use Rattle.std.specs.Prelude.{map}
use Rattle.std.specs.List.{AllZip, AllByRecursion}
use Rattle.per_base.specs.declared.elements.Scope.TheVariants as scope
use Rattle.per_base.specs.declared.elements.FileInfo.{FileInfo}
use Rattle.per_base.specs.declared.elements.Entry.{Entry}
use Rattle.per_base.specs.declared.elements.Content.TheVariants.{Good}
use Rattle.disk_model.specs.Image.{Image}
use Rattle.disk_model.specs.Damage.{AtLeast}
use Rattle.guarded_cell.specs.Register.{Holds}
use Rattle.block_files.specs.Aside.{Where}
use Rattle.block_files.specs.Contents.{first_content}
use Rattle.index_text.specs.declared.entries.Index.{Index}
use Rattle.index_text.specs.declared.entries.IndexEntry.{IndexEntry}
use Rattle.element_state.specs.declared.shapes.Shape.{Shape}
use Rattle.element_state.specs.declared.shapes.View.{View}
use Rattle.element_state.specs.Fit.{FitText, fit_index, fit_texts}
use Rattle.element_state.specs.Views.{entry_view, view_of, content_of, qualifies}
use Rattle.element_state.specs.States.{State, Opens, Corrupt, first_picked, state_of, store_at, corrupt_state}
use Rattle.element_state.specs.States.{salvage_of}
use Rattle.element_state.specs.Clean.{where_of, counting_at, IsClean}
use Rattle.element_state.specs.Kept.{heading, SameHeadings, IsLeftOf, IsFrom, IsFromOneOf, HasEnough, KeepsGood}
use Rattle.element_state.specs.Kept.{KeepsEach, CostsNoCopy, SalvageStays, views_in, all_views, BecomesAs, StaysOpen}
use Rattle.element_state.specs.Kept.{CopiesStay, Kept}
use Rattle.element_laws.specs.lemmas.Lists.{In, all_by, some_is, zip_left, zip_with, zip_both}
use Rattle.element_laws.specs.lemmas.Copies.{Gift, CopyGives, gifts, Backed, left_of, good_now}
use Rattle.element_laws.specs.lemmas.Fits.{fit_at, In-fit, fit-In, fit_descends, pick_greatest, In-views}

-- what the copies give of a content
abbrev pub gift_of : Image → Shape → Where → Gift
gift_of image shape at copy = counting_at image shape.place copy at

abbrev pub index_heading : IndexEntry → List ℕ × Option FileInfo × ℕ × ℕ
index_heading e = (e.name, e.info, e.len, e.changed)

-- a text that may be found, beside a view that it denotes
pub record DenotesView (shape : Shape) (image : Image) (generation : ℕ) (index : Index) (there : View) : Type 0 where
  pub generation_is : generation ≡ there.generation
  pub headings : map index_heading index.entries ≡ map heading there.entries
  pub backed : AllZip (λ e f. Backed shape.m shape.place.copies (gift_of image shape (where_of e)) f.content)
      index.entries there.entries

-- in a clean image two texts that fit and have one generation are one
pub one_fit : (shape : Shape) (image : Image) → IsClean shape image → (y z : FitText) → In y (fit_texts shape image)
    → In z (fit_texts shape image)
    → y.0.generation ≡ z.0.generation → y ≡ z
one_fit shape image clean y z hy hz e =
    let u = In-fit image shape y hy in
    let v = In-fit image shape z hz in
    let g : u.generation ≡ v.generation = ap (λ (x : FitText). x.0.generation) u.is ∙ e
    ∙ sym (ap (λ (x : FitText). x.0.generation) v.is) in
    let t : u.text ≡ v.text = clean.one_each u.copy v.copy v.generation u.text v.text u.inside v.inside
    (subst (λ (n : ℕ). Holds image shape.place u.copy n u.text) g u.holds) v.holds in
    let i : u.index ≡ v.index = some_is u.index v.index (sym u.fit ∙ ap (fit_index shape) t ∙ v.fit) in
    sym u.is ∙ (λ j. fit_at image shape (g j) (t j) (i j)) ∙ v.is

from_one : (w there : View) (vs : List View) → In there vs → IsFrom w there → IsFromOneOf w vs
from_one w there [] h f = absurd h
from_one w there (v ∷ vs) (inl e) f = inl (subst (λ x. IsFrom w x) (sym e) f)
from_one w there (v ∷ vs) (inr h) f = inr (from_one w there vs h f)

-- ---- a text, as it is seen on an image

module _ (shape : Shape) (image : Image) where
  headings_over : (es : List IndexEntry) → map heading (map (entry_view image shape.place shape.m) es)
      ≡ map index_heading es
  unfolding entry_view
  headings_over [] = refl
  headings_over (e ∷ es) = λ j. index_heading e ∷ headings_over es j

  pub headings_of : (y : FitText) → map heading (view_of image shape y).entries ≡ map index_heading y.1.entries
  unfolding view_of
  headings_of y = headings_over y.1.entries

  pub generation_of : (y : FitText) → (view_of image shape y).generation ≡ y.0.generation
  unfolding view_of
  generation_of y = refl

-- enough copies give the value of each good element of which enough copies are left
abbrev pub HasBackedValue : Shape → Image → (damaged : List ℕ) → IndexEntry → Entry → Type 0
HasBackedValue shape image damaged e f = (v : List ℕ) → f.content ≡ Good v
    → (shape.scope ≡ scope.Storage) ⊎ HasEnough shape damaged f.lacking
    → AtLeast (λ c. CopyGives (gift_of image shape (where_of e)) c v) shape.place.copies shape.m

-- so they do with enough copies left of the element, in either scope
abbrev pub HasEach : Shape → Image → (damaged : List ℕ) → IndexEntry → Entry → Type 0
HasEach shape image damaged e f = (v : List ℕ) → f.content ≡ Good v → HasEnough shape damaged f.lacking
    → AtLeast (λ c. CopyGives (gift_of image shape (where_of e)) c v) shape.place.copies shape.m

module _ (shape : Shape) (image : Image) (damaged : List ℕ) (positive : 1 ≤ shape.m) (clean : IsClean shape image) where
  abbrev view : FitText → View
  view = view_of image shape

  abbrev q : FitText → Bool
  q = qualifies image shape

  abbrev xs : List FitText
  xs = fit_texts shape image

  pub same_headings : (g : ℕ) (t : List ℕ) (i : Index) (there : View) → DenotesView shape image g i there
      → SameHeadings (view (fit_at image shape g t i)) there
  same_headings g t i there s = record {
    generation = generation_of shape image (fit_at image shape g t i) ∙ s.generation_is;
    entries = headings_of shape image (fit_at image shape g t i) ∙ s.headings;
  }

  left_entry : (e : IndexEntry) (f : Entry) → Backed shape.m shape.place.copies (gift_of image shape (where_of e))
      f.content
      → IsLeftOf (entry_view image shape.place shape.m e).content f.content
  unfolding entry_view
  left_entry e f b = left_of shape.m shape.place.copies positive (gift_of image shape (where_of e)) f.content b

  from : (g : ℕ) (t : List ℕ) (i : Index) (there : View) → DenotesView shape image g i there
      → IsFrom (view (fit_at image shape g t i)) there
  unfolding view_of
  from g t i there s = record {
    same = same_headings g t i there s;
    contents = zip_left (λ (e f : Entry). IsLeftOf e.content f.content) (entry_view image shape.place shape.m) i.entries
        there.entries
        (zip_with (λ e f. Backed shape.m shape.place.copies (gift_of image shape (where_of e)) f.content)
        (λ e f. IsLeftOf (entry_view image shape.place shape.m e).content f.content) i.entries there.entries
        (λ e f ie jf b. left_entry e f b) s.backed);
  }

  good_value : (e : IndexEntry) (f : Entry) (v : List ℕ)
      → Backed shape.m shape.place.copies (gift_of image shape (where_of e)) f.content → f.content ≡ Good v
      → AtLeast (λ c. CopyGives (gift_of image shape (where_of e)) c v) shape.place.copies shape.m
      → (entry_view image shape.place shape.m e).content ≡ Good v
  unfolding entry_view
  good_value e f v backed good enough =
      let gift : Gift = gift_of image shape (where_of e) in
      let all = subst (λ x. Backed shape.m shape.place.copies gift x) good backed in
      ap (λ o. content_of o (first_content (gifts gift shape.place.copies)))
      (good_now shape.m shape.place.copies positive gift v all enough)

  pub keeps : (g : ℕ) (t : List ℕ) (i : Index) (there : View) → DenotesView shape image g i there
      → AllZip (HasBackedValue shape image damaged) i.entries there.entries
      → KeepsGood shape damaged (view (fit_at image shape g t i)) there
  unfolding view_of
  keeps g t i there s n =
      zip_left (λ (e f : Entry). (v : List ℕ) → f.content ≡ Good v
      → (shape.scope ≡ scope.Storage) ⊎ HasEnough shape damaged f.lacking → e.content ≡ Good v)
      (entry_view image shape.place shape.m) i.entries there.entries
      (zip_with (λ e f. Backed shape.m shape.place.copies (gift_of image shape (where_of e)) f.content
      × HasBackedValue shape image damaged e f)
      (λ e f. (v : List ℕ) → f.content ≡ Good v → (shape.scope ≡ scope.Storage) ⊎ HasEnough shape damaged f.lacking
      → (entry_view image shape.place shape.m e).content ≡ Good v) i.entries there.entries
      (λ e f ie jf b v good enough. good_value e f v b.0 good (b.1 v good enough))
      (zip_both (λ e f. Backed shape.m shape.place.copies (gift_of image shape (where_of e)) f.content)
      (HasBackedValue shape image damaged) i.entries there.entries s.backed n))

  pub keeps_each : (g : ℕ) (t : List ℕ) (i : Index) (there : View) → DenotesView shape image g i there
      → AllZip (HasEach shape image damaged) i.entries there.entries
      → KeepsEach shape damaged (view (fit_at image shape g t i)) there
  unfolding view_of
  keeps_each g t i there s n =
      zip_left (λ (e f : Entry). (v : List ℕ) → f.content ≡ Good v → HasEnough shape damaged f.lacking
      → e.content ≡ Good v)
      (entry_view image shape.place shape.m) i.entries there.entries
      (zip_with (λ e f. Backed shape.m shape.place.copies (gift_of image shape (where_of e)) f.content
      × HasEach shape image damaged e f)
      (λ e f. (v : List ℕ) → f.content ≡ Good v → HasEnough shape damaged f.lacking
      → (entry_view image shape.place shape.m e).content ≡ Good v) i.entries there.entries
      (λ e f ie jf b v good enough. good_value e f v b.0 good (b.1 v good enough))
      (zip_both (λ e f. Backed shape.m shape.place.copies (gift_of image shape (where_of e)) f.content)
      (HasEach shape image damaged) i.entries there.entries s.backed n))

  -- the text that is found, and the view that it denotes: that of before, or, of another generation, that of after
  pub record Found (v : View) (after : State) : Type 0 where
    pub generation : ℕ
    pub text : List ℕ
    pub index : Index
    pub there : View
    pub copy : ℕ
    pub inside : copy < shape.place.copies
    pub holds : Holds image shape.place copy generation text
    pub fit : fit_index shape text ≡ Some index
    pub passes : q (fit_at image shape generation text index) ≡ true
    pub most : (z : FitText) → In z xs → q z ≡ true → z.0.generation ≤ generation
    pub stands : DenotesView shape image generation index there
    pub enough : AllZip (HasBackedValue shape image damaged) index.entries there.entries
    pub costs : CostsNoCopy shape damaged (view (fit_at image shape generation text index)) there
    pub which : (there ≡ v) ⊎ ((there.generation ≡ v.generation → ⊥) × (rest : List View) × (after ≡ Opens there rest))

  opens : (v : View) (others : List View) (after : State) → Found v after
      → StaysOpen shape damaged (store_at image shape) (Opens v others) after
  unfolding store_at
  opens v others after f enough =
      let y : FitText = fit_at image shape f.generation f.text f.index in
      let hy = fit-In image shape f.copy f.generation f.text f.index f.inside f.holds f.fit in
      let g = pick_greatest q xs y (fit_descends image shape) hy f.passes f.most
      (λ z h e. one_fit shape image clean z y h hy e) in
      let w : View = view g.0.0 in
      let same = subst (λ x. SameHeadings (view x) f.there) (sym g.2)
      (same_headings f.generation f.text f.index f.there f.stands) in
      let good = subst (λ x. KeepsGood shape damaged (view x) f.there) (sym g.2)
      (keeps f.generation f.text f.index f.there f.stands f.enough) in
      let costs = subst (λ x. CostsNoCopy shape damaged (view x) f.there) (sym g.2) f.costs in (
        w,
        map view g.0.1,
        ap (state_of view xs) g.1,
        elim f.which [
          | inl e ↦ inl (subst (λ x. SameHeadings w x) e same, subst (λ x. KeepsGood shape damaged w x) e good)
          | inr o ↦ inr ((λ s. o.0 (sym same.generation ∙ s.generation)), f.there, o.1, o.2, same, good, costs)
        ],
      )

  -- each text that may be found denotes a view of before, or for that of after
  abbrev pub EachStands : State → State → Type 0
  EachStands before after = (copy g : ℕ) (t : List ℕ) (i : Index) → copy < shape.place.copies
      → Holds image shape.place copy g t
      → fit_index shape t ≡ Some i → (there : View) × In there (all_views before ++ views_in (salvage_of after))
      × DenotesView shape image g i there

  known_by : (before after : State) → EachStands before after
      → AllByRecursion (λ w. IsFromOneOf w (all_views before ++ views_in (salvage_of after)))
      (all_views (store_at image shape))
  unfolding store_at
  known_by before after each = all_by (λ w. IsFromOneOf w (all_views before ++ views_in (salvage_of after)))
      (all_views (state_of view xs (first_picked q xs))) (λ w h.
      let r = In-views view q xs w (first_picked q xs) refl h in
      let u = In-fit image shape r.0 r.1 in
      let s = each u.copy u.generation u.text u.index u.inside u.holds u.fit in
      from_one w s.0 (all_views before ++ views_in (salvage_of after)) s.1
      (subst (λ x. IsFrom x s.0) (ap view u.is ∙ r.2) (from u.generation u.text u.index s.0 s.2)))

  -- each text with the headings of the view has its contents left, and the stop has cost it no copy
  abbrev pub SparesCopies : View → Type 0
  SparesCopies v = (copy g : ℕ) (t : List ℕ) (i : Index) → copy < shape.place.copies
      → Holds image shape.place copy g t → fit_index shape t ≡ Some i
      → g ≡ v.generation → DenotesView shape image g i v × CostsNoCopy shape damaged (view (fit_at image shape g t i)) v

  spared_by : (v : View) (others : List View) → SparesCopies v
      → CopiesStay shape damaged (store_at image shape) (Opens v others)
  unfolding store_at
  spared_by v others spares = all_by (λ w. SameHeadings w v → IsFrom w v × CostsNoCopy shape damaged w v)
      (all_views (state_of view xs (first_picked q xs))) (λ w h same.
      let r = In-views view q xs w (first_picked q xs) refl h in
      let u = In-fit image shape r.0 r.1 in
      let is : view (fit_at image shape u.generation u.text u.index) ≡ w = ap view u.is ∙ r.2 in
      let g : u.generation ≡ v.generation = ap (λ (x : FitText). x.0.generation) u.is
      ∙ sym (generation_of shape image r.0) ∙ ap (λ (x : View). x.generation) r.2 ∙ same.generation in
      let s = spares u.copy u.generation u.text u.index u.inside u.holds u.fit g in (
        subst (λ x. IsFrom x v) is (from u.generation u.text u.index v s.0),
        subst (λ x. CostsNoCopy shape damaged x v) is s.1,
      ))

  pub kept_opens : (v : View) (others : List View) (after : State) → EachStands (Opens v others) after → SparesCopies v
      → (HasEnough shape damaged v.lacking → Found v after)
      → Kept shape damaged (store_at image shape) (Opens v others) after
  unfolding store_at
  kept_opens v others after each spares found = record {
    known = known_by (Opens v others) after each;
    stays = λ enough. opens v others after (found enough) enough;
    copies = spared_by v others spares;
    salvage = tt;
  }

  -- where nothing opened before, what opens is the view of after
  pub kept_corrupt : (salvage : Option View) (others : List View) (after : State)
      → EachStands (Corrupt salvage others) after
      → ((w : View) (rest : List View) → store_at image shape ≡ Opens w rest → BecomesAs shape damaged w after)
      → SalvageStays shape damaged (store_at image shape) (Corrupt salvage others) after
      → Kept shape damaged (store_at image shape) (Corrupt salvage others) after
  kept_corrupt salvage others after each like stays = record {
    known = known_by (Corrupt salvage others) after each;
    stays = like;
    copies = tt;
    salvage = stays;
  }

  pub corrupt_kept : (vs : List View) (after : State) → EachStands (corrupt_state vs) after
      → ((w : View) (rest : List View) → store_at image shape ≡ Opens w rest → BecomesAs shape damaged w after)
      → SalvageStays shape damaged (store_at image shape) (corrupt_state vs) after
      → Kept shape damaged (store_at image shape) (corrupt_state vs) after
  corrupt_kept [] after each like stays = kept_corrupt None [] after each like stays
  corrupt_kept (v ∷ vs) after each like stays = kept_corrupt (Some v) vs after each like stays
