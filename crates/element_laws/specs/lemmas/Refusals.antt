-- Outcomes that a stop may not leave, and storages in use.
use Rattle.std.proofs.Common.{◌≡◌, ℕ, zero, suc, ◌+◌, ◌*◌, ◌<◌, ◌≤◌, List, [], None, refl, sym, ap, subst, ◌∙◌, inl}
use Rattle.std.proofs.Common.{inr, arith, ◌∷◌, Bool, true, false, cond, find, Some}
use Rattle.std.specs.Prelude.{map}
use Rattle.std.specs.List.{AllByRecursion, Contains}
use Rattle.per_base.specs.declared.elements.Entry.{Entry}
use Rattle.per_base.specs.declared.elements.Content.{Content}
use Rattle.per_base.specs.declared.elements.Content.TheVariants.{Good, Bad}
use Rattle.disk_model.specs.Image.{Image}
use Rattle.disk_model.specs.Damage.{AtLeast}
use Rattle.index_text.specs.declared.entries.Index.{Index}
use Rattle.index_text.specs.declared.entries.IndexEntry.{IndexEntry}
use Rattle.element_state.specs.Fit.{FitText, fit_index, fit_texts}
use Rattle.guarded_cell.specs.Register.{Holds}
use Rattle.element_state.specs.declared.shapes.Shape.{Shape}
use Rattle.element_state.specs.declared.shapes.View.{View}
use Rattle.element_state.specs.States.{Opens, beside, first_picked, state_of, store_at}
use Rattle.block_files.specs.Aside.{Where}
use Rattle.block_files.specs.Contents.{first_content, lacking}
use Rattle.element_state.specs.Views.{entry_view, content_of, qualifies, view_of}
use Rattle.element_state.specs.Clean.{where_of}
use Rattle.element_state.specs.Conditions.{IsMended, IsInUse}
use Rattle.element_state.specs.Kept.{HasEnough, IsSpared, KeepsGood}
use Rattle.element_laws.specs.Phases.{InUseLaw, CarriedLaw, WholeLaw, OpenedLaw}
use Rattle.element_laws.specs.Refused.{one, IndexFirst, IndexFirstRebuilt, OldOverwritten, OtherValue, Planted}
use Rattle.element_laws.specs.Refused.{CopyEaten, OtherRaised, SalvageRaised, SalvageLost}
use Rattle.element_laws.specs.lemmas.Lists.{In, Contains-In, In-Contains, map-In, Contains-head, all_in, nothing_listed}
use Rattle.element_laws.specs.lemmas.Lists.{not_none, some_is}
use Rattle.element_laws.specs.lemmas.Copies.{good_same, bad_good, gifts}
use Rattle.element_laws.specs.lemmas.Standing.{gift_of, generation_of}
use Rattle.element_laws.specs.lemmas.Left.{value_at, good_is, spared_has}
use Rattle.element_laws.specs.lemmas.Fits.{In-fit, picked_parts}
use Rattle.element_laws.specs.lemmas.Phases.{opens_pick}

at_least_all : (P : ℕ → Type 0) (n m : ℕ) → ((c : ℕ) → c < n → P c) → m ≤ n → AtLeast P n m
at_least_all P n zero all le = tt
at_least_all P zero (suc m) all le = absurd (omega (arith, le))
at_least_all P (suc n) (suc m) all le = inl (
  all n (omega arith),
  at_least_all P n m (λ c lt. all c (omega (arith, lt))) (omega (arith, le)),
)

-- without damage every copy that lacks nothing is left
all_left : (shape : Shape) → shape.m ≤ shape.place.copies → HasEnough shape [] []
all_left shape le = at_least_all (IsSpared shape [] []) shape.place.copies shape.m
    (λ c lt. (λ k small. nothing_listed (shape.place.first + 4 * c + k), nothing_listed (c + 1))) le

not_next : (g : ℕ) → g + 1 ≡ g → ⊥
not_next g e = omega (arith, e)

view_at : (a b : View) (s t : List View) → Opens a s ≡ Opens b t → a ≡ b
view_at a b s t e = cc

pub index_first : IndexFirst
index_first shape g was is le k =
    let r = k.stays (all_left shape le) in
    let w : one (g + 1) (Bad None) ≡ r.0 = view_at (one (g + 1) (Bad None)) r.0 [] r.1 r.2 in
    elim r.3 [
      | inl old ↦ not_next g (ap (λ (v : View). v.generation) w ∙ old.0.generation)
      | inr new ↦
          let after : one (g + 1) (Good is) ≡ new.1 = view_at (one (g + 1) (Good is)) new.1 [] new.2 new.3 in
          let keeps = subst (λ v. KeepsGood shape [] v new.1) (sym w) new.5 in
          let both = subst (λ v. KeepsGood shape [] (one (g + 1) (Bad None)) v) (sym after) keeps in
          bad_good None is (both.0 is refl (inr (all_left shape le)))
    ]

pub index_first_rebuilt : IndexFirstRebuilt
index_first_rebuilt shape g salvage is le k =
    let becomes = k.stays (one g (Bad None)) [] refl in
    bad_good None is (becomes.1.0 is refl (inr (all_left shape le)))

pub old_overwritten : OldOverwritten
old_overwritten shape g was is le k =
    let r = k.stays (all_left shape le) in
    let w : one g (Bad None) ≡ r.0 = view_at (one g (Bad None)) r.0 [] r.1 r.2 in
    elim r.3 [
      | inl old ↦
          let keeps = subst (λ v. KeepsGood shape [] v (one g (Good was))) (sym w) old.1 in
          bad_good None was (keeps.0 was refl (inr (all_left shape le)))
      | inr new ↦
          let after : one (g + 1) (Good is) ≡ new.1 = view_at (one (g + 1) (Good is)) new.1 [] new.2 new.3 in
          not_next g (ap (λ (v : View). v.generation) after ∙ sym new.4.generation
          ∙ ap (λ (v : View). v.generation) (sym w))
    ]

pub other_value : OtherValue
other_value shape g was is other ne k = elim k.known.0 [
  | inl old ↦ ne (sym (good_same was other old.contents.0))
  | inr rest ↦ elim rest [ inl new ↦ not_next g (sym new.same.generation) | inr none ↦ none ]
]

pub planted : Planted
planted shape g h was is never ng nh k = elim k.known.1.0 [
  | inl old ↦ ng old.same.generation
  | inr rest ↦ elim rest [ inl new ↦ nh new.same.generation | inr none ↦ none ]
]

pub copy_eaten : CopyEaten
copy_eaten shape g copy was is lt k =
    let costs = (k.copies.0 (record { generation = refl; entries = refl })).1 in
    costs.0 was copy refl lt (λ j small. nothing_listed (shape.place.first + 4 * copy + j), nothing_listed (copy + 1))
    (Contains-head (copy + 1) (copy + 1) [] refl)

pub other_raised : OtherRaised
other_raised shape g h was other others rest le ne k =
    let r = k.stays (all_left shape le) in
    let w : one h (Good other) ≡ r.0 = view_at (one h (Good other)) r.0 rest r.1 r.2 in
    let e = ap (λ (v : View). v.generation) w in
    elim r.3 [
      | inl old ↦ ne (e ∙ old.0.generation)
      | inr new ↦
          let after : one g (Good was) ≡ new.1 = view_at (one g (Good was)) new.1 [] new.2 new.3 in
          ne (e ∙ new.4.generation ∙ sym (ap (λ (v : View). v.generation) after))
    ]

pub salvage_raised : SalvageRaised
salvage_raised shape g was is others rest k = not_next g (sym (k.stays (one g (Good was)) rest refl).0.generation)

pub salvage_lost : SalvageLost
salvage_lost shape g was is some k =
    let left = k.salvage (
      0,
      some,
      (
        (λ n small. nothing_listed (shape.place.first + 4 * 0 + n)),
        nothing_listed (0 + 1),
      ),
    ) in
    not_none left.0 (sym left.1)

-- ---- storages in use

pub in_use : InUseLaw
in_use shape image index v clean used =
    let (r, e, is) = opens_pick shape image v [] used.opens in
    let fit = In-fit image shape r.0 ((picked_parts _ _ r e).1 r.0 (inl refl)) in
    record {
      clean = clean;
      opens = record {
        copy = fit.copy;
        inside = fit.inside;
        held = used.alone.held fit.copy fit.inside;
        fit = used.fit;
        view = v;
        others = [];
        opens = used.opens;
        generation_is = refl;
      };
      alone = used.alone;
      areas = λ f none. refl;
    }

entry_named : (shape : Shape) (image : Image) (index : Index) (v : View) (old : IndexEntry)
    → IsInUse shape image index v → In old index.entries
    → IsMended (entry_view image shape.place shape.m old).content (entry_view image shape.place shape.m old).lacking
entry_named shape image index v old used h =
    all_in (λ (e : Entry). IsMended e.content e.lacking) (map (entry_view image shape.place shape.m) index.entries)
    (subst (λ (es : List Entry). AllByRecursion (λ (e : Entry). IsMended e.content e.lacking) es) used.entries
    used.mended)
    (entry_view image shape.place shape.m old) (map-In (entry_view image shape.place shape.m) old index.entries h)

abbrev content_at : Shape → Image → Where → Content
content_at shape image at = content_of (value_at image shape at)
    (first_content (gifts (gift_of image shape at) shape.place.copies))

abbrev lacking_at : Shape → Image → Where → List ℕ
lacking_at shape image at = lacking (value_at image shape at) shape.place at.blocks at.len
    at.hash image

-- what is seen of an entry goes by where its content is
seen_by : (shape : Shape) (image : Image) (a b : IndexEntry) → where_of a ≡ where_of b
    → ((entry_view image shape.place shape.m a).content ≡ (entry_view image shape.place shape.m b).content)
    × ((entry_view image shape.place shape.m a).lacking ≡ (entry_view image shape.place shape.m b).lacking)
unfolding entry_view
seen_by shape image a b same = (ap (content_at shape image) same, ap (lacking_at shape image) same)

pub carried : CarriedLaw
carried shape image index v old e f used there same headed content =
    let h = Contains-In old index.entries there in
    let seen = seen_by shape image e old same in
    record {
      headed = headed;
      named = In-Contains (where_of e) (map where_of index.entries)
          (subst (λ (x : Where). In x (map where_of index.entries)) (sym same) (map-In where_of old index.entries h));
      content = content ∙ sym seen.0;
      mended = subst (λ (x : Content). IsMended x (entry_view image shape.place shape.m e).lacking) (sym seen.0)
          (subst (λ (xs : List ℕ). IsMended (entry_view image shape.place shape.m old).content xs) (sym seen.1)
          (entry_named shape image index v old used h));
    }

pub whole : WholeLaw
unfolding entry_view
whole shape image e v good none c lt =
    spared_has shape image (where_of e) v c (good_is (value_at image shape (where_of e))
    (first_content (gifts (gift_of image shape (where_of e)) shape.place.copies)) v good) lt
    (λ listed. nothing_listed (c + 1) (subst (λ (xs : List ℕ). Contains xs (c + 1)) none listed))

-- ---- what a survey finds

found_pick : {A : Type 0} (q : A → Bool) (xs : List A) (x : A) → find q xs ≡ Some x
    → (r : A × List A) × (first_picked q xs ≡ Some r) × (r.0 ≡ x)
found_pick q [] x e = absurd (not_none x (sym e))
found_pick {A} q (y ∷ ys) x e = elim (q y) as (λ b. cond b (Some y) (find q ys) ≡ Some x
    → (r : A × List A) × (cond b (Some (y, ys)) (beside y (first_picked q ys)) ≡ Some r) × (r.0 ≡ x)) [
      | true ↦ λ e. ((y, ys), refl, some_is y x e)
      | false ↦ λ e. let r = found_pick q ys x e in ((r.0.0, y ∷ r.0.1), ap (beside y) r.1, r.2)
    ] e

pub opened : OpenedLaw
unfolding store_at
opened shape start text e =
    let (r, picks, same) = found_pick (qualifies start shape) (fit_texts shape start) text e in
    let u = In-fit start shape r.0 ((picked_parts (qualifies start shape) (fit_texts shape start) r picks).1 r.0
    (inl refl)) in
    let is = u.is ∙ same in
    let generation : u.generation ≡ text.0.generation = ap (λ (x : FitText). x.0.generation) is in
    let its : u.text ≡ text.0.text = ap (λ (x : FitText). x.0.text) is in
    let index : u.index ≡ text.1 = ap (λ (x : FitText). x.1) is in
    record {
      copy = u.copy;
      inside = u.inside;
      held = subst (λ (g : ℕ). Holds start shape.place u.copy g text.0.text) generation
          (subst (λ (t : List ℕ). Holds start shape.place u.copy u.generation t) its u.holds);
      fit = subst (λ (i : Index). fit_index shape text.0.text ≡ Some i) index
          (subst (λ (t : List ℕ). fit_index shape t ≡ Some u.index) its u.fit);
      view = view_of start shape r.0;
      others = map (view_of start shape) r.1;
      opens = ap (state_of (view_of start shape) (fit_texts shape start)) picks;
      generation_is = generation_of shape start r.0 ∙ ap (λ (x : FitText). x.0.generation) same;
    }
