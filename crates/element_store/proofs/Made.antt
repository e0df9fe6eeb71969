-- A storage that is in use after its contents were written and its index was put into every copy.
use Rattle.std.proofs.Common.{◌≡◌, ℕ, ◌+◌, ◌<◌, ◌≤◌, List, [], ◌∷◌, length, true, false, Some, None, refl, sym, ap, ◌∙◌}
use Rattle.std.proofs.Common.{arith}
use Rattle.std.specs.Prelude.{map}
use Rattle.std.specs.List.{AllByRecursion, list_all}
use Rattle.std.proofs.lemmas.Bool.{cond-true, and_from}
use Rattle.per_base.specs.declared.elements.Scope.{Scope}
use Rattle.per_base.specs.declared.elements.Scope.TheVariants as scope
use Rattle.per_base.specs.declared.elements.Entry.{Entry}
use Rattle.per_base.specs.declared.elements.Fresh.{Fresh}
use Rattle.per_base.specs.Maps.{Map}
use Rattle.disk_model.specs.declared.place.Place.{Place}
use Rattle.disk_model.specs.Image.{Image}
use Rattle.guarded_cell.specs.Register.{IsAlone}
use Rattle.guarded_cell.specs.Held.{holds}
use Rattle.index_text.specs.declared.entries.Index.{Index}
use Rattle.index_text.specs.declared.entries.IndexEntry.{IndexEntry}
use Rattle.index_text.specs.Reading.{index_of}
use Rattle.index_text.specs.Sizes.{fits}
use Rattle.index_text.specs.Spelling.{index_text}
use Rattle.element_state.specs.declared.shapes.Shape.{Shape}
use Rattle.element_state.specs.declared.shapes.View.{View}
use Rattle.element_state.specs.Fit.{fit_index, if_fits}
use Rattle.element_state.specs.Views.{entry_view, counts, holds_all, supporters, lacks_one}
use Rattle.element_state.specs.States.{Opens, store_at, whole_view, lacking_by, fresh_entry, fresh_map, fresh_view}
use Rattle.element_state.specs.Conditions.{IsShape, IsMended, IsInUse}
use Rattle.element_store.specs.Spelled.{ShowsFresh}
use Rattle.element_store.proofs.Alone.{alone_text, opens_alone, supports_element, all_hold, all_copies, no_copies}
use Rattle.element_store.proofs.Shown.{view_counts}

-- the index that a text spells fits
pub fit_of : (shape : Shape) (text : List ℕ) (index : Index) → index_of text ≡ Some index
    → fits shape.kind shape.allowed index ≡ true → fit_index shape text ≡ Some index
unfolding fit_index
fit_of shape text index is fit = ap (if_fits shape) is
    ∙ cond-true (fits shape.kind shape.allowed index) (Some index) None fit

pub shown_map : (image : Image) (place : Place) (m generation : ℕ) (contents : List Fresh) (entries : List IndexEntry)
    → ShowsFresh image place m generation contents entries
    → map (fresh_entry generation) (fresh_map contents) ≡ map (entry_view image place m) entries
shown_map image place m g [] [] zip = refl
shown_map image place m g [] (e ∷ es) zip = absurd zip
shown_map image place m g (f ∷ fs) [] zip = absurd zip
shown_map image place m g (f ∷ fs) (e ∷ es) zip =
    ap (λ (x : Entry). x ∷ map (fresh_entry g) (fresh_map fs)) (sym zip.0)
    ∙ ap (λ (xs : List Entry). entry_view image place m e ∷ xs) (shown_map image place m g fs es zip.1)

-- other writes of a place than to its areas
pub shown_still : (old new : Image) (place : Place) (m generation : ℕ)
    → ((e : IndexEntry) → entry_view new place m e ≡ entry_view old place m e)
    → (contents : List Fresh) (entries : List IndexEntry) → ShowsFresh old place m generation contents entries
    → ShowsFresh new place m generation contents entries
shown_still old new place m g same [] [] zip = tt
shown_still old new place m g same [] (e ∷ es) zip = absurd zip
shown_still old new place m g same (f ∷ fs) [] zip = absurd zip
shown_still old new place m g same (f ∷ fs) (e ∷ es) zip =
    (same e ∙ zip.0, shown_still old new place m g same fs es zip.1)

none_lack : (generation number : ℕ) (contents : Map) → lacks_one (map (fresh_entry generation) contents) number ≡ false
none_lack g number [] = refl
none_lack g number (f ∷ fs) = none_lack g number fs

all_mended : (generation : ℕ) (contents : List Fresh) → AllByRecursion (λ (e : Entry). IsMended e.content e.lacking)
    (map (fresh_entry generation) (fresh_map contents))
all_mended g [] = tt
all_mended g (f ∷ fs) = (refl, all_mended g fs)

all_count : (image : Image) (place : Place) (m generation : ℕ) (contents : List Fresh) (entries : List IndexEntry)
    → ShowsFresh image place m generation contents entries
    → (c : ℕ) → c < place.copies → list_all (λ e. counts image place e c) entries ≡ true
all_count image place m g [] [] zip c lt = refl
all_count image place m g [] (e ∷ es) zip c lt = absurd zip
all_count image place m g (f ∷ fs) [] zip c lt = absurd zip
all_count image place m g (f ∷ fs) (e ∷ es) zip c lt =
    and_from (counts image place e c) (list_all (λ e. counts image place e c) es)
    (view_counts image place m e f.bytes (ap (λ (x : Entry). x.content) zip.0) (ap (λ (x : Entry). x.lacking) zip.0) c
    lt) (all_count image place m g fs es zip.1 c lt)

lacking_fresh : (s : Scope) (generation copies : ℕ) (contents : Map)
    → lacking_by s (map (fresh_entry generation) contents) copies ≡ []
lacking_fresh scope.Element g copies contents = refl
lacking_fresh scope.Storage g copies contents = no_copies (λ copy. lacks_one (map (fresh_entry g) contents) (copy + 1))
    copies (λ c lt. none_lack g (c + 1) contents)

pub whole_fresh : (shape : Shape) (generation : ℕ) (contents : Map)
    → whole_view shape generation (map (fresh_entry generation) contents) ≡ fresh_view generation contents
whole_fresh shape g contents =
    ap (λ (ls : List ℕ). record {
      generation = g;
      lacking = ls;
      sole = true;
      entries =
          map (fresh_entry g) contents;
    }) (lacking_fresh shape.scope g shape.place.copies contents)

module _ (shape : Shape) (image : Image) (generation : ℕ) (contents : List Fresh) (index : Index) (is : IsShape shape)
    (alone : IsAlone image shape.place generation (index_text index))
    (fit : fit_index shape (index_text index) ≡ Some index)
    (shown : ShowsFresh image shape.place shape.m generation contents index.entries) where
  some : 1 ≤ shape.place.copies
  some = (let a = is.some in let b = is.enough in omega (arith, a, b))

  supported : (s : Scope) → shape.m ≤ length (supporters s image shape.place
      (alone_text image shape generation (index_text index) index some alone fit))
  supported scope.Element =
      let long = supports_element image shape generation (index_text index) index some alone fit in
      let b = is.enough in
      omega (arith, long, b)
  supported scope.Storage =
      let long = all_copies (holds_all image shape.place (alone_text image shape generation (index_text index) index
      some alone fit)) shape.place.copies (λ c lt.
      and_from (holds image shape.place c (generation, index_text index))
      (list_all (λ e. counts image shape.place e c) index.entries)
      (all_hold image shape.place generation (index_text index) some alone c lt)
      (all_count image shape.place shape.m generation contents index.entries shown c lt)) in
      let b = is.enough in
      omega (arith, long, b)

  pub made_opens : store_at image shape ≡ Opens (fresh_view generation (fresh_map contents)) []
  made_opens =
      opens_alone image shape generation (index_text index) index some alone fit (supported shape.scope)
      ∙ ap (λ (es : List Entry). Opens (whole_view shape generation es) [])
      (sym (shown_map image shape.place shape.m generation contents index.entries shown))
      ∙ ap (λ (v : View). Opens v []) (whole_fresh shape generation (fresh_map contents))

  pub made_in_use : IsInUse shape image index (fresh_view generation (fresh_map contents))
  made_in_use = record {
    alone = alone;
    fit = fit;
    opens = made_opens;
    sole = refl;
    entries = shown_map image shape.place shape.m generation contents index.entries shown;
    mended = all_mended generation contents;
  }
