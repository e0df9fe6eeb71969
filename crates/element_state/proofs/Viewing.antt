-- The view of a text, as it is read.
use Rattle.std.proofs.Common.{◌≡◌, ℕ, zero, suc, ◌+◌, ◌<◌, ◌≤◌, List, [], ◌∷◌, map, Bool, true, false, cond, ◌||◌, not}
use Rattle.std.proofs.Common.{Option, Some, None, refl, sym, ap, ◌∙◌, arith, ⊎_elim}
use Rattle.std.specs.Prelude.{is_some, ◌==◌}
use Rattle.std.specs.List.{filter, range_with_len, AllZip}
use Rattle.std.proofs.lemmas.Bool.{cases_eq, cond-true, eq-eqb}
use Rattle.per_base.specs.declared.elements.Entry.{Entry}
use Rattle.disk_model.specs.declared.place.Place.{Place}
use Rattle.disk_model.specs.Image.{Image}
use Rattle.disk_model.specs.Place.{area}
use Rattle.disk_model.specs.Orders.{named_in}
use Rattle.m_of_n.specs.Vote.{voted}
use Rattle.guarded_cell.specs.declared.looking.Seen.{Seen}
use Rattle.block_files.specs.Areas.{has_all_bytes}
use Rattle.block_files.specs.Contents.{counting, lacks, lacking}
use Rattle.index_text.specs.declared.entries.Index.{Index}
use Rattle.index_text.specs.declared.entries.IndexEntry.{IndexEntry}
use Rattle.element_state.specs.declared.shapes.Shape.{Shape}
use Rattle.element_state.specs.declared.shapes.View.{View}
use Rattle.element_state.specs.Fit.{FitText, fit_texts, is_sole}
use Rattle.element_state.specs.Views.{holds_text, counts, given, entry_view, entries_seen, lacks_number, store_lacking}
use Rattle.element_state.specs.Views.{view_of}
use Rattle.element_state.specs.Chosen.{Vouches}
use Rattle.element_state.specs.Surveys.{IsHeldOn, view_by}
use Rattle.element_state.specs.lemmas.Supported.{copies_alike}
use Rattle.guarded_cell.specs.lemmas.CopyLaws.{named_passing}

-- ---- a copy that does not lack an element has its content

lacks_missing : (value given : Option (List ℕ)) (inside : Bool) → is_some given ≡ false
    → lacks value given inside ≡ true
lacks_missing None given inside none = ap not none
lacks_missing (Some value) None inside none = refl
lacks_missing (Some value) (Some given) inside none = let never : true ≡ false = none in cc

or_true : (b : Bool) → (b || true) ≡ true
or_true true = refl
or_true false = refl

still_named : (b : Bool) (a number : ℕ) (rest : List ℕ) → named_in (map suc rest) number ≡ true
    → named_in (map suc (cond b (a ∷ rest) rest)) number ≡ true
still_named true a number rest more = ap (λ b. (suc a == number) || b) more ∙ or_true (suc a == number)
still_named false a number rest more = more

-- the copies that pass are listed by their numbers
named_filtered : (test : ℕ → Bool) (n a copy : ℕ) → a ≤ copy → copy < a + n → test copy ≡ true
    → named_in (map suc (filter test (range_with_len a n))) (copy + 1) ≡ true
named_filtered test zero a copy from to passes = absurd (omega (arith, from, to))
named_filtered test (suc n) a copy from to passes = ⊎_elim
    (λ here. (
    let yes : test a ≡ true = ap test (sym here) ∙ passes in
    let rest = map suc (filter test (range_with_len (a + 1) n)) in
    let same : (suc a == copy + 1) ≡ true = eq-eqb (suc a) (copy + 1) (omega (arith, here)) in
    ap (λ (l : List ℕ). named_in (map suc l) (copy + 1))
    (cond-true (test a) (a ∷ filter test (range_with_len (a + 1) n)) (filter test (range_with_len (a + 1) n)) yes)
    ∙ ap (λ b. b || named_in rest (copy + 1)) same))
    (λ later. (
    let more = named_filtered test n (a + 1) copy (omega (arith, from, later)) (omega (arith, to)) passes in
    still_named (test a) a (copy + 1) (filter test (range_with_len (a + 1) n)) more))
    (cases_eq copy a)

pub vouched : (image : Image) (place : Place) (m : ℕ) (e : IndexEntry)
    → Vouches image place e (entry_view image place m e)
unfolding entry_view
vouched image place m e copy lt absent = step (counts image place e copy) refl
  where
    test : ℕ → Bool
    test c = lacks (voted m (given image place e)) (counting (image (area place c)) e.blocks e.len e.hash)
        (has_all_bytes (image (area place c)) e.blocks e.len)

    step : (b : Bool) → counts image place e copy ≡ b → counts image place e copy ≡ true
    step true is = is
    step false is =
        let named = named_filtered test place.copies 0 copy (omega arith) (omega (arith, lt))
        (lacks_missing (voted m (given image place e)) _ (has_all_bytes (image (area place copy)) e.blocks e.len) is) in
        let both : true ≡ false = sym named ∙ absent in cc

pub all_vouched : (image : Image) (place : Place) (m : ℕ) (es : List IndexEntry)
    → AllZip (Vouches image place) es (map (entry_view image place m) es)
all_vouched image place m [] = tt
all_vouched image place m (e ∷ es) = (vouched image place m e, all_vouched image place m es)

-- ---- the view

abbrev the_view : ℕ → List ℕ → Bool → List Entry → View
the_view generation lacking sole entries = record {
  generation = generation;
  lacking = lacking;
  sole =
      sole;
  entries = entries;
}

view_alike : (generation : ℕ) (l m : List ℕ) (a b : Bool) (es fs : List Entry) → l ≡ m → a ≡ b → es ≡ fs
    → the_view generation l a es ≡ the_view generation m b fs
view_alike generation l m a b es fs el ea ee =
    ap (λ x. the_view generation x a es) el ∙ ap (λ x. the_view generation m x es) ea
    ∙ ap (λ x. the_view generation m b x) ee

pub view_is : (image : Image) (shape : Shape) (seen : Seen) (index : Index) (sole : Bool) (entries : List Entry)
    → IsHeldOn image shape (seen, index) → sole ≡ is_sole (fit_texts shape image)
    → entries ≡ entries_seen image shape (seen, index)
    → view_by shape seen sole entries ≡ view_of image shape (seen, index)
unfolding view_of
view_is image shape seen index sole entries are settles reads =
    let text : FitText = (seen, index) in
    let lack = λ (es : List Entry). copies_alike
    (λ copy. lacks_number shape.scope (not (named_in seen.copies (copy + 1))) es (copy + 1))
    (λ copy. lacks_number shape.scope (not (holds_text image shape.place text copy)) es (copy + 1)) shape.place.copies
    (λ copy lt. ap (λ b. lacks_number shape.scope (not b) es (copy + 1))
    (ap (λ l. named_in l (copy + 1)) are ∙ named_passing (holds_text image shape.place text) shape.place.copies copy
    lt)) in
    view_alike seen.generation
    (store_lacking shape.scope (λ copy. not (named_in seen.copies (copy + 1))) entries shape.place.copies)
    (store_lacking shape.scope (λ copy. not (holds_text image shape.place text copy)) (entries_seen image shape text)
    shape.place.copies)
    sole (is_sole (fit_texts shape image)) entries (entries_seen image shape text)
    (lack entries ∙ ap (λ (es : List Entry). store_lacking shape.scope
    (λ copy. not (holds_text image shape.place text copy)) es shape.place.copies) reads)
    settles reads
