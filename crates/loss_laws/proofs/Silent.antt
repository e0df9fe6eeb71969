-- A storage whose opening has nothing to report: it lacks no copy, and its elements are good and lack none.
use Rattle.std.proofs.Common.{◌≡◌, ℕ, ◌+◌, ◌<◌, List, [], ◌∷◌, ◌++◌, Bool, true, false, cond, Option, Some, None, refl}
use Rattle.std.proofs.Common.{sym, ap, ◌∙◌, subst, inl, inr}
use Rattle.std.specs.List.{flat_map}
use Rattle.per_base.specs.declared.elements.Content.{Content}
use Rattle.per_base.specs.declared.elements.Content.TheVariants.{Bad, Good}
use Rattle.per_base.specs.declared.elements.Entry.{Entry}
use Rattle.per_base.specs.declared.elements.Scope.{Scope}
use Rattle.per_base.specs.declared.elements.Scope.TheVariants as scope
use Rattle.per_base.specs.declared.reports.Report.{Report}
use Rattle.per_base.specs.declared.reports.ReportKind.{ReportKind}
use Rattle.disk_model.specs.Image.{Image}
use Rattle.disk_model.specs.Orders.{named_in}
use Rattle.guarded_cell.specs.Held.{copies_that}
use Rattle.guarded_cell.specs.lemmas.CopyLaws.{named_passing}
use Rattle.block_files.specs.Contents.{lacks}
use Rattle.index_text.specs.declared.entries.IndexEntry.{IndexEntry}
use Rattle.element_state.specs.Clean.{where_of}
use Rattle.element_state.specs.declared.shapes.Shape.{Shape}
use Rattle.element_state.specs.declared.shapes.View.{View}
use Rattle.element_state.specs.Reports.{element_failed, element_recovered, element_reports, is_readable_by}
use Rattle.element_state.specs.Reports.{recovered_reports, report_of, report_some, reports, store_recovered}
use Rattle.element_state.specs.Views.{entry_view, lacks_number, lacks_one}
use Rattle.element_laws.specs.lemmas.Copies.{filtered_that}
use Rattle.element_laws.specs.lemmas.Left.{is_whole_at, value_at}
use Rattle.element_laws.specs.lemmas.Lists.{In, none_any, or_false}
use Rattle.element_laws.specs.lemmas.Standing.{gift_of}
use Rattle.loss_laws.proofs.Lists.{none_that}

-- an element that has a value, which no copy lacks
pub record IsWholeElement (e : Entry) : Type 0 where
  pub value : List ℕ
  pub good : e.content ≡ Good value
  pub lacking : e.lacking ≡ []

-- ---- reports

both_none : {A : Type 0} (xs ys : List A) → xs ++ ys ≡ [] → (xs ≡ []) × (ys ≡ [])
both_none [] ys e = (refl, e)
both_none (x ∷ xs) ys e = cc

each_none : {A B : Type 0} (f : A → List B) (xs : List A) → flat_map f xs ≡ [] → (x : A) → In x xs → f x ≡ []
each_none f [] e x h = absurd h
each_none f (y ∷ xs) e x h =
    let parts = both_none (f y) (flat_map f xs) e in
    elim h [ inl same ↦ ap f (sym same) ∙ parts.0 | inr later ↦ each_none f xs parts.1 x later ]

none_reported : (kind : ReportKind) (shape : Shape) (element : Option (List ℕ)) (copies : List ℕ)
    → report_some kind shape element copies ≡ [] → copies ≡ []
none_reported kind shape element [] e = refl
none_reported kind shape element (c ∷ copies) e = cc

silent_parts : (test : List ℕ → Bool) (shape : Shape) (v : View) → reports test shape v ≡ []
    → (v.lacking ≡ []) × (flat_map (element_reports test shape) v.entries ≡ [])
unfolding reports
silent_parts test shape v silent =
    let parts = both_none (report_some (store_recovered shape.kind) shape None v.lacking)
    (flat_map (element_reports test shape) v.entries) silent in
    (none_reported (store_recovered shape.kind) shape None v.lacking parts.0, parts.1)

pub silent_lacking : (test : List ℕ → Bool) (shape : Shape) (v : View) → reports test shape v ≡ [] → v.lacking ≡ []
silent_lacking test shape v silent = (silent_parts test shape v silent).0

silent_each : (test : List ℕ → Bool) (shape : Shape) (v : View) → reports test shape v ≡ [] → (f : Entry)
    → In f v.entries → element_reports test shape f ≡ []
silent_each test shape v silent f h = each_none (element_reports test shape) v.entries
    (silent_parts test shape v silent).1 f h

-- an element of which nothing is reported is good
read_parts : (test : List ℕ → Bool) (given : Content) (good : List Report) (bad : Report)
    → cond (is_readable_by test given) good (bad ∷ []) ≡ [] → (value : List ℕ) × (given ≡ Good value) × (good ≡ [])
read_parts test (Bad salvage) good bad e = cc
read_parts test (Good value) good bad e = elim (test value) as
    (λ b. cond b good (bad ∷ []) ≡ [] → (v : List ℕ) × (Good value ≡ Good v) × (good ≡ [])) [
      | true ↦ λ e. (value, refl, e)
      | false ↦ λ e. cc
    ] e

element_parts : (test : List ℕ → Bool) (shape : Shape) (f : Entry) → element_reports test shape f ≡ []
    → (value : List ℕ) × (f.content ≡ Good value) × (recovered_reports shape.scope shape f ≡ [])
element_parts test shape f e = read_parts test f.content (recovered_reports shape.scope shape f)
    (report_of (element_failed shape.kind) shape (Some f.name) f.lacking) e

-- ---- elements

module _ (image : Image) (shape : Shape) (entries : List Entry) (e : IndexEntry)
    (here : In (entry_view image shape.place shape.m e) entries) where
  abbrev lacks_it : ℕ → Bool
  lacks_it c = lacks (value_at image shape (where_of e)) (gift_of image shape (where_of e) c)
      (is_whole_at image shape c (where_of e))

  listed_are : (entry_view image shape.place shape.m e).lacking ≡ copies_that lacks_it shape.place.copies
  unfolding entry_view
  listed_are = filtered_that lacks_it shape.place.copies

  none_listed : (s : Scope) (lacks_text : ℕ → Bool)
      → recovered_reports s shape (entry_view image shape.place shape.m e) ≡ []
      → ((c : ℕ) → c < shape.place.copies → lacks_number s (lacks_text c) entries (c + 1) ≡ false)
      → (entry_view image shape.place shape.m e).lacking ≡ []
  none_listed scope.Element lacks_text silent nobody = none_reported (element_recovered shape.kind) shape
      (Some (entry_view image shape.place shape.m e).name) (entry_view image shape.place shape.m e).lacking silent
  none_listed scope.Storage lacks_text silent nobody = listed_are ∙ none_that lacks_it shape.place.copies (λ c lt.
      sym (named_passing lacks_it shape.place.copies c lt) ∙ ap (λ (l : List ℕ). named_in l (c + 1)) (sym listed_are)
      ∙ none_any (λ (f : Entry). named_in f.lacking (c + 1)) entries
      (or_false (lacks_text c) (lacks_one entries (c + 1)) (nobody c lt)).1
      (entry_view image shape.place shape.m e) here)

-- an element of a storage whose opening has nothing to report is good, and no copy lacks it
pub silent_whole : (image : Image) (shape : Shape) (test : List ℕ → Bool) (v : View) (e : IndexEntry)
    (lacks_text : ℕ → Bool) → reports test shape v ≡ [] → In (entry_view image shape.place shape.m e) v.entries
    → ((c : ℕ) → c < shape.place.copies → lacks_number shape.scope (lacks_text c) v.entries (c + 1) ≡ false)
    → IsWholeElement (entry_view image shape.place shape.m e)
silent_whole image shape test v e lacks_text silent here nobody =
    let (value, good, recovered) = element_parts test shape (entry_view image shape.place shape.m e)
    (silent_each test shape v silent (entry_view image shape.place shape.m e) here) in
    record {
      value = value;
      good = good;
      lacking = none_listed image shape v.entries e here shape.scope lacks_text recovered nobody;
    }
