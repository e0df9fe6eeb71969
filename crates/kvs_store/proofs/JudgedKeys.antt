-- A view whose keys a session judged: its reports, and its map.
use Rattle.std.proofs.Common.{◌≡◌, ℕ, List, [], ◌∷◌, ◌++◌, map, Bool, true, false, cond, refl, ◌∙◌, ap}
use Rattle.std.specs.Prelude.{Option, Some, None}
use Rattle.std.specs.declared.cmp.Ordering.TheVariants.{Greater}
use Rattle.std.specs.List.{AllByRecursion, flat_map}
use Rattle.std.specs.List.Sorted.{IsStrictlySortedBy}
use Rattle.std.specs.Ordering.{ordering_reverse}
use Rattle.std.proofs.lemmas.Cmp.{nat_list_cmp_total, tied_itself}
use Rattle.std.proofs.lemmas.Map.Keys.{sorted_head, sorted_tail}
use Rattle.per_base.specs.declared.elements.Content.{Content}
use Rattle.per_base.specs.declared.elements.Content.TheVariants.{Good, Bad}
use Rattle.per_base.specs.declared.elements.Element.{Element}
use Rattle.per_base.specs.declared.elements.Entry.{Entry}
use Rattle.per_base.specs.declared.elements.Scope.{Scope}
use Rattle.per_base.specs.declared.elements.Scope.TheVariants as scope
use Rattle.per_base.specs.declared.reports.Report.{Report}
use Rattle.per_base.specs.Maps.{Map, element_at}
use Rattle.per_base.specs.Names.{name_cmp}
use Rattle.per_base.specs.Contents.{is_readable}
use Rattle.element_state.specs.declared.shapes.Shape.{Shape}
use Rattle.element_state.specs.declared.shapes.View.{View}
use Rattle.element_state.specs.Reports.{element_failed, element_reports, is_readable_by, recovered_reports, report_of}
use Rattle.element_state.specs.Reports.{report_some, reports, store_recovered}
use Rattle.element_state.specs.States.{mended_by, mended_entry, mended_view}
use Rattle.element_state.specs.Views as views
use Rattle.element_state.specs.Views.{judged_content, judged_entry}
use Rattle.element_maps.specs.Sessions.{synchronised}
use Rattle.key_maps.specs.KeyElements as keys
use Rattle.key_maps.specs.KeyElements.{entry_names, is_encoding, judged_map}
use Rattle.key_maps.specs.lemmas.Ordered.{Above}
use Rattle.kvs_core.specs.Calls.{is_readable_key}
use Rattle.kvs_store.specs.Judged.{shown_entry, shown_view}

-- ---- a view that a session shows

-- the map has the key of this entry
abbrev Stands : Map → Entry → Type 0
Stands m e = element_at m e.name ≡ Some (keys.key_judged (keys.entry_element e))

-- one before all others hides none of them
stand_later : (m : Map) (e : List ℕ × Element) (es : List Entry) → Above name_cmp e.0 (entry_names es)
    → AllByRecursion (Stands m) es → AllByRecursion (Stands (e ∷ m)) es
stand_later m e [] above all = tt
stand_later m e (x ∷ xs) above all =
    let greater : name_cmp x.name e.0 ≡ Greater =
    nat_list_cmp_total.antisymm x.name e.0 ∙ ap ordering_reverse above.0 in
    (rw greater all.0, stand_later m e xs above.1 all.1)

all_stand : (es : List Entry) → IsStrictlySortedBy name_cmp (entry_names es)
    → AllByRecursion (Stands (judged_map es)) es
all_stand [] sorted = tt
all_stand (e ∷ es) sorted = (
  rw (tied_itself nat_list_cmp_total e.name) refl,
  stand_later (judged_map es) (e.name, keys.key_judged (keys.entry_element e)) es
      (sorted_head name_cmp e.name (entry_names es) sorted)
      (all_stand es (sorted_tail name_cmp e.name (entry_names es) sorted)),
)

-- ---- reports

readable_is : (c : Content)
    → is_readable_by (λ bytes. true) (cond (is_readable (keys.judged_key_content c)) c (Bad None))
    ≡ is_readable_by is_encoding c
readable_is (Good value) = by (is_encoding value)
  where
    by : (b : Bool)
        → is_readable_by (λ bytes. true) (cond (is_readable (cond b (Good value) (Bad None))) (Good value)
        (Bad None))
        ≡ b
    by true = refl
    by false = refl
readable_is (Bad salvage) = refl

same_recovered : (m : Map) (scope : Scope) (shape : Shape) (e : Entry)
    → recovered_reports scope shape (shown_entry m e) ≡ recovered_reports scope shape e
same_recovered m scope.Element shape e = refl
same_recovered m scope.Storage shape e = refl

entry_reports : (m : Map) (shape : Shape) (e : Entry) → Stands m e
    → element_reports (λ bytes. true) shape (shown_entry m e) ≡ element_reports is_encoding shape e
entry_reports m shape e stands =
    ap (λ (l : List Report). cond (is_readable_by (λ bytes. true) (shown_entry m e).content) l
    (report_of (element_failed shape.kind) shape (Some e.name) e.lacking ∷ []))
    (same_recovered m shape.scope shape e)
    ∙ ap (λ (b : Bool). cond b (recovered_reports shape.scope shape e)
    (report_of (element_failed shape.kind) shape (Some e.name) e.lacking ∷ []))
    (ap (λ (key : Option Element). is_readable_by (λ bytes. true) (cond (is_readable_key key) e.content (Bad None)))
    stands
    ∙ readable_is e.content)

all_reports : (m : Map) (shape : Shape) (es : List Entry) → AllByRecursion (Stands m) es
    → flat_map (element_reports (λ bytes. true) shape) (map (shown_entry m) es)
    ≡ flat_map (element_reports is_encoding shape) es
all_reports m shape [] all = refl
all_reports m shape (e ∷ es) all = rw (entry_reports m shape e all.0, all_reports m shape es all.1) refl

-- the reports of a view that a session of its keys shows are those of the view with the test
pub shown_reports : (shape : Shape) (v : View) → IsStrictlySortedBy name_cmp (entry_names v.entries)
    → reports (λ bytes. true) shape (shown_view (judged_map v.entries) v) ≡ reports is_encoding shape v
unfolding reports
shown_reports shape v sorted = ap (λ (l : List Report). report_some (store_recovered shape.kind) shape None v.lacking
    ++ l) (all_reports (judged_map v.entries) shape v.entries (all_stand v.entries sorted))

-- ---- maps

same_salvage : (salvage : List ℕ) (b : Bool) → cond b (Bad (Some salvage)) (Bad None) ≡ Bad (cond b (Some salvage) None)
same_salvage salvage true = refl
same_salvage salvage false = refl

same_judged : (c : Content) → judged_content is_encoding c ≡ keys.judged_key_content c
same_judged (Good bytes) = refl
same_judged (Bad None) = refl
same_judged (Bad (Some salvage)) = same_salvage salvage (is_encoding salvage)

-- the keys of these entries are the map that a view of them denotes
pub judged_synchronised : (v : View) → judged_map v.entries ≡ synchronised is_encoding v
judged_synchronised v = each v.entries
  where
    each : (es : List Entry) → judged_map es ≡ map views.element_of (map (judged_entry is_encoding) es)
    each [] = refl
    each (e ∷ es) = rw (same_judged e.content, each es) refl

-- ---- mending

key_in : Entry → List ℕ × Element
key_in e = (e.name, keys.key_judged (keys.entry_element e))

mended_key : (e : Entry) (c : Content) → key_in (mended_by c e) ≡ key_in e
unfolding key_in
mended_key e (Good value) = refl
mended_key e (Bad salvage) = refl

mended_map : (es : List Entry) → judged_map (map mended_entry es) ≡ judged_map es
unfolding key_in
mended_map [] = refl
mended_map (e ∷ es) = rw (mended_key e e.content, mended_map es) refl

-- copies that are mended change no key
pub mended_judged : (shape : Shape) (v : View) → judged_map (mended_view shape v).entries ≡ judged_map v.entries
unfolding mended_view
mended_judged shape v = mended_map v.entries
