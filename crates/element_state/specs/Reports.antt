-- The reports of an opening, in their order.
use Rattle.std.specs.Prelude.{ℕ, List, [], ◌∷◌, ◌++◌, Bool, false, cond, Option, Some, None}
use Rattle.std.specs.List.{flat_map, range_with_len}
use Rattle.per_base.specs.declared.elements.Scope.{Scope}
use Rattle.per_base.specs.declared.elements.Scope.TheVariants as scope
use Rattle.per_base.specs.declared.elements.StoreKind.{StoreKind}
use Rattle.per_base.specs.declared.elements.StoreKind.TheVariants.{Keys, Files}
use Rattle.per_base.specs.declared.elements.Content.{Content}
use Rattle.per_base.specs.declared.elements.Content.TheVariants.{Good, Bad}
use Rattle.per_base.specs.declared.elements.Entry.{Entry}
use Rattle.per_base.specs.declared.reports.Report.{Report}
use Rattle.per_base.specs.declared.reports.ReportKind.{ReportKind}
use Rattle.per_base.specs.declared.reports.ReportKind.TheVariants.{KvsRecovered, KvsFailed, KeyRecovered, KeyFailed}
use Rattle.per_base.specs.declared.reports.ReportKind.TheVariants.{FilesRecovered, FilesFailed, FileRecovered}
use Rattle.per_base.specs.declared.reports.ReportKind.TheVariants.{FileFailed}
use Rattle.element_state.specs.declared.shapes.Shape.{Shape}
use Rattle.element_state.specs.declared.shapes.View.{View}

-- ---- the kinds of reports, by the kind of the storage

-- some copies lacked the storage, and it opened
abbrev pub store_recovered : StoreKind → ReportKind
store_recovered Keys = KvsRecovered
store_recovered Files = FilesRecovered

-- the storage is corrupt
abbrev pub store_failed : StoreKind → ReportKind
store_failed Keys = KvsFailed
store_failed Files = FilesFailed

-- some copies lacked an element that is readable
abbrev pub element_recovered : StoreKind → ReportKind
element_recovered Keys = KeyRecovered
element_recovered Files = FileRecovered

-- an element cannot be read
abbrev pub element_failed : StoreKind → ReportKind
element_failed Keys = KeyFailed
element_failed Files = FileFailed

-- ---- the reports

-- a report of this kind on a storage, or on its element of this name, with the copies, counted from 1, that lacked it
abbrev pub report_of : ReportKind → Shape → Option (List ℕ) → List ℕ → Report
report_of kind shape element copies = record { kind = kind; storage = shape.name; element = element; copies = copies }

-- a report of these copies, and none where there are none
abbrev pub report_some : ReportKind → Shape → Option (List ℕ) → List ℕ → List Report
report_some kind shape element [] = []
report_some kind shape element (copy ∷ copies) = report_of kind shape element (copy ∷ copies) ∷ []

-- the content is good and passes the test
abbrev pub is_readable_by : (List ℕ → Bool) → Content → Bool
is_readable_by test (Good value) = test value
is_readable_by test (Bad salvage) = false

-- with storage scope a copy that lacks an element lacks the storage, which is reported once
abbrev pub recovered_reports : Scope → Shape → Entry → List Report
recovered_reports scope.Element shape e = report_some (element_recovered shape.kind) shape (Some e.name) e.lacking
recovered_reports scope.Storage shape e = []

-- the reports of one element, which is readable where its content is good and passes the test
abbrev pub element_reports : (List ℕ → Bool) → Shape → Entry → List Report
element_reports test shape e = cond (is_readable_by test e.content)
    (recovered_reports shape.scope shape e)
    (report_of (element_failed shape.kind) shape (Some e.name) e.lacking ∷ [])

-- the reports of an opening that found this view, where a content is readable only if it passes the test
unfoldable pub reports : (test : List ℕ → Bool) → Shape → View → List Report
reports test shape v = report_some (store_recovered shape.kind) shape None v.lacking
    ++ flat_map (element_reports test shape) v.entries

-- the report of an opening that found the storage corrupt: all its copies
abbrev pub failed_report : Shape → Report
failed_report shape = report_of (store_failed shape.kind) shape None (range_with_len 1 shape.place.copies)
