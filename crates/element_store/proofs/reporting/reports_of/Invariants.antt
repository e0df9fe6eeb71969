use Rattle.std.proofs.Common.{◌≡◌, ◌++◌, take, true, None}
use Rattle.std.specs.List.{flat_map}
use Rattle.element_state.specs.Reports.{report_some, store_recovered, element_reports}
use Rattle.element_store.proofs.reporting.reports_of.Given as goal

abbrev pub invariant-loop-entry : goal.invariant-loop-entry
invariant-loop-entry l = l.found.items ≡ report_some (store_recovered l.shape.kind) l.shape None l.view.lacking
    ++ flat_map (element_reports (λ bytes. true) l.shape) (take l.entry-index l.view.entries)
