use Rattle.std.proofs.Common.{◌++◌, List, length, true, None, ap, ◌∙◌, arith}
use Rattle.std.specs.List.{flat_map}
use Rattle.std.proofs.lemmas.List.{take_all}
use Rattle.per_base.specs.declared.elements.Entry.{Entry}
use Rattle.element_state.specs.Reports.{reports, report_some, store_recovered, element_reports}
use Rattle.element_store.proofs.reporting.reports_of.Goals as goal

pub returns : goal.returns
unfolding reports
returns c = c.loop-entry.invariant
    ∙ ap (λ (es : List Entry). report_some (store_recovered c.args.shape.now.kind) c.args.shape.now None
    c.args.view.now.lacking ++ flat_map (element_reports (λ bytes. true) c.args.shape.now) es)
    (take_all c.loop-entry.entry-index c.args.view.now.entries
    (omega (arith, ap (λ (es : List Entry). length es) c.as_slice-entry-items.ensures)))
