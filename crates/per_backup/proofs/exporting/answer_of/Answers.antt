use Rattle.std.proofs.Common.{List, Option, sym, ap, subst, ◌∙◌}
use Rattle.std.specs.Prelude.{IfSome}
use Rattle.per_base.specs.declared.elements.Fresh.{Fresh}
use Rattle.deployment_model.specs.Data.{storage_data}
use Rattle.element_state.specs.declared.shapes.View.{View}
use Rattle.export_text.specs.Exports.{AreExportable}
use Rattle.per_backup.specs.Backups.{exported_contents}
use Rattle.per_backup.specs.Clauses.{IsViewFor, fresh_items}
use Rattle.per_backup.proofs.ExportRows.{exportable}
use Rattle.per_backup.proofs.exporting.answer_of.Goals as goal

pub write_export-requires : goal.write_export-requires
write_export-requires c =
    let s = storage_data c.args.config.now in
    let view = subst (λ (o : Option View). IfSome o (IsViewFor c.args.config.now.kind)) c.in-Some.is c.requires in
    subst (λ (fs : List Fresh). AreExportable c.args.config.now.kind fs) (sym c.as_slice-in-Ok.ensures.value)
    (exportable view.0 s view.1 c.in-Some.view view.2 c.in-Ok.contents.items
    (ap (exported_contents s) (sym c.as_slice.ensures) ∙ sym c.in_ok-contents.ensures ∙ ap fresh_items c.in-Ok.is))
