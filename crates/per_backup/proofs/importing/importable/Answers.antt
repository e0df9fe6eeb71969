use Rattle.std.proofs.Common.{List, Some, sym, ap, subst, ◌∙◌}
use Rattle.std.specs.Prelude.{option_map}
use Rattle.per_base.specs.declared.elements.Fresh.{Fresh}
use Rattle.deployment_model.specs.Data.{storage_data}
use Rattle.export_text.specs.declared.errors.ExportError.{ExportError}
use Rattle.export_text.specs.declared.exports.Export.{Export}
use Rattle.export_text.specs.Exports.{export_of}
use Rattle.export_text.specs.Views.{FailsToRead}
use Rattle.per_backup.specs.Backups.{least_mismatch}
use Rattle.per_backup.proofs.ImportRows.{elements_taken, row_fits, row_other, row_rejected, row_typed}
use Rattle.per_backup.proofs.importing.importable.Goals as goal

pub returns-in-Err-NotAnExport-clause-refused : goal.returns-in-Err-NotAnExport-clause-refused
returns-in-Err-NotAnExport-clause-refused c = row_rejected (storage_data c.args.config.now) c.args.bytes.now
    (subst (λ (e : ExportError). FailsToRead e (export_of c.args.bytes.now)) c.in-Err-NotAnExport.field-0-is
    c.in-Err-NotAnExport.ensures.read)

pub returns-then-not-is_of_kind-clause-refused : goal.returns-then-not-is_of_kind-clause-refused
returns-then-not-is_of_kind-clause-refused c = row_other (storage_data c.args.config.now) c.args.bytes.now
    c.in-Ok.export c.in-Ok.ensures.read
    (sym c.is_of_kind.ensures ∙ c.if-not-is_of_kind.true)

pub returns-in-Some-clause-refused : goal.returns-in-Some-clause-refused
returns-in-Some-clause-refused c = row_typed (storage_data c.args.config.now) c.args.bytes.now c.in-Ok.export
    c.in-Ok.ensures.read (sym c.is_of_kind.ensures ∙ c.if-not-is_of_kind.false) c.in-Some.error
    (ap (least_mismatch (storage_data c.args.config.now)) (sym c.as_slice.ensures) ∙ sym c.in_ok-error.ensures
    ∙ c.in-Some.is)

pub returns-in-None-clause-row : goal.returns-in-None-clause-row
returns-in-None-clause-row c = row_fits (storage_data c.args.config.now) c.args.bytes.now c.in-Ok.export
    c.in-Ok.ensures.read (sym c.is_of_kind.ensures ∙ c.if-not-is_of_kind.false)
    (ap (least_mismatch (storage_data c.args.config.now)) (sym c.as_slice.ensures) ∙ sym c.in_ok-error.ensures
    ∙ c.in-None.is) c.into_vec.result.items c.into_vec.ensures

pub returns-in-None-clause-elements : goal.returns-in-None-clause-elements
returns-in-None-clause-elements c = elements_taken c.args.config.now.kind c.in-Ok.export c.in-Ok.ensures.rules
    (sym c.is_of_kind.ensures ∙ c.if-not-is_of_kind.false) c.into_vec.result.items c.into_vec.ensures

pub returns-in-None-clause-spelled : goal.returns-in-None-clause-spelled
returns-in-None-clause-spelled c = ap (option_map (λ (x : Export). x.contents)) c.in-Ok.ensures.read
    ∙ ap (λ (fs : List Fresh). Some fs) (sym c.into_vec.ensures)
