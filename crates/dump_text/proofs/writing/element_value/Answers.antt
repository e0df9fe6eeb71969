use Rattle.std.proofs.Common.{ℕ, List, Some, ap, ◌∙◌}
use Rattle.std.proofs.lemmas.Result.{IfOk-weaker}
use Rattle.serde_json.specs.View.{view}
use Rattle.dump_text.proofs.Read.{file_element, key_element}
use Rattle.dump_text.proofs.writing.element_value.Goals as goal

pub returns-in_ok-file_value-in-Some-clause-read : goal.returns-in_ok-file_value-in-Some-clause-read
returns-in_ok-file_value-in-Some-clause-read c = file_element c.args.kind c.args.element.now c.in-Some.info
    (view c.in_ok-file_value-in-Some.field-0) c.in-Some.is c.requires.exportable.info c.requires.name
    (c.in_ok-file_value-in-Some.ensures.read ∙ ap (λ (bytes : List ℕ). Some (c.in-Some.info, bytes)) c.as_slice.ensures)

pub returns-in-None-clause-read : goal.returns-in-None-clause-read
returns-in-None-clause-read c = IfOk-weaker c.key_value.result _ _
    (λ key read. key_element c.args.kind c.args.element.now (view key) c.in-None.is c.requires.exportable.info
    c.requires.name (read ∙ ap (λ (bytes : List ℕ). Some bytes) c.as_slice-in-None.ensures))
    c.key_value.ensures.read
