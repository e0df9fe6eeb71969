use Rattle.std.proofs.Common.{ap, ◌∙◌}
use Rattle.export_text.specs.declared.exports.Export.{Export}
use Rattle.export_text.specs.Exports.{export_body, export_of, export_text}
use Rattle.export_text.proofs.Whole.{export_again, under_hash}
use Rattle.export_text.proofs.writing.write_export.Goals as goal

pub returns-clause-text : goal.returns-clause-text
unfolding export_text
returns-clause-text c =
    let x : Export = record { kind = c.args.kind; contents = c.args.contents.now } in
    under_hash c.extend_from_slice.new.self.items c.in_ok-text.text.items c.as_slice.result.now c.digest-digest.result
    (export_body x)
    c.in_ok-extend_from_slice.ensures.items c.in_ok-text.ensures.body c.as_slice.ensures.value c.digest-digest.ensures

pub returns-clause-is_export : goal.returns-clause-is_export
returns-clause-is_export c = record { rules = c.requires; elements = c.in_ok-text.ensures.elements }

pub returns-clause-spells : goal.returns-clause-spells
returns-clause-spells c = ap export_of (returns-clause-text c) ∙ export_again _ (returns-clause-is_export c)
