use Rattle.index_text.specs.lemmas.FieldReaders.{no_text_no_name}
use Rattle.export_text.proofs.fields.name_from.Goals as goal

pub returns-in_default : goal.returns-in_default
returns-in_default c = no_text_no_name c.args.bytes.now c.in_default.ensures.cases.0
