use Rattle.value_code.specs.lemmas.Starts.{text_of-IsUtf8, text_of-not}
use Rattle.value_code.proofs.fields.text_of.Goals as goal

pub returns-in-Ok : goal.returns-in-Ok
returns-in-Ok c = rw c.in-Ok.ensures.cases.0 (text_of-IsUtf8 c.args.bytes.now c.in-Ok.ensures.cases.1)

pub returns-in-Err : goal.returns-in-Err
returns-in-Err c = text_of-not c.args.bytes.now c.in-Err.ensures.cases.0
