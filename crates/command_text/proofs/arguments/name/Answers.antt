use Rattle.command_text.proofs.Ascii.{no_text_no_name}
use Rattle.command_text.proofs.arguments.name.Goals as goal

pub returns-in_default : goal.returns-in_default
returns-in_default c = no_text_no_name c.args.text.now c.in_default.ensures.cases.0
