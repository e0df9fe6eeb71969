use Rattle.command_text.proofs.Titles.{has_text}
use Rattle.command_text.proofs.laws.errors_have_texts.Goals as goal

pub returns : goal.returns
returns c = has_text
