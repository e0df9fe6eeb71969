use Rattle.command_text.proofs.LineLaws.{one_line_is}
use Rattle.command_text.proofs.laws.one_line.Goals as goal

pub returns : goal.returns
returns c = one_line_is
