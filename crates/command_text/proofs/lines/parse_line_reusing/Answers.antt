use Rattle.std.proofs.Common.{arith}
use Rattle.command_text.proofs.LineLaws.{found, only}
use Rattle.command_text.proofs.lines.parse_line_reusing.Goals as goal

pub returns-clause-line : goal.returns-clause-line
returns-clause-line c = found c.args.line.now (omega arith) c.any_line.result c.any_line.ensures.read

pub returns-clause-none : goal.returns-clause-none
returns-clause-none c = only c.args.line.now c.any_line.result c.any_line.ensures.read
