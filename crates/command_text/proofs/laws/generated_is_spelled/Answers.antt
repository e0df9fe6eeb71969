use Rattle.command_text.proofs.Spelled.{line_is_spelled, whole_is_spelled}
use Rattle.command_text.proofs.laws.generated_is_spelled.Goals as goal

pub returns-clause-line : goal.returns-clause-line
returns-clause-line c = line_is_spelled

pub returns-clause-whole : goal.returns-clause-whole
returns-clause-whole c = whole_is_spelled
