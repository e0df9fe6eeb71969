use Rattle.value_text.specs.Texts.{value_text}
use Rattle.value_text.proofs.Lines.{value_line, no_line_feed}
use Rattle.value_text.proofs.laws.value_text_is_one_line.Goals as goal

pub returns-clause-no_line_feed : goal.returns-clause-no_line_feed
returns-clause-no_line_feed c = λ t value. no_line_feed (value_text t) (value_line t value.in_range)

pub returns-clause-utf8 : goal.returns-clause-utf8
returns-clause-utf8 c = λ t value. (value_line t value.in_range).utf8
