use Rattle.per_words.proofs.Named.{no_text_no_name}
use Rattle.per_words.proofs.meeting.is_name.Goals as goal

pub returns-in_default : goal.returns-in_default
returns-in_default c = no_text_no_name c.args.text.now c.in_default.ensures.cases.0
