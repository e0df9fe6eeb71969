use Rattle.command_text.proofs.LineLaws.{one_event_is}
use Rattle.command_text.proofs.laws.one_event.Goals as goal

pub returns-clause-event : goal.returns-clause-event
returns-clause-event c = one_event_is
