use Rattle.std.proofs.Common.{refl}
use Rattle.command_text.specs.declared.errors.LineError.TheVariants.{NotALine}
use Rattle.command_text.specs.declared.lines.Line.TheVariants.{Event}
use Rattle.per_words.proofs.Events.{event_told, other_value}
use Rattle.per_words.proofs.pushing.says_event.Goals as goal

pub returns-in-Ok-clause-event : goal.returns-in-Ok-clause-event
returns-in-Ok-clause-event c = rw c.is_event-yes.ensures
    (event_told c.one_line.ensures c.args.line.now c.in-Ok.said c.in-Ok.ensures.line)

pub returns-in-Err-clause-refused : goal.returns-in-Err-clause-refused
returns-in-Err-clause-refused c = λ same one.
    c.in-Err.ensures.none (other_value _ _ c.in-Err.error NotALine refl refl same) (Event one.0) one.1
