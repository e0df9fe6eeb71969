-- A reply is of one of three sorts.
use Rattle.std.proofs.Common.{sym, ap, ◌∙◌}
use Rattle.std.specs.Option.{option_or}
use Rattle.per_run.proofs.Tallied.{done_only, tallied_done, tallied_error, tallied_other}
use Rattle.per_run.proofs.tally.Tally.count.Goals as goal

pub returns-then-is_done : goal.returns-then-is_done
returns-then-is_done c = λ replies few was.
    let is = sym c.is_done.ensures ∙ c.if-is_done.true in
    tallied_done replies c.args.reply.now _ _ _ few was is (done_only c.args.reply.now is) c.saturating_add-self.ensures
    (c.or-self.ensures ∙ ap (option_or _) c.number_in.ensures)

pub returns-then-is_error : goal.returns-then-is_error
returns-then-is_error c = λ replies few was.
    tallied_error replies c.args.reply.now _ _ _ few was (sym c.is_done.ensures ∙ c.if-is_done.false)
    (sym c.is_error.ensures ∙ c.if-is_error.true) c.saturating_add-self-then-is_error.ensures
    (c.or-self.ensures ∙ ap (option_or _) c.number_in.ensures)

pub returns-else-is_error : goal.returns-else-is_error
returns-else-is_error c = λ replies few was.
    tallied_other replies c.args.reply.now _ _ _ few was (sym c.is_done.ensures ∙ c.if-is_done.false)
    (sym c.is_error.ensures ∙ c.if-is_error.false) c.saturating_add-self-else-is_error.ensures
    (c.or-self.ensures ∙ ap (option_or _) c.number_in.ensures)
