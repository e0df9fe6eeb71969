-- One line more.
use Rattle.per_run.proofs.Tallied.{counted_more, short_at, unanswered}
use Rattle.per_run.proofs.generating.handle_one.Goals as goal

pub returns-in-Answered-clause-counted : goal.returns-in-Answered-clause-counted
returns-in-Answered-clause-counted g c = λ start before few counted.
    counted_more _ _ _ before _ c.in-Answered.reply _ _ _ _ _ _ (g.met.D.Disk.lawful _) c.answer_line.ensures.time few
    counted c.in-Answered.ensures.answered c.count.ensures

pub returns-in_default-clause-short : goal.returns-in_default-clause-short
returns-in_default-clause-short g c = λ err laws start before all counted begin.
    short_at _ _ _ g.D.Disk.medium laws before all _ _ _ _ _ (g.met.D.Disk.lawful _) c.answer_line.ensures.time
    counted (unanswered _ g.D.Disk.medium _ _ _ _ _ _ c.answer_line.result c.in_default.not-Answered
    c.answer_line.ensures.answered) begin
