-- A line is handled, or the handling ends at it.
use Rattle.command_text.specs.declared.lines.Line.TheVariants as line
use Rattle.run_model.specs.Endings.{bad_line_text}
use Rattle.per_run.proofs.Courses.{answered_front, stopped_front}
use Rattle.per_run.proofs.Gives.{front_bad, front_says}
use Rattle.per_run.proofs.Hears.{hears_nothing, hears_refused, hears_reply, service_end, service_in_refusal}
use Rattle.per_run.proofs.Hears.{service_in_reply, service_short}
use Rattle.per_run.proofs.Known.{if_err, on_ok}
use Rattle.std.proofs.Common.{⊎_elim, inl, inr}
use Rattle.per_run.proofs.serving.serve_text.Goals as goal

pub returns-in-Nothing-clause-goes_on : goal.returns-in-Nothing-clause-goes_on
returns-in-Nothing-clause-goes_on g c = λ start before heard whole front counts hearing.
    hears_nothing _ _ _ before g.D.Disk.medium heard _ _ _ _ _ _ whole counts hearing
    (front_says _ whole line.Nothing front c.in-Nothing.ensures.answered.0) c.in-Nothing.ensures.answered.1
    c.in-Nothing.ensures.answered.2

pub returns-in-Answered-clause-goes_on : goal.returns-in-Answered-clause-goes_on
returns-in-Answered-clause-goes_on g c = on_ok _ _ _ c.write_reply.result _ c.write_reply.ensures.puts
    (λ wrote start before heard whole front counts hearing.
    hears_reply _ _ _ before heard _ _ _ _ _ _ _ whole c.in-Answered.reply counts (g.met.D.Disk.lawful _)
    c.answer_line.ensures.time hearing (answered_front whole front c.in-Answered.ensures.answered) wrote)

pub returns-in-Answered-clause-ends : goal.returns-in-Answered-clause-ends
returns-in-Answered-clause-ends g c = if_err _ _ _ c.write_reply.result _ c.write_reply.ensures.puts
    (λ ending puts laws start before heard others whole front counts hearing.
    service_in_reply _ _ _ before laws ending heard _ others _ _ _ _ _ _ whole c.in-Answered.reply counts
    (g.met.D.Disk.lawful _) c.answer_line.ensures.time hearing
    (answered_front whole front c.in-Answered.ensures.answered) puts)

pub returns-in-Bad-clause-goes_on : goal.returns-in-Bad-clause-goes_on
returns-in-Bad-clause-goes_on g c = on_ok (bad_line_text c.args.number) _ _ c.write_made.result _
    (c.write_made.ensures.puts (bad_line_text c.args.number) c.print_bad_line.ensures)
    (λ wrote start before heard whole front counts hearing.
    hears_refused _ _ _ before g.D.Disk.medium heard _ _ _ _ _ _ _ whole counts hearing
    (front_bad _ whole front c.in-Bad.ensures.answered.0) wrote c.in-Bad.ensures.answered.1 c.in-Bad.ensures.answered.2)

pub returns-in-Bad-clause-ends : goal.returns-in-Bad-clause-ends
returns-in-Bad-clause-ends g c = if_err (bad_line_text c.args.number) _ _ c.write_made.result _
    (c.write_made.ensures.puts (bad_line_text c.args.number) c.print_bad_line.ensures)
    (λ ending puts laws start before heard others whole front counts hearing.
    service_in_refusal _ _ _ before g.D.Disk.medium laws ending heard _ others _ _ _ _ _ whole counts hearing
    (front_bad _ whole front c.in-Bad.ensures.answered.0) puts c.in-Bad.ensures.answered.2)

pub returns-in-End-clause-ends : goal.returns-in-End-clause-ends
returns-in-End-clause-ends g c = λ laws start before heard others whole front counts hearing.
    let is = front_says _ whole line.End front c.in-End.ensures.answered.0 in
    service_end _ _ _ before g.D.Disk.medium laws heard others _ _ _ _ whole hearing is.spelled
    c.in-End.ensures.answered.1

pub returns-in-OutOfMemory-clause-ends : goal.returns-in-OutOfMemory-clause-ends
returns-in-OutOfMemory-clause-ends g c = λ laws start before heard others whole front counts hearing.
    service_short _ _ _ before g.D.Disk.medium laws heard others _ _ _ _ whole (g.met.D.Disk.lawful _)
    c.answer_line.ensures.time hearing
    (⊎_elim (λ same. inl same) (λ stopped. inr (stopped_front whole front stopped)) c.in-OutOfMemory.ensures.answered)
