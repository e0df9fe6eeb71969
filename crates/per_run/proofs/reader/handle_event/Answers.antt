-- A command is answered, or the handling ends at it.
use Rattle.std.proofs.Common.{inl, inr}
use Rattle.per_run.proofs.Known.{if_err, on_ok}
use Rattle.per_run.proofs.Courses.{course_in_reply, course_short, handled_reply}
use Rattle.per_run.proofs.reader.handle_event.Goals as goal

pub returns-in-Ok-clause-goes_on : goal.returns-in-Ok-clause-goes_on
returns-in-Ok-clause-goes_on g c = on_ok _ _ _ c.write_reply.result _ c.write_reply.ensures.puts
    (λ wrote start before lines text spelled handled.
    handled_reply _ _ _ before lines _ _ _ _ _ _ text c.in-Ok.reply (g.met.D.Disk.lawful _) c.step.ensures.time
    handled
    (record {
      event = c.args.event.now;
      spelled = spelled;
      has_text = c.in-Ok.ensures.text;
      blamed = c.in-Ok.ensures.blamed;
      stepped = c.in-Ok.ensures.stepped;
    }) wrote)

pub returns-in-Ok-clause-ends : goal.returns-in-Ok-clause-ends
returns-in-Ok-clause-ends g c = if_err _ _ _ c.write_reply.result _ c.write_reply.ensures.puts
    (λ ending puts laws start before lines others text spelled handled.
    course_in_reply _ _ _ before laws ending lines others _ _ _ _ _ _ text c.in-Ok.reply
    (g.met.D.Disk.lawful _) c.step.ensures.time handled
    (record {
      event = c.args.event.now;
      spelled = spelled;
      has_text = c.in-Ok.ensures.text;
      blamed = c.in-Ok.ensures.blamed;
      stepped = c.in-Ok.ensures.stepped;
    }) puts)

pub returns-in-Err-clause-ends : goal.returns-in-Err-clause-ends
returns-in-Err-clause-ends g c = λ laws start before lines others text spelled handled.
    course_short _ _ _ before g.D.Disk.medium laws lines others _ _ _ _ text (g.met.D.Disk.lawful _)
    c.step.ensures.time handled
    (inr (record {
      event = c.args.event.now;
      spelled = spelled;
      stopped = c.in-Err.ensures.stopped;
      fed = c.in-Err.ensures.fed;
    }))

pub returns-in-Ok-clause-needs : goal.returns-in-Ok-clause-needs
returns-in-Ok-clause-needs g c = λ told starved text spelled. inr (
  c.in-Ok.reply,
  record {
    event = c.args.event.now;
    spelled = spelled;
    has_text = c.in-Ok.ensures.text;
    blamed = c.in-Ok.ensures.blamed;
    stepped = c.in-Ok.ensures.stepped;
  },
)

pub returns-in-Err-clause-needs : goal.returns-in-Err-clause-needs
returns-in-Err-clause-needs g c = λ told starved text spelled. inl (c.in-Err.ensures.needs told)
