-- The runtime started and handled the lines, or it did not start.
use Rattle.std.proofs.Common.{Err, ap, ◌∙◌}
use Rattle.disk_model.specs.Laws.{elapses_on}
use Rattle.per_run.proofs.Prepared.{hearing_none, serves_from, serves_none, serves_short}
use Rattle.per_run.proofs.serving.serve.Goals as goal

pub returns-in-Ok-clause-serves : goal.returns-in-Ok-clause-serves
returns-in-Ok-clause-serves g c =
    let r = c.in-Ok.ensures.readied in
    serves_from g.D.Disk _ c.serve_input.result _ _ _ _ _ r c.serve_input.ensures.time
    c.status.ensures c.serve_input.ensures.source_failed c.serve_input.ensures.blamed
    (c.serve_input.ensures.served c.applications_stand.ensures r.start
    (hearing_none _ _ _ _ _ _ r.time r.passes r.starts))

pub returns-in-Ok-clause-time : goal.returns-in-Ok-clause-time
returns-in-Ok-clause-time g c = elapses_on c.prepare.ensures.time c.serve_input.ensures.time

pub returns-in-Err-Device-clause-serves : goal.returns-in-Err-Device-clause-serves
returns-in-Err-Device-clause-serves g c = serves_none c.applications_stand.ensures g.D.Disk _ _ _ _ _ _ _
    (g.met.D.Disk.lawful _) c.prepare.ensures.time c.in-Err-Device.ensures.unready
    (c.prepare.ensures.cause (c.in-Err-Device.is ∙ ap Err c.in-Err-Device.field-0-is))

pub returns-in-Err-OutOfMemory-clause-serves : goal.returns-in-Err-OutOfMemory-clause-serves
returns-in-Err-OutOfMemory-clause-serves g c = serves_short c.applications_stand.ensures g.D.Disk _ _ _ _ _ _
    _ (g.met.D.Disk.lawful _) c.prepare.ensures.time c.in-Err-OutOfMemory.ensures.unready
    (c.prepare.ensures.fed (c.in-Err-OutOfMemory.is ∙ ap Err c.in-Err-OutOfMemory.field-0-is))
