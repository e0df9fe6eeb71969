-- The runtime started and handled the lines, or it did not start.
use Rattle.std.proofs.Common.{Err, ap, refl, ◌∙◌}
use Rattle.disk_model.specs.Laws.{elapses_on}
use Rattle.per_run.proofs.Begins.{handled_none, run_from, run_none, run_short}
use Rattle.per_run.proofs.run.run.Goals as goal

pub returns-in-Ok-clause-run : goal.returns-in-Ok-clause-run
returns-in-Ok-clause-run g c =
    run_from _ _ c.handle_input.result _ _ _
    (elapses_on c.in-Ok.ensures.time c.handle_input.ensures.time) c.status.ensures
    c.handle_input.ensures.source_failed c.handle_input.ensures.blamed
    (c.handle_input.ensures.ran c.applications_stand.ensures c.args.disk.now
    (handled_none _ _ _ _ _ _ c.start.ensures.time c.in-Ok.ensures.passes (λ tells. c.in-Ok.ensures.starts tells)))

pub returns-in-Ok-clause-time : goal.returns-in-Ok-clause-time
returns-in-Ok-clause-time g c = elapses_on c.start.ensures.time c.handle_input.ensures.time

pub returns-in-Err-Device-clause-run : goal.returns-in-Err-Device-clause-run
returns-in-Err-Device-clause-run g c = run_none c.applications_stand.ensures _ _ _ _ _ _ _ _ _
    (g.met.D.Disk.lawful _) c.start.ensures.time c.start.ensures.stopped refl
    (c.start.ensures.cause (c.in-Err-Device.is ∙ ap Err c.in-Err-Device.field-0-is))

pub returns-in-Err-OutOfMemory-clause-run : goal.returns-in-Err-OutOfMemory-clause-run
returns-in-Err-OutOfMemory-clause-run g c = run_short c.applications_stand.ensures _ _ _ _ _ _ _ _ _
    (g.met.D.Disk.lawful _) c.start.ensures.time c.start.ensures.stopped refl
    (c.start.ensures.fed (c.in-Err-OutOfMemory.is ∙ ap Err c.in-Err-OutOfMemory.field-0-is))
