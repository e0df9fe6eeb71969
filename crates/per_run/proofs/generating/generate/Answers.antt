-- The lines are handled on a disk that was formatted, or the job did not come to its output.
use Rattle.std.proofs.Common.{Err, ap, refl, inl, inr, ◌∙◌, ⊎_elim}
use Rattle.disk_model.specs.Laws.{elapses_on}
use Rattle.per_run.proofs.Fresh.{generates_none}
use Rattle.per_run.proofs.generating.generate.Goals as goal

pub returns-in-Ok-clause-job : goal.returns-in-Ok-clause-job
returns-in-Ok-clause-job g c = c.generate_on.ensures.job c.args.disk.now c.in-Ok.ensures.begun.0 c.in-Ok.ensures.begun.1

pub returns-in-Ok-clause-status : goal.returns-in-Ok-clause-status
returns-in-Ok-clause-status g c = ⊎_elim (λ none. inl none)
    (⊎_elim (λ four. inr (inl four)) (λ six. inr (inr (inr six)))) c.generate_on.ensures.status

pub returns-in-Ok-clause-time : goal.returns-in-Ok-clause-time
returns-in-Ok-clause-time g c = elapses_on c.start_formatted.ensures.time c.generate_on.ensures.time

pub returns-in-Err-Device-clause-job : goal.returns-in-Err-Device-clause-job
returns-in-Err-Device-clause-job g c = generates_none _ _ _ _ _ _ _ (inl refl) c.start_formatted.ensures.time.faults
    (λ unfailed. absurd (unfailed refl)) c.start_formatted.ensures.within

pub returns-in-Err-Device-clause-status : goal.returns-in-Err-Device-clause-status
returns-in-Err-Device-clause-status g c = inr (inr (inl
    (refl, c.start_formatted.ensures.cause (c.in-Err-Device.is ∙ ap Err c.in-Err-Device.field-0-is))))

pub returns-in-Err-OutOfMemory-clause-job : goal.returns-in-Err-OutOfMemory-clause-job
returns-in-Err-OutOfMemory-clause-job g c = generates_none _ _ _ _ _ _ _ (inr refl)
    c.start_formatted.ensures.time.faults
    (λ unfailed. c.start_formatted.ensures.fed (c.in-Err-OutOfMemory.is ∙ ap Err c.in-Err-OutOfMemory.field-0-is))
    c.start_formatted.ensures.within

pub returns-in-Err-OutOfMemory-clause-status : goal.returns-in-Err-OutOfMemory-clause-status
returns-in-Err-OutOfMemory-clause-status g c = inr (inl refl)
