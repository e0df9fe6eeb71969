-- The disk is formatted, or the job did not come to its output.
use Rattle.std.proofs.Common.{Err, ap, refl, inl, inr, ◌∙◌, ⊎_elim}
use Rattle.per_run.proofs.Fresh.{formats_none, is_formatted}
use Rattle.per_run.proofs.formatting.format.Goals as goal

pub returns-in-Ok-clause-job : goal.returns-in-Ok-clause-job
returns-in-Ok-clause-job g c = record {
  output = c.write_output.ensures.output;
  world = λ tells done. is_formatted _ (c.in-Ok.ensures.apps tells);
  clean = λ tells done. c.in-Ok.ensures.clean tells;
  quiet = λ done. c.in-Ok.ensures.quiet;
  roots = c.format_all.ensures.outside.at_the_end;
  written = c.format_all.ensures.written;
  failed = λ unfailed. c.in-Ok.ensures.passes;
}

pub returns-in-Ok-clause-status : goal.returns-in-Ok-clause-status
returns-in-Ok-clause-status g c = ⊎_elim (λ none. inl none) (λ six. inr (inr (inr six))) c.write_output.ensures.status

pub returns-in-Err-Device-clause-job : goal.returns-in-Err-Device-clause-job
returns-in-Err-Device-clause-job g c = formats_none _ _ _ _ _ (inl refl)
    c.format_all.ensures.outside.at_the_end c.format_all.ensures.written
    (λ unfailed. absurd (unfailed refl))

pub returns-in-Err-Device-clause-status : goal.returns-in-Err-Device-clause-status
returns-in-Err-Device-clause-status g c = inr (inr (inl
    (refl, c.format_all.ensures.cause (c.in-Err-Device.is ∙ ap Err c.in-Err-Device.field-0-is))))

pub returns-in-Err-OutOfMemory-clause-job : goal.returns-in-Err-OutOfMemory-clause-job
returns-in-Err-OutOfMemory-clause-job g c = formats_none _ _ _ _ _ (inr refl)
    c.format_all.ensures.outside.at_the_end c.format_all.ensures.written
    (λ unfailed. c.format_all.ensures.fed (c.in-Err-OutOfMemory.is ∙ ap Err c.in-Err-OutOfMemory.field-0-is))

pub returns-in-Err-OutOfMemory-clause-status : goal.returns-in-Err-OutOfMemory-clause-status
returns-in-Err-OutOfMemory-clause-status g c = inr (inl refl)
