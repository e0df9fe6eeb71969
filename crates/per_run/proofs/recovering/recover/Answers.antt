-- The root is recovered, and what is written is which was taken, or why none was; or the disk failed, or memory ran
-- out.
use Rattle.std.proofs.Common.{Err, ap, arith, inl, inr, refl, ◌∙◌}
use Rattle.root_recovery.specs.Recoveries.{IsRefused, row_answered}
use Rattle.root_recovery.specs.Texts.{recovery_text}
use Rattle.per_run.specs.declared.words.JobKind.TheVariants.{RecoverRoot}
use Rattle.per_run.specs.Jobs.{by_disk}
use Rattle.per_run.proofs.Answered.{recovered_as, recovered_ends, recovers_none}
use Rattle.per_run.proofs.Caused.{recover_caused, short_caused}
use Rattle.per_run.proofs.recovering.recover.Goals as goal

pub returns-in-Ok-clause-job : goal.returns-in-Ok-clause-job
returns-in-Ok-clause-job g c = record {
  row = row_answered c.in-Ok.recovery;
  ended = λ tells came. c.in-Ok.ensures.ended tells;
  output = c.write_made_output.ensures.output (recovery_text (row_answered c.in-Ok.recovery)) c.text.ensures;
  done = recovered_as (¬ (IsRefused (row_answered c.in-Ok.recovery))) c.write_made_output.result c.verdict.result 0 _
      c.verdict.ensures.done (λ e. omega (arith, e)) (λ e. omega (arith, e)) c.write_made_output.ensures.status;
  refused = recovered_as (IsRefused (row_answered c.in-Ok.recovery)) c.write_made_output.result c.verdict.result 9 _
      c.verdict.ensures.refused (λ e. omega (arith, e)) (λ e. omega (arith, e)) c.write_made_output.ensures.status;
  stays = λ came refused. let leaves = c.in-Ok.ensures.refused refused in
      record { image = leaves.image; written = leaves.written; during = leaves.during };
  keeps = λ tells. c.recover_root.ensures.keeps tells;
  written = c.recover_root.ensures.written;
  quiet = λ came. c.in-Ok.ensures.quiet;
  failed = λ unfailed. c.in-Ok.ensures.passes;
}

pub returns-in-Ok-clause-caused : goal.returns-in-Ok-clause-caused
returns-in-Ok-clause-caused g c = λ source. recover_caused _ _ _ _
    (recovered_ends c.write_made_output.result c.verdict.result _ c.verdict.ensures.status
    c.write_made_output.ensures.status)

pub returns-in-Err-Device-clause-job : goal.returns-in-Err-Device-clause-job
returns-in-Err-Device-clause-job g c = recovers_none _ _ _ _ _ _ (inl refl) c.recover_root.ensures.keeps
    c.recover_root.ensures.written (λ unfailed. absurd (unfailed refl))

pub returns-in-Err-Device-clause-caused : goal.returns-in-Err-Device-clause-caused
returns-in-Err-Device-clause-caused g c = λ source. by_disk refl
    (c.recover_root.ensures.cause (c.in-Err-Device.is ∙ ap Err c.in-Err-Device.field-0-is))

pub returns-in-Err-OutOfMemory-clause-job : goal.returns-in-Err-OutOfMemory-clause-job
returns-in-Err-OutOfMemory-clause-job g c = recovers_none _ _ _ _ _ _ (inr refl) c.recover_root.ensures.keeps
    c.recover_root.ensures.written
    (λ unfailed. c.recover_root.ensures.fed (c.in-Err-OutOfMemory.is ∙ ap Err c.in-Err-OutOfMemory.field-0-is))

pub returns-in-Err-OutOfMemory-clause-caused : goal.returns-in-Err-OutOfMemory-clause-caused
returns-in-Err-OutOfMemory-clause-caused g c = λ source. short_caused (RecoverRoot c.args.application) _ _
