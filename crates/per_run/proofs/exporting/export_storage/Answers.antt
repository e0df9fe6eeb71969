-- The storage is exported, and what is written is its text or its refusal; or the disk failed, or memory ran out.
use Rattle.std.proofs.Common.{Err, ap, inl, inr, refl, ◌∙◌}
use Rattle.per_backup.specs.Backups.{exporting}
use Rattle.per_backup.specs.Clauses.{exported_as}
use Rattle.per_run.specs.declared.words.JobKind.TheVariants.{Export}
use Rattle.per_run.specs.Jobs.{by_disk}
use Rattle.per_run.proofs.Answered.{answers_as, err_numbered, exports_none}
use Rattle.per_run.proofs.Caused.{export_caused, short_caused}
use Rattle.per_run.proofs.exporting.export_storage.Goals as goal

pub write_exported-requires : goal.write_exported-requires
write_exported-requires g c = err_numbered (exported_as c.in-Ok.exported)
    (exporting c.in-Ok.ensures.answer.0 c.args.name.now) c.in-Ok.ensures.answer.2
    (c.refusals_are_numbered.ensures.exports c.in-Ok.ensures.answer.0 c.args.name.now)

pub returns-in-Ok-clause-job : goal.returns-in-Ok-clause-job
returns-in-Ok-clause-job g c = record {
  it = c.in-Ok.ensures.answer.0;
  seen = c.in-Ok.ensures.answer.1;
  answers = answers_as (λ text. text) (exported_as c.in-Ok.exported)
      (exporting c.in-Ok.ensures.answer.0 c.args.name.now) _ _ _ c.in-Ok.ensures.answer.2
      c.write_exported.ensures.answers;
  stays = c.export.ensures.stays;
  quiet = λ done. c.in-Ok.ensures.quiet;
  failed = λ unfailed. c.in-Ok.ensures.passes;
}

pub returns-in-Ok-clause-caused : goal.returns-in-Ok-clause-caused
returns-in-Ok-clause-caused g c = λ source. export_caused _ _ _ _ _ c.write_exported.ensures.status

pub returns-in-Err-Device-clause-job : goal.returns-in-Err-Device-clause-job
returns-in-Err-Device-clause-job g c = exports_none _ _ _ _ _ _ _ (inl refl)
    c.export.ensures.stays
    (λ unfailed. absurd (unfailed refl))

pub returns-in-Err-Device-clause-caused : goal.returns-in-Err-Device-clause-caused
returns-in-Err-Device-clause-caused g c = λ source. by_disk refl
    (c.export.ensures.cause (c.in-Err-Device.is ∙ ap Err c.in-Err-Device.field-0-is))

pub returns-in-Err-OutOfMemory-clause-job : goal.returns-in-Err-OutOfMemory-clause-job
returns-in-Err-OutOfMemory-clause-job g c = exports_none _ _ _ _ _ _ _ (inr refl)
    c.export.ensures.stays
    (λ unfailed. c.export.ensures.fed (c.in-Err-OutOfMemory.is ∙ ap Err c.in-Err-OutOfMemory.field-0-is))

pub returns-in-Err-OutOfMemory-clause-caused : goal.returns-in-Err-OutOfMemory-clause-caused
returns-in-Err-OutOfMemory-clause-caused g c = λ source.
    short_caused (Export c.args.application c.args.name.now) _ _
