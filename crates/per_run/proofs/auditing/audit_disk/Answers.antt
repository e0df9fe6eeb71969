-- The disk is audited, and the text is that of what was listed and found; or the disk failed, or memory ran out.
use Rattle.std.proofs.Common.{Err, ap, inl, inr, refl, ◌∙◌}
use Rattle.per_run.specs.declared.words.JobKind.TheVariants.{Audit}
use Rattle.per_run.specs.Jobs.{by_disk}
use Rattle.per_run.proofs.Answered.{audits_none}
use Rattle.per_run.proofs.Caused.{audit_caused, short_caused}
use Rattle.per_run.proofs.auditing.audit_disk.Goals as goal

pub returns-in-Ok-clause-job : goal.returns-in-Ok-clause-job
returns-in-Ok-clause-job g c = record {
  elements = c.in-Ok.audit.elements;
  findings = c.in-Ok.audit.findings;
  elements_are = λ tells. c.in-Ok.ensures.elements tells;
  findings_are = λ tells. c.in-Ok.ensures.findings tells;
  output = c.write_audit.ensures.output;
  sound = c.write_audit.ensures.sound;
  found = c.write_audit.ensures.found;
  stays = record { image = c.audit.ensures.image; written = c.audit.ensures.written; during = c.audit.ensures.during };
  quiet = λ done. c.in-Ok.ensures.quiet;
  failed = λ unfailed. c.in-Ok.ensures.passes;
}

pub returns-in-Ok-clause-caused : goal.returns-in-Ok-clause-caused
returns-in-Ok-clause-caused g c = λ source. audit_caused _ _ _ c.write_audit.ensures.status

pub returns-in-Err-Device-clause-job : goal.returns-in-Err-Device-clause-job
returns-in-Err-Device-clause-job g c = audits_none _ _ _ _ _ (inl refl)
    (record { image = c.audit.ensures.image; written = c.audit.ensures.written; during = c.audit.ensures.during })
    (λ unfailed. absurd (unfailed refl))

pub returns-in-Err-Device-clause-caused : goal.returns-in-Err-Device-clause-caused
returns-in-Err-Device-clause-caused g c = λ source. by_disk refl
    (c.audit.ensures.cause (c.in-Err-Device.is ∙ ap Err c.in-Err-Device.field-0-is))

pub returns-in-Err-OutOfMemory-clause-job : goal.returns-in-Err-OutOfMemory-clause-job
returns-in-Err-OutOfMemory-clause-job g c = audits_none _ _ _ _ _ (inr refl)
    (record { image = c.audit.ensures.image; written = c.audit.ensures.written; during = c.audit.ensures.during })
    (λ unfailed. c.audit.ensures.fed (c.in-Err-OutOfMemory.is ∙ ap Err c.in-Err-OutOfMemory.field-0-is))

pub returns-in-Err-OutOfMemory-clause-caused : goal.returns-in-Err-OutOfMemory-clause-caused
returns-in-Err-OutOfMemory-clause-caused g c = λ source. short_caused Audit _ _
