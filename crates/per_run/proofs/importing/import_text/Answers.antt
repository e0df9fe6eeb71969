-- The text is imported, and that or the refusal is said; or the disk failed, or memory ran out.
use Rattle.std.proofs.Common.{Err, ap, inl, inr, refl, ◌∙◌}
use Rattle.per_backup.specs.Backups.{importing_into}
use Rattle.per_run.proofs.Answered.{makes_none, some_numbered, some_refused}
use Rattle.per_run.proofs.importing.import_text.Goals as goal

pub write_imported-requires : goal.write_imported-requires
write_imported-requires g c = some_numbered c.in-Ok.refused
    (importing_into c.in-Ok.ensures.refused.0 c.args.name.now c.args.text.now) c.in-Ok.ensures.refused.2
    (c.refusals_are_numbered.ensures.imports c.in-Ok.ensures.refused.0 c.args.name.now c.args.text.now)

pub returns-in-Ok-clause-made : goal.returns-in-Ok-clause-made
returns-in-Ok-clause-made g c = record {
  it = c.in-Ok.ensures.refused.0;
  seen = c.in-Ok.ensures.refused.1;
  answers = c.write_imported.ensures.answers
      (importing_into c.in-Ok.ensures.refused.0 c.args.name.now c.args.text.now) c.in-Ok.ensures.refused.2;
  refused = λ done is. c.in-Ok.ensures.unchanged (some_refused c.in-Ok.refused
      (importing_into c.in-Ok.ensures.refused.0 c.args.name.now c.args.text.now) c.in-Ok.ensures.refused.2 is);
  imported = λ tells done. c.in-Ok.ensures.imported tells;
  keeps = c.import.ensures.keeps;
  written = c.import.ensures.written;
  quiet = λ done. c.in-Ok.ensures.quiet;
  failed = λ unfailed. c.in-Ok.ensures.passes;
}

pub returns-in-Err-Device-clause-made : goal.returns-in-Err-Device-clause-made
returns-in-Err-Device-clause-made g c = makes_none _ _ _ _ _ _ _ _ (inl refl) c.import.ensures.keeps
    c.import.ensures.written
    (λ unfailed. absurd (unfailed refl))

pub returns-in-Err-Device-clause-status : goal.returns-in-Err-Device-clause-status
returns-in-Err-Device-clause-status g c = inr (inr (inl (
  refl,
  c.import.ensures.cause (c.in-Err-Device.is ∙ ap Err c.in-Err-Device.field-0-is),
)))

pub returns-in-Err-OutOfMemory-clause-made : goal.returns-in-Err-OutOfMemory-clause-made
returns-in-Err-OutOfMemory-clause-made g c = makes_none _ _ _ _ _ _ _ _ (inr refl) c.import.ensures.keeps
    c.import.ensures.written
    (λ unfailed. c.import.ensures.fed (c.in-Err-OutOfMemory.is ∙ ap Err c.in-Err-OutOfMemory.field-0-is))
