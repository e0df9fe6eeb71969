-- The text alone, or the line of the refusal.
use Rattle.std.proofs.Common.{Ok, Err, ap, sym}
use Rattle.per_backup.specs.Clauses.{exported_as}
use Rattle.per_run.proofs.Answered.{answers_as, answers_err, answers_ok}
use Rattle.per_run.proofs.Outputs.{writes_as}
use Rattle.per_run.proofs.exporting.write_exported.Goals as goal

pub returns-in-Octets-clause-answers : goal.returns-in-Octets-clause-answers
returns-in-Octets-clause-answers g c =
    answers_as (λ text. text) (Ok c.in-Octets.text) (exported_as c.args.exported) _ _ _
    (sym (ap exported_as c.in-Octets.is))
    (answers_ok (λ text. text) c.in-Octets.text _ _ _ _
    (writes_as _ _ _ _ _ c.as_slice.ensures c.write_output.ensures.output) c.write_output.ensures.status)

pub returns-in-Refused-clause-answers : goal.returns-in-Refused-clause-answers
returns-in-Refused-clause-answers g c =
    answers_as (λ text. text) (Err c.in-Refused.error) (exported_as c.args.exported) _ _ _
    (sym (ap exported_as c.in-Refused.is))
    (answers_err (λ text. text) c.in-Refused.error _ _ _ _ c.write_refusal.ensures.output
    c.write_refusal.ensures.status)
