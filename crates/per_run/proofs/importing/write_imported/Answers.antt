-- It is done, or the line of the refusal.
use Rattle.std.proofs.Common.{Option, codes, subst}
use Rattle.per_base.specs.declared.errors.PerError.{PerError}
use Rattle.deploy_rows.specs.Rows.{AnswersRow}
use Rattle.per_run.proofs.Answered.{err_answers, ok_answers}
use Rattle.per_run.proofs.importing.write_imported.Goals as goal

pub returns-in-None-clause-answers : goal.returns-in-None-clause-answers
returns-in-None-clause-answers g c = λ row answers. ok_answers (codes "ok\n") row _ _ _ _
    (subst (λ (refused : Option PerError). AnswersRow refused row) c.in-None.is answers)
    c.write_output.ensures.output c.write_output.ensures.status

pub returns-in-Some-clause-answers : goal.returns-in-Some-clause-answers
returns-in-Some-clause-answers g c = λ row answers. err_answers (codes "ok\n") c.in-Some.error row _ _ _ _
    (subst (λ (refused : Option PerError). AnswersRow refused row) c.in-Some.is answers)
    c.write_refusal.ensures.output c.write_refusal.ensures.status
