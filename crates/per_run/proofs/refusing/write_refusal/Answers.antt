-- The text of the reply is the line of the error.
use Rattle.std.proofs.Common.{List, [], ◌≡◌, ◌∙◌, ap}
use Rattle.std.proofs.lemmas.Result.{IfOk-weaker}
use Rattle.per_base.specs.declared.errors.PerError.{PerError}
use Rattle.per_base.specs.declared.reports.Report.{Report}
use Rattle.command_text.specs.Replies.{reply_text}
use Rattle.command_text.specs.declared.replies.Answer.TheVariants as answer
use Rattle.per_run.specs.Jobs.{error_line}
use Rattle.per_run.proofs.refusing.write_refusal.Goals as goal

one_line : (reports : List Report) (e : PerError) → reports ≡ []
    → reply_text (record { reports = reports; answer = answer.Error e }) ≡ error_line e
one_line reports e none = ap (λ (rs : List Report). reply_text (record { reports = rs; answer = answer.Error e })) none

pub returns-clause-output : goal.returns-clause-output
returns-clause-output g c = c.write_made_output.ensures.output (error_line c.args.error)
    (IfOk-weaker c.print_reply.result _ _
    (λ text is. is ∙ one_line c.new-2.result c.args.error (c.new-2.ensures ∙ c.new.ensures.items))
    c.print_reply.ensures)
