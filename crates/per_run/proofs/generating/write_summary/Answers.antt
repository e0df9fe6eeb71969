-- The text is that of the replies.
use Rattle.std.proofs.Common.{ℕ, ◌∙◌, ◌+◌, ap, refl, inr}
use Rattle.per_run.specs.Jobs.{summary}
use Rattle.per_run.proofs.Outputs.{writes_as, writes_none}
use Rattle.per_run.proofs.Tallied.{summary_is}
use Rattle.per_run.proofs.generating.write_summary.Goals as goal

pub returns-in-Ok-clause-output : goal.returns-in-Ok-clause-output
returns-in-Ok-clause-output g c = λ replies tallies. writes_as _ _ _ _ _
    (c.as_bytes.ensures.value ∙ c.in-Ok.ensures ∙ summary_is _ replies c.args.tally.now tallies
    ∙ ap (λ (n : ℕ). summary (n + 5) replies) c.from.ensures) c.write_output.ensures.output

pub returns-in-Err-clause-output : goal.returns-in-Err-clause-output
returns-in-Err-clause-output g c = λ replies tallies. writes_none _ _ _ (inr refl)
