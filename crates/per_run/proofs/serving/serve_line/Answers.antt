-- The line is the one that is kept, and its number the next.
use Rattle.std.proofs.Common.{◌∙◌, arith}
use Rattle.per_run.proofs.serving.serve_line.Goals as goal

pub returns-in-Ok-clause-goes_on : goal.returns-in-Ok-clause-goes_on
returns-in-Ok-clause-goes_on g c = λ start before heard text front counts hearing.
    c.in-Ok.ensures.goes_on start before heard text (c.as_slice.ensures.value ∙ front)
    (omega (arith, c.saturating_add-number.ensures, counts)) hearing

pub returns-in-Err-clause-ends : goal.returns-in-Err-clause-ends
returns-in-Err-clause-ends g c = λ laws start before heard others text front counts hearing.
    c.in-Err.ensures.ends laws start before heard others text (c.as_slice.ensures.value ∙ front)
    (omega (arith, c.saturating_add-number.ensures, counts)) hearing
