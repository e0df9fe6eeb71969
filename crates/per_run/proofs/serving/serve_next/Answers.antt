-- The line is kept and handled, or the handling ends at it.
use Rattle.std.proofs.Common.{◌∷◌, ◌++◌}
use Rattle.per_run.specs.Steps.{ending_of}
use Rattle.per_run.proofs.Listens.{ends_line, ends_short, listened_line}
use Rattle.per_run.proofs.serving.serve_next.Goals as goal

pub returns-in-Err-clause-ends : goal.returns-in-Err-clause-ends
returns-in-Err-clause-ends g c = λ laws start before given others l.
    ends_short _ _ _ before laws c.in-Err.ending given (c.args.line.now ++ 10 ∷ others) _ _ _ _ _
    c.in-Err.ensures.memory l

pub returns-in-Ok-serve_line-clause-goes_on : goal.returns-in-Ok-serve_line-clause-goes_on
returns-in-Ok-serve_line-clause-goes_on g c = λ start before given l.
    listened_line _ _ _ before given c.args.line.now _ _ _ _ _ _ _ _ _ _ _ l c.requires.clean
    c.in-Ok.ensures.kept (λ heard text. c.in-Ok-serve_line.ensures.goes_on start before heard text)
    c.in-Ok-serve_line.ensures.counts c.in-Ok-serve_line.ensures.clears

pub returns-in-Err-serve_line-clause-ends : goal.returns-in-Err-serve_line-clause-ends
returns-in-Err-serve_line-clause-ends g c = λ laws start before given others l.
    ends_line _ _ _ before (ending_of c.in-Err-serve_line.ending) given c.args.line.now others _ _ _ _ _ _ _ _
    l c.requires.clean c.in-Ok.ensures.kept
    (λ heard more text. c.in-Err-serve_line.ensures.ends laws start before heard more text)
