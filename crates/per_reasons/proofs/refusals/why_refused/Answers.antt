use Rattle.per_reasons.specs.Reasons.{manifest_of_line}
use Rattle.per_reasons.proofs.Results.{if_ok, in_found}
use Rattle.per_reasons.proofs.refusals.why_refused.Goals as goal

pub returns-in-Some-clause-rejected : goal.returns-in-Some-clause-rejected
returns-in-Some-clause-rejected c = if_ok c.why_unfit.result _ _
    (λ why named rule few is. in_found (manifest_of_line c.args.line.now) c.in-Some.manifest.now _ c.in-Some.ensures
    (named rule few is)) c.why_unfit.ensures
