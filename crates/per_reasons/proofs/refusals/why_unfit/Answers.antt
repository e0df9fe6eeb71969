use Rattle.std.proofs.Common.{rules, arith, ◌≡◌, ◌<◌, ◌^◌, string_bytes, subst}
use Rattle.std.proofs.lemmas.Fmt.{decimal_injective}
use Rattle.std.specs.Fmt.{decimal}
use Rattle.per_reasons.specs.Rules.{IsRuleText}
use Rattle.per_reasons.proofs.refusals.why_unfit.Goals as goal

pub returns-in_ok-why_rejected-in-Ok : goal.returns-in_ok-why_rejected-in-Ok
returns-in_ok-why_rejected-in-Ok c = λ rule few is.
    let digits : decimal c.in-Ok.rule ≡ decimal rule = search rules in
    let little : c.in-Ok.rule < 2 ^ 64 = search rules in
    let also : rule < 2 ^ 64 = omega arith in
    let same : c.in-Ok.rule ≡ rule = decimal_injective c.in-Ok.rule rule little also digits in
    subst (λ r. IsRuleText r c.args.manifest.now (string_bytes c.in_ok-why_rejected-in-Ok.field-0)) same
    c.in_ok-why_rejected-in-Ok.ensures
