use Rattle.std.proofs.Common.{option_map, string_bytes}
use Rattle.per_reasons.proofs.Results.{if_ok}
use Rattle.per_reasons.proofs.Ruled.{ruled}
use Rattle.per_reasons.proofs.rules.why_rejected.Goals as goal

pub returns : goal.returns
returns c = if_ok c.format.result _ _ (λ text is. ruled c.args.rule c.end_of_json.result c.args.manifest.now
    (option_map string_bytes c.in_ok-blamed.field-0) (option_map string_bytes c.in_ok-why.why) _ _ _
    (string_bytes text) c.in_ok-why.ensures c.in_ok-place.ensures
    c.rule_text-broken.ensures c.in_ok-end.ensures is) c.format.ensures.ok
