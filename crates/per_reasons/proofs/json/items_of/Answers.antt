use Rattle.std.proofs.Common.{ap, map, Some, ◌∙◌}
use Rattle.serde_json.specs.View.{view}
use Rattle.per_reasons.proofs.Things.{things_listed}
use Rattle.per_reasons.proofs.json.items_of.Goals as goal

pub returns-in-Some : goal.returns-in-Some
returns-in-Some c = ap (map view) c.as_slice.ensures.value
    ∙ things_listed (Some (view c.args.value.now)) c.in-Some.list.now.items c.in-Some.ensures
