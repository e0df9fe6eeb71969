use Rattle.serde_json.specs.View.{view}
use Rattle.per_reasons.proofs.Dumped.{string_found}
use Rattle.per_reasons.proofs.dumps.string_at.Goals as goal

pub returns : goal.returns
returns c = string_found c.string_of.result (λ t. t.now) _ _ _ (view c.args.dump.now) c.string_of.ensures
