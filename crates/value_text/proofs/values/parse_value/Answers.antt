use Rattle.value_text.specs.lemmas.Public.{value_found, value_only}
use Rattle.value_text.proofs.values.parse_value.Goals as goal

pub returns-clause-found : goal.returns-clause-found
returns-clause-found c = value_found (λ v. v) c.args.text.now c.value_in.result c.value_in.ensures

pub returns-clause-only : goal.returns-clause-only
returns-clause-only c = value_only (λ v. v) c.args.text.now c.value_in.result c.value_in.ensures
