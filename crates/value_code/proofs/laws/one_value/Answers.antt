use Rattle.value_code.specs.lemmas.ValueLaws.{one_tree}
use Rattle.value_code.proofs.laws.one_value.Goals as goal

pub returns : goal.returns
returns c = one_tree
