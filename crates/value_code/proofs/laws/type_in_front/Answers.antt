use Rattle.value_code.specs.lemmas.ValueLaws.{one_type}
use Rattle.value_code.proofs.laws.type_in_front.Goals as goal

pub returns : goal.returns
returns c = one_type
