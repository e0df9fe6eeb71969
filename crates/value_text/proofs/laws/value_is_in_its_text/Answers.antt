use Rattle.std.proofs.Common.{ap}
use Rattle.value_model.specs.Trees.{type_of}
use Rattle.value_text.specs.lemmas.Public.{same_value}
use Rattle.value_text.proofs.laws.value_is_in_its_text.Goals as goal

pub returns-clause-value : goal.returns-clause-value
returns-clause-value c = same_value

pub returns-clause-its_type : goal.returns-clause-its_type
returns-clause-its_type c = λ t u p q e. ap type_of (same_value t u p q e)
