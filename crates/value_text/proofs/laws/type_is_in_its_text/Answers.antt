use Rattle.value_text.specs.lemmas.Public.{same_type}
use Rattle.value_text.proofs.laws.type_is_in_its_text.Goals as goal

pub returns : goal.returns
returns c = same_type
