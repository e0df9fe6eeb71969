use Rattle.value_text.specs.lemmas.Public.{value_in_takes, value_in_again}
use Rattle.value_text.proofs.laws.read_value_is_exact.Goals as goal

pub returns-clause-found : goal.returns-clause-found
returns-clause-found c = value_in_takes

pub returns-clause-again : goal.returns-clause-again
returns-clause-again c = value_in_again
