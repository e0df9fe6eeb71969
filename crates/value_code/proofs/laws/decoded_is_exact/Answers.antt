use Rattle.value_code.specs.lemmas.ValueLaws.{decoded_takes, decoded_again}
use Rattle.value_code.proofs.laws.decoded_is_exact.Goals as goal

pub returns-clause-found : goal.returns-clause-found
returns-clause-found c = decoded_takes

pub returns-clause-again : goal.returns-clause-again
returns-clause-again c = decoded_again
