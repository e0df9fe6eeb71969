use Rattle.value_text.specs.lemmas.Public.{kind_in_takes, kind_in_again}
use Rattle.value_text.proofs.laws.read_type_is_exact.Goals as goal

pub returns-clause-found : goal.returns-clause-found
returns-clause-found c = kind_in_takes

pub returns-clause-again : goal.returns-clause-again
returns-clause-again c = kind_in_again
