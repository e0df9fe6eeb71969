use Rattle.value_code.specs.lemmas.Lengths.{encoding_long}
use Rattle.value_code.proofs.laws.encoding_lengths.Goals as goal

pub returns-clause-shortest : goal.returns-clause-shortest
returns-clause-shortest c = encoding_long

pub returns-clause-longest : goal.returns-clause-longest
returns-clause-longest c = λ t v. v.short
