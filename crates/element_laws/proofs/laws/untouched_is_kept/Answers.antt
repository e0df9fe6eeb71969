use Rattle.element_laws.specs.lemmas.Phases.{damage, untouched}
use Rattle.element_laws.proofs.laws.untouched_is_kept.Goals as goal

pub returns-clause-damage : goal.returns-clause-damage
returns-clause-damage c = damage

pub returns-clause-untouched : goal.returns-clause-untouched
returns-clause-untouched c = untouched
