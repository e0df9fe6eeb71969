use Rattle.element_laws.specs.lemmas.Phases.{adopt, keep}
use Rattle.element_laws.proofs.laws.adopting_keeps.Goals as goal

pub returns-clause-adopt : goal.returns-clause-adopt
returns-clause-adopt c = adopt

pub returns-clause-keep : goal.returns-clause-keep
returns-clause-keep c = keep
