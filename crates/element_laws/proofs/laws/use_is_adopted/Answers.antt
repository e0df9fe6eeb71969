use Rattle.element_laws.specs.lemmas.Phases.{corrupt_found}
use Rattle.element_laws.specs.lemmas.Refusals.{in_use, carried, whole, opened}
use Rattle.element_laws.proofs.laws.use_is_adopted.Goals as goal

pub returns-clause-adopted : goal.returns-clause-adopted
returns-clause-adopted c = in_use

pub returns-clause-carried : goal.returns-clause-carried
returns-clause-carried c = carried

pub returns-clause-whole : goal.returns-clause-whole
returns-clause-whole c = whole

pub returns-clause-opened : goal.returns-clause-opened
returns-clause-opened c = opened

pub returns-clause-corrupt : goal.returns-clause-corrupt
returns-clause-corrupt c = corrupt_found
