use Rattle.element_laws.specs.lemmas.Phases.{contents, contents_done}
use Rattle.element_laws.proofs.laws.contents_keep.Goals as goal

pub returns-clause-during : goal.returns-clause-during
returns-clause-during c = contents c.contents_stand_aside.ensures

pub returns-clause-done : goal.returns-clause-done
returns-clause-done c = contents_done c.contents_stand_aside.ensures
