use Rattle.element_laws.proofs.Unchanged.{frame, outside, elsewhere, elsewhere_case}
use Rattle.element_laws.proofs.laws.places_stand_apart.Goals as goal

pub returns-clause-frame : goal.returns-clause-frame
returns-clause-frame c = frame

pub returns-clause-outside : goal.returns-clause-outside
returns-clause-outside c = outside

pub returns-clause-unchanged : goal.returns-clause-unchanged
returns-clause-unchanged c = elsewhere

pub returns-clause-case : goal.returns-clause-case
returns-clause-case c = elsewhere_case
