use Rattle.element_laws.specs.lemmas.RebuildingLaws.{given_up, taken_named, rebuilt_contents, rebuilt_done, rebuilt_index}
use Rattle.element_laws.proofs.laws.rebuilding_keeps.Goals as goal

pub returns-clause-taken : goal.returns-clause-taken
returns-clause-taken c = taken_named

pub returns-clause-contents : goal.returns-clause-contents
returns-clause-contents c = rebuilt_contents c.contents_stand_aside.ensures

pub returns-clause-index : goal.returns-clause-index
returns-clause-index c = rebuilt_index c.contents_stand_aside.ensures

pub returns-clause-given_up : goal.returns-clause-given_up
returns-clause-given_up c = given_up

pub returns-clause-done : goal.returns-clause-done
returns-clause-done c = rebuilt_done c.contents_stand_aside.ensures
