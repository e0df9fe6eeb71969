use Rattle.element_laws.specs.lemmas.IndexLaws.{index}
use Rattle.element_laws.proofs.laws.index_keeps.Goals as goal

pub returns : goal.returns
returns c = index c.contents_stand_aside.ensures
