use Rattle.element_maps.specs.lemmas.Same.{same_is, same_from}
use Rattle.element_maps.proofs.Synced.{untested, owed}
use Rattle.element_maps.proofs.laws.views_are_maps.Goals as goal

pub returns-clause-untested : goal.returns-clause-untested
returns-clause-untested c = untested

pub returns-clause-synchronised : goal.returns-clause-synchronised
returns-clause-synchronised c = owed

pub returns-clause-same : goal.returns-clause-same
returns-clause-same c a b = (same_is a b, same_from a b)
