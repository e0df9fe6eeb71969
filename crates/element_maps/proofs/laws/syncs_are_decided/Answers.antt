use Rattle.element_maps.specs.lemmas.Same.{next_view, same_map_from, same_map_is, view_stays}
use Rattle.element_maps.proofs.laws.syncs_are_decided.Goals as goal

pub returns-clause-decides : goal.returns-clause-decides
returns-clause-decides c a b = (same_map_is a b, same_map_from a b)

pub returns-clause-stays : goal.returns-clause-stays
returns-clause-stays c = view_stays

pub returns-clause-next : goal.returns-clause-next
returns-clause-next c = next_view
