use Rattle.element_laws.specs.lemmas.Refusals.{index_first, index_first_rebuilt, old_overwritten, other_value, planted}
use Rattle.element_laws.specs.lemmas.Refusals.{copy_eaten, other_raised, salvage_raised, salvage_lost}
use Rattle.element_laws.proofs.laws.outcomes_are_refused.Goals as goal

pub returns-clause-index_first : goal.returns-clause-index_first
returns-clause-index_first c = index_first

pub returns-clause-index_first_rebuilt : goal.returns-clause-index_first_rebuilt
returns-clause-index_first_rebuilt c = index_first_rebuilt

pub returns-clause-old_overwritten : goal.returns-clause-old_overwritten
returns-clause-old_overwritten c = old_overwritten

pub returns-clause-other_value : goal.returns-clause-other_value
returns-clause-other_value c = other_value

pub returns-clause-planted : goal.returns-clause-planted
returns-clause-planted c = planted

pub returns-clause-copy_eaten : goal.returns-clause-copy_eaten
returns-clause-copy_eaten c = copy_eaten

pub returns-clause-other_raised : goal.returns-clause-other_raised
returns-clause-other_raised c = other_raised

pub returns-clause-salvage_raised : goal.returns-clause-salvage_raised
returns-clause-salvage_raised c = salvage_raised

pub returns-clause-salvage_lost : goal.returns-clause-salvage_lost
returns-clause-salvage_lost c = salvage_lost
