use Rattle.deploy_laws.proofs.Refusals.{old_bank_touched, old_version_lost, other_root, root_gone, root_raised}
use Rattle.deploy_laws.proofs.Refusals.{root_too_early, storage_strays}
use Rattle.deploy_laws.proofs.laws.outcomes_are_refused.Goals as goal

pub returns-clause-root_gone : goal.returns-clause-root_gone
returns-clause-root_gone c = root_gone

pub returns-clause-other_root : goal.returns-clause-other_root
returns-clause-other_root c = other_root

pub returns-clause-root_raised : goal.returns-clause-root_raised
returns-clause-root_raised c = root_raised

pub returns-clause-old_bank_touched : goal.returns-clause-old_bank_touched
returns-clause-old_bank_touched c = old_bank_touched

pub returns-clause-old_version_lost : goal.returns-clause-old_version_lost
returns-clause-old_version_lost c = old_version_lost

pub returns-clause-root_too_early : goal.returns-clause-root_too_early
returns-clause-root_too_early c = root_too_early

pub returns-clause-storage_strays : goal.returns-clause-storage_strays
returns-clause-storage_strays c = storage_strays
