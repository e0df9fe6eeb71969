use Rattle.loss_laws.proofs.Apps.{of_one, storages}
use Rattle.loss_laws.proofs.storages_read_on.Goals as goal

pub returns-clause-outvoted : goal.returns-clause-outvoted
returns-clause-outvoted c = storages

pub returns-clause-of_one : goal.returns-clause-of_one
returns-clause-of_one c = of_one
