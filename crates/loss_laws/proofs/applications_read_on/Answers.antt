use Rattle.loss_laws.proofs.Apps.{apps}
use Rattle.loss_laws.proofs.applications_read_on.Goals as goal

pub returns : goal.returns
returns c = apps c.roots_say.ensures.versions c.storages_read_on.ensures.outvoted c.roots_read_on.ensures.whole
