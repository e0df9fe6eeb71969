use Rattle.loss_laws.proofs.Since.{read_on}
use Rattle.loss_laws.proofs.applications_read_on_since.Goals as goal

pub returns : goal.returns
returns g c flash t since = read_on (g.F.Flash.medium flash) t c.applications_read_on.ensures since
