use Rattle.loss_laws.proofs.Apps.{alone_roots, roots}
use Rattle.loss_laws.proofs.roots_read_on.Goals as goal

pub returns-clause-whole : goal.returns-clause-whole
returns-clause-whole c = roots

pub returns-clause-alone : goal.returns-clause-alone
returns-clause-alone c = alone_roots
