use Rattle.loss_laws.proofs.Older.{lost_roots, older_roots}
use Rattle.loss_laws.proofs.Spared.{brings_older}
use Rattle.loss_laws.proofs.what_was_lost_reads_older.Goals as goal

pub returns-clause-storages : goal.returns-clause-storages
returns-clause-storages c = brings_older

pub returns-clause-roots : goal.returns-clause-roots
returns-clause-roots c = older_roots

pub returns-clause-lost : goal.returns-clause-lost
returns-clause-lost c = lost_roots c.only_what_lay_there_is_lost.ensures.spared
