use Rattle.deploy_rows.proofs.Alike.{finish_refuses, finish_says, install_refuses, install_says, offer_refuses}
use Rattle.deploy_rows.proofs.Alike.{rollback_refuses, rollback_says, wipe_refuses, wipe_says}
use Rattle.deploy_rows.proofs.laws.rows_read_the_root.Goals as goal

pub returns-clause-install : goal.returns-clause-install
returns-clause-install c = install_refuses

pub returns-clause-finish : goal.returns-clause-finish
returns-clause-finish c = finish_refuses

pub returns-clause-rollback : goal.returns-clause-rollback
returns-clause-rollback c = rollback_refuses

pub returns-clause-wipe : goal.returns-clause-wipe
returns-clause-wipe c = wipe_refuses

pub returns-clause-offer : goal.returns-clause-offer
returns-clause-offer c = offer_refuses

pub returns-clause-installed : goal.returns-clause-installed
returns-clause-installed c = install_says

pub returns-clause-finished : goal.returns-clause-finished
returns-clause-finished c = finish_says

pub returns-clause-rolled_back : goal.returns-clause-rolled_back
returns-clause-rolled_back c = rollback_says

pub returns-clause-wiped : goal.returns-clause-wiped
returns-clause-wiped c = wipe_says
