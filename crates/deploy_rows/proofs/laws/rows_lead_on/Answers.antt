use Rattle.deploy_rows.proofs.Later.{later_finish, later_install, later_reopened, later_rollback, later_update}
use Rattle.deploy_rows.proofs.Later.{later_wipe}
use Rattle.deploy_rows.proofs.laws.rows_lead_on.Goals as goal

pub returns-clause-install : goal.returns-clause-install
returns-clause-install c = later_install

pub returns-clause-finish : goal.returns-clause-finish
returns-clause-finish c = later_finish

pub returns-clause-rollback : goal.returns-clause-rollback
returns-clause-rollback c = later_rollback

pub returns-clause-wipe : goal.returns-clause-wipe
returns-clause-wipe c = later_wipe

pub returns-clause-update : goal.returns-clause-update
returns-clause-update c = later_update

pub returns-clause-open : goal.returns-clause-open
returns-clause-open c = later_reopened
