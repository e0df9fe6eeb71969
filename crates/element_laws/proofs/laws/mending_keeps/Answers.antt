use Rattle.element_laws.proofs.MendLaws.{mend_start, mend_step, mend_sync, mend}
use Rattle.element_laws.proofs.laws.mending_keeps.Goals as goal

pub returns-clause-start : goal.returns-clause-start
returns-clause-start c = mend_start

pub returns-clause-step : goal.returns-clause-step
returns-clause-step c = mend_step

pub returns-clause-mend : goal.returns-clause-mend
returns-clause-mend c = mend c.contents_stand_aside.ensures

pub returns-clause-sync : goal.returns-clause-sync
returns-clause-sync c = mend_sync
