use Rattle.kvs_laws.proofs.Standing.{reads, still, sync}
use Rattle.kvs_laws.proofs.laws.values_stand.Goals as goal

pub returns-clause-reads : goal.returns-clause-reads
returns-clause-reads c = reads

pub returns-clause-sync : goal.returns-clause-sync
returns-clause-sync c = sync c.syncs_are_decided.ensures.decides c.views_are_maps.ensures.same

pub returns-clause-still : goal.returns-clause-still
returns-clause-still c = still c.untouched_is_kept.ensures.untouched
