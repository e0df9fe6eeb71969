use Rattle.loss_laws.proofs.Spared.{spared_roots, spared_slots, spared_storages}
use Rattle.loss_laws.proofs.what_lay_elsewhere_reads_on.Goals as goal

pub returns-clause-storages : goal.returns-clause-storages
returns-clause-storages c = spared_storages c.only_what_lay_there_is_lost.ensures.spared
    c.places_stand_apart.ensures.frame

pub returns-clause-roots : goal.returns-clause-roots
returns-clause-roots c = spared_roots c.only_what_lay_there_is_lost.ensures.spared c.roots_say.ensures.says

pub returns-clause-slots : goal.returns-clause-slots
returns-clause-slots c = spared_slots c.only_what_lay_there_is_lost.ensures.spared
