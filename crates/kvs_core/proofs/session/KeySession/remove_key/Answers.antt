use Rattle.deployment_model.specs.Data.{storage_data}
use Rattle.kvs_core.proofs.Recoveries.{room_without}
use Rattle.kvs_core.proofs.session.KeySession.remove_key.Goals as goal

pub invariant_of-self-2 : goal.invariant_of-self-2
invariant_of-self-2 c = room_without (storage_data c.self.inside.config) c.self.inside.maps c.remove.new.self
    c.args.name.now c.self.invariant c.remove.ensures.removed
