use Rattle.std.proofs.Common.{◌∙◌, ap}
use Rattle.std.specs.Prelude.{Some}
use Rattle.deployment_model.specs.Data.{storage_data}
use Rattle.kvs_core.proofs.Recoveries.{room_without}
use Rattle.kvs_core.proofs.SameKinds.{initial_short}
use Rattle.kvs_core.proofs.session.KeySession.restore.Goals as goal

pub invariant_of-self : goal.invariant_of-self
invariant_of-self c = room_without (storage_data c.self.inside.config) c.self.inside.maps c.remove-was.new.self
    c.args.name.now c.self.invariant c.remove-was.ensures.removed

pub start-requires : goal.start-requires
start-requires c = initial_short (storage_data c.self.inside.config) c.args.name.now c.as_slice.result.now
    c.self.invariant.configured c.self.invariant.of_keys (ap (λ b. Some b) c.as_slice.ensures ∙ c.in-Some.ensures)
