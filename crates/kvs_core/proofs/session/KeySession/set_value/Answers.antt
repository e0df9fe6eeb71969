use Rattle.per_value.specs.Memory.{Allocates}
use Rattle.kvs_core.specs.Calls as calls
use Rattle.kvs_core.proofs.Recoveries.{needs_alike, refused_same, value_kept}
use Rattle.kvs_core.proofs.session.KeySession.set_value.Goals as goal

pub returns-in-Ok-clause-refused : goal.returns-in-Ok-clause-refused
returns-in-Ok-clause-refused g c =
    refused_same c.set_any.result (calls.set_value c.args.self.now.config c.args.self.now.visible c.args.name.now
    (g.T.PerValue.tree c.args.value.now)) (calls.set_any c.args.self.now.config c.args.self.now.visible
    c.args.name.now c.in-Ok.value)
    (value_kept c.args.self.now.config c.args.self.now.visible c.args.name.now (g.T.PerValue.tree c.args.value.now)
    c.in-Ok.value c.in-Ok.ensures.value c.in-Ok.ensures.valid) c.set_any.ensures.refused

pub returns-in-Ok-clause-memory : goal.returns-in-Ok-clause-memory
returns-in-Ok-clause-memory g c =
    needs_alike (Allocates g.T.PerValue.kind) c.set_any.result (calls.set_value c.args.self.now.config
    c.args.self.now.visible c.args.name.now (g.T.PerValue.tree c.args.value.now))
    (calls.set_any c.args.self.now.config c.args.self.now.visible c.args.name.now c.in-Ok.value)
    (value_kept c.args.self.now.config c.args.self.now.visible c.args.name.now (g.T.PerValue.tree c.args.value.now)
    c.in-Ok.value c.in-Ok.ensures.value c.in-Ok.ensures.valid) c.set_any.ensures.memory
