use Rattle.std.proofs.Common.{subst}
use Rattle.std.specs.Prelude.{IfErr}
use Rattle.per_base.specs.Refusals.{IsRefusal}
use Rattle.kvs_core.specs.Calls as calls
use Rattle.kvs_store.specs.Storages.{KvsSession}
use Rattle.kvs_store.proofs.storages.Kvs.set_copy.Goals as goal

pub returns-clause-refused : goal.returns-clause-refused
returns-clause-refused c = subst (λ (s : KvsSession). IfErr c.set_copy.result
    (λ error. IsRefusal (calls.set_any s.config s.session.visible c.args.name.now c.args.value.now) error)) c.self.view_is
    c.set_copy.ensures.refused
