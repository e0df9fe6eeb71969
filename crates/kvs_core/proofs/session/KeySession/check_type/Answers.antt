use Rattle.std.proofs.Common.{ap}
use Rattle.std.specs.Prelude.{option_map}
use Rattle.value_model.specs.Views.{kind_of}
use Rattle.deployment_model.specs.Data.{element_data, storage_data}
use Rattle.kvs_core.proofs.SameKinds.{configured_kind}
use Rattle.kvs_core.proofs.session.KeySession.check_type.Goals as goal

pub check_configured-requires : goal.check_configured-requires
check_configured-requires c =
    configured_kind (storage_data c.self.inside.config) c.args.name.now (element_data c.in-Some.element.now)
    (kind_of c.in-Some-value_type.stored) c.self.invariant.configured c.self.invariant.of_keys
    c.in-Some.ensures.found (ap (option_map kind_of) c.in-Some-value_type.is)
