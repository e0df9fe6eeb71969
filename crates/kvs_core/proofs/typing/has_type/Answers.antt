use Rattle.value_model.specs.Trees.{type_of}
use Rattle.value_model.specs.Views.{kind_of}
use Rattle.kvs_core.proofs.SameKinds.{has_kind, is_kind}
use Rattle.kvs_core.proofs.typing.has_type.Goals as goal

pub returns-clause-asked : goal.returns-clause-asked
returns-clause-asked c = has_kind c.has_type.result (type_of c.args.value.now) (kind_of c.args.value_type.now)
    c.has_type.ensures

pub returns-clause-stored : goal.returns-clause-stored
returns-clause-stored c = is_kind c.has_type.result (type_of c.args.value.now) (kind_of c.args.value_type.now)
    c.has_type.ensures
