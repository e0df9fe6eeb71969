use Rattle.std.proofs.Common.{◌≡◌, true, rules}
use Rattle.value_model.specs.Trees.{type_of}
use Rattle.value_model.specs.Views.{kind_of}
use Rattle.kvs_core.proofs.SameKinds.{same_from}
use Rattle.kvs_core.proofs.session.KeySession.get_value.Goals as goal

pub from_value-requires : goal.from_value-requires
from_value-requires g c =
    let holds : c.has_type.result ≡ true = search rules in
    record {
      of_type = same_from c.has_type.result (type_of c.in_ok-value.value) (kind_of c.in-Ok.asked)
          g.T.PerValue.kind c.has_type.ensures.asked holds c.in-Ok.ensures.of_kind;
    }
