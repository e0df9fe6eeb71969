use Rattle.value_model.specs.Trees.{type_of}
use Rattle.value_model.specs.Views.{kind_of}
use Rattle.migrate_fns.specs.lemmas.SameKinds.{same_test}
use Rattle.update_plan.proofs.renewing.has_type.Goals as goal

pub returns : goal.returns
returns c = same_test c.has_type.result (type_of c.args.value.now) (kind_of c.args.value_type.now) c.has_type.ensures
