use Rattle.value_model.specs.Views.{kind_of}
use Rattle.migrate_fns.specs.lemmas.SameKinds.{same_test}
use Rattle.migrate_fns.proofs.migrations.is_same.Goals as goal

pub returns : goal.returns
returns c = same_test c.is_same.result (kind_of c.args.one.now) (kind_of c.args.other.now) c.is_same.ensures
