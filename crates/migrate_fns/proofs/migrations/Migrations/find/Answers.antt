use Rattle.std.proofs.Common.{◌∙◌, sym}
use Rattle.value_model.specs.Views.{kind_of}
use Rattle.migrate_fns.specs.Stored.{rule_of}
use Rattle.migrate_fns.specs.lemmas.SameKinds.{serves_types}
use Rattle.migrate_fns.proofs.migrations.Migrations.find.Goals as goal

pub returns-then-serves-clause-from : goal.returns-then-serves-clause-from
returns-then-serves-clause-from g c = (serves_types c.args.element.now (kind_of c.args.from.now) (kind_of c.args.to.now)
    (rule_of c.migration-item.result) (sym c.serves.ensures ∙ c.if-serves.true)).0

pub returns-then-serves-clause-to : goal.returns-then-serves-clause-to
returns-then-serves-clause-to g c = (serves_types c.args.element.now (kind_of c.args.from.now) (kind_of c.args.to.now)
    (rule_of c.migration-item.result) (sym c.serves.ensures ∙ c.if-serves.true)).1
