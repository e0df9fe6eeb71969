use Rattle.run_model.specs.Converters.{converters_of}
use Rattle.run_model.specs.OneApp.{answers_alike, others_stay}
use Rattle.run_model.proofs.laws.answers_are_alike.Goals as goal

pub returns-clause-alike : goal.returns-clause-alike
returns-clause-alike g c = answers_alike (converters_of c.args.migrations.now)

pub returns-clause-others : goal.returns-clause-others
returns-clause-others g c = others_stay (converters_of c.args.migrations.now)
