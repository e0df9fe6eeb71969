use Rattle.run_model.specs.Converters.{converters_of}
use Rattle.run_model.specs.LastingCalls.{now_lasts}
use Rattle.run_model.specs.LastingLaws.{answer_lasts}
use Rattle.run_model.proofs.laws.answers_keep_worlds.Goals as goal

pub returns-clause-now : goal.returns-clause-now
returns-clause-now g c = now_lasts (converters_of c.args.migrations.now)

pub returns-clause-answered : goal.returns-clause-answered
returns-clause-answered g c = answer_lasts (converters_of c.args.migrations.now)
