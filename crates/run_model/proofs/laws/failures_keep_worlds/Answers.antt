use Rattle.run_model.specs.Converters.{converters_of}
use Rattle.run_model.specs.LastingCalls.{failed_sync_lasts, failure_lasts}
use Rattle.run_model.specs.LastingLaws.{named_failure_lasts}
use Rattle.run_model.proofs.laws.failures_keep_worlds.Goals as goal

pub returns-clause-sync : goal.returns-clause-sync
returns-clause-sync g c = failed_sync_lasts

pub returns-clause-call : goal.returns-clause-call
returns-clause-call g c = failure_lasts (converters_of c.args.migrations.now)

pub returns-clause-storage : goal.returns-clause-storage
returns-clause-storage g c = named_failure_lasts (converters_of c.args.migrations.now)
