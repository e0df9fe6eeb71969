use Rattle.run_model.specs.Converters.{converters_of}
use Rattle.run_model.specs.OneApp.{doubt_stays, session_ends}
use Rattle.run_model.proofs.laws.failures_end_sessions.Goals as goal

pub returns-clause-doubt : goal.returns-clause-doubt
returns-clause-doubt g c = doubt_stays (converters_of c.args.migrations.now)

pub returns-clause-session : goal.returns-clause-session
returns-clause-session g c = session_ends (converters_of c.args.migrations.now)
