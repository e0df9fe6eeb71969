-- The input is read from its start, or there is no memory for a piece of it.
use Rattle.std.proofs.Common.{ap}
use Rattle.per_runtime.specs.Memories.{memory_of}
use Rattle.per_run.proofs.Begins.{reached_none, handled_as}
use Rattle.per_run.proofs.Inputs.{ran_memory}
use Rattle.per_run.proofs.run.handle_input.Goals as goal

pub returns-in-Ok-clause-ran : goal.returns-in-Ok-clause-ran
returns-in-Ok-clause-ran g c = λ laws start handled.
    c.read_all.ensures.ran laws start (g.K.Sink.written c.args.sink.now)
    (reached_none _ _ _ _ _ _ _ _ _ (handled_as _ _ _ _ _ _ _ _ _ (ap memory_of c.new-reader.ensures.runtime)
    handled) c.new-reader.ensures.kept c.new-reader.ensures.number)

pub returns-in-Err-clause-ran : goal.returns-in-Err-clause-ran
returns-in-Err-clause-ran g c = λ laws start handled. ran_memory _ _ _ _ _ laws _ _ _ handled
