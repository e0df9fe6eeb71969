-- The input is read from its start, or there is no memory for a piece of it.
use Rattle.std.proofs.Common.{ap}
use Rattle.per_runtime.specs.Memories.{memory_of}
use Rattle.per_run.proofs.Listens.{listened_none, served_memory}
use Rattle.per_run.proofs.serving.serve_input.Goals as goal

pub returns-in-Ok-clause-served : goal.returns-in-Ok-clause-served
returns-in-Ok-clause-served g c = λ laws start hearing.
    c.serve_all.ensures.served laws start (g.K.Sink.written c.args.sink.now)
    (listened_none _ _ _ _ _ _ _ _ _ _ (ap memory_of c.new-reader.ensures.runtime) hearing
    c.new-reader.ensures.kept c.new-reader.ensures.number)

pub returns-in-Err-clause-served : goal.returns-in-Err-clause-served
returns-in-Err-clause-served g c = λ laws start hearing. served_memory _ _ _ _ _ laws _ _ _ hearing
