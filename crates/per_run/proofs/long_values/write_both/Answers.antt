use Rattle.per_run.proofs.Behind.{wrote_behind}
use Rattle.per_run.proofs.long_values.write_both.Goals as goal

pub returns-clause-puts : goal.returns-clause-puts
returns-clause-puts g c = wrote_behind c.write_all.result (g.K.Sink.written c.args.sink.now)
    (g.K.Sink.written c.flush.new.sink) (g.K.Sink.written c.write_all.new.sink) _ _ _ c.in_ok-flush.ensures.puts
    c.in_ok-flush.ensures.none c.write_all.ensures.whole c.write_all.ensures.cut
