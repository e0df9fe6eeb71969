use Rattle.std.proofs.Common.{[]}
use Rattle.per_run.proofs.Behind.{then_puts}
use Rattle.per_run.proofs.long_values.put.Goals as goal

pub returns-clause-puts : goal.returns-clause-puts
returns-clause-puts g c = then_puts c.append.result (g.K.Sink.written c.args.sink.now)
    (g.K.Sink.written c.make_room.new.sink) (g.K.Sink.written c.append.new.sink) _ _ _ [] _
    c.in_ok-make_room.ensures.puts c.append.ensures.puts
