use Rattle.std.proofs.Common.{rules}
use Rattle.per_run.proofs.Behind.{puts_as, then_puts}
use Rattle.per_run.proofs.long_values.put_number.Goals as goal

pub returns-clause-puts : goal.returns-clause-puts
returns-clause-puts g c =
    let w = g.K.Sink.written in
    let a = w c.args.sink.now in
    let u = c.args.waiting.now.items in
    puts_as c.put-2.result a (w c.put-2.new.sink) u c.put-2.new.waiting.items _ _ (then_puts c.put-2.result a
    (w c.put.new.sink) (w c.put-2.new.sink) u _ _ _ _ c.in_ok-put.ensures.puts c.put-2.ensures.puts) (search rules)
