use Rattle.per_run.proofs.Spelled.{cut_later}
use Rattle.per_run.proofs.octets.write_digits_and_feed.Goals as goal

pub returns-in-Ok-clause-cut : goal.returns-in-Ok-clause-cut
returns-in-Ok-clause-cut g c = cut_later c.write_all.result (g.K.Sink.written c.args.sink.now)
    (g.K.Sink.written c.write_digits.new.sink) (g.K.Sink.written c.write_all.new.sink) _ _ c.in-Ok.ensures.whole
    c.write_all.ensures.cut
