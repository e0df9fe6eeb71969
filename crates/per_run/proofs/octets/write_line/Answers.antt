use Rattle.per_run.proofs.Spelled.{cut_later, cut_sooner, octets_are}
use Rattle.per_run.proofs.octets.write_line.Goals as goal

pub returns-in-Ok-clause-cut : goal.returns-in-Ok-clause-cut
returns-in-Ok-clause-cut g c = rw (octets_are c.args.bytes.now c.requires.some)
    (cut_later c.write_digits_and_feed.result (g.K.Sink.written c.args.sink.now) (g.K.Sink.written c.write_all.new.sink)
    (g.K.Sink.written c.write_digits_and_feed.new.sink) _ _ c.in-Ok.ensures.whole c.write_digits_and_feed.ensures.cut)

pub returns-in-Err-clause-cut : goal.returns-in-Err-clause-cut
returns-in-Err-clause-cut g c = rw (octets_are c.args.bytes.now c.requires.some)
    (cut_sooner (g.K.Sink.written c.args.sink.now) (g.K.Sink.written c.write_all.new.sink) _ _ c.in-Err.ensures.cut)
