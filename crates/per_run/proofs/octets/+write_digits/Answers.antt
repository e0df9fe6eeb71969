use Rattle.per_run.proofs.Spelled.{both_digits, cut_later}
use Rattle.per_run.proofs.octets.+write_digits.Goals as goal

pub returns-in-Ok-clause-cut : goal.returns-in-Ok-clause-cut
returns-in-Ok-clause-cut g t c =
    let cut = cut_later c.write_digits.result (g.K.Sink.written c.args.sink.now)
    (g.K.Sink.written c.write_piece-2.new.sink) (g.K.Sink.written c.write_digits.new.sink) _ _
    c.in-Ok.ensures.whole c.write_digits.ensures.cut in
    rw (both_digits c.args.bytes.now _ _ _ c.split_at.ensures.front c.split_at.ensures.back) at cut
