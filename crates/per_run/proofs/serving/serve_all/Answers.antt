-- A piece is taken and handled; or the input ends, fails, or is too long.
use Rattle.std.proofs.Common.{arith}
use Rattle.disk_model.specs.Laws.{elapses_on}
use Rattle.per_run.proofs.Listens.{served_long, served_piece, served_read, served_source, taken_more}
use Rattle.per_run.proofs.serving.serve_all.Goals as goal

pub returns-in-Ok-eq0-clause-served : goal.returns-in-Ok-eq0-clause-served
returns-in-Ok-eq0-clause-served g c = λ laws start before l.
    served_read _ _ _ _ before laws _ _ _ _ _ _ _ _ c.in-Ok-eq0.field-0 c.read_piece.new.buffer
    (c.loop-pieces.invariant.goes_on start before l) c.in-Ok-eq0.field-0-test c.in-Ok-eq0.ensures.bytes.0
    (c.in-Ok-eq0.ensures.bytes.1 c.in-Ok-eq0.field-0-test)

pub loop-pieces-preserved : goal.loop-pieces-preserved
loop-pieces-preserved g c = record {
  goes_on = λ start before l.
      taken_more _ _ _ _ before _ _ _ _ _ _ _ _ _ _ _ _ _ c.in-Ok.count c.read_piece.new.buffer
      (c.loop-pieces.invariant.goes_on start before l) (omega arith)
      (omega (arith, c.in-Ok.ensures.bound, c.read_piece.auto.buffer))
      c.in-Ok.ensures.bytes.0 (λ given. c.in-Ok-serve_piece.ensures.goes_on start before given);
  in_use = c.in-Ok-serve_piece.ensures.memory;
  time = elapses_on c.loop-pieces.invariant.time c.serve_piece.ensures.time;
  room_left = omega (arith, c.loop-pieces.invariant.room_left, c.read_piece.auto.buffer);
  sink_later = omega (arith, c.loop-pieces.invariant.sink_later, c.serve_piece.ensures.blames.later);
  source_later = omega (arith, c.loop-pieces.invariant.source_later, c.in-Ok.ensures.cause.later);
}

pub returns-in-Err-serve_piece-clause-served : goal.returns-in-Err-serve_piece-clause-served
returns-in-Err-serve_piece-clause-served g c = λ laws start before l.
    served_piece _ _ _ _ before c.in-Err-serve_piece.ending _ _ _ _ _ _ _ _ _ _ c.in-Ok.count
    c.read_piece.new.buffer (c.loop-pieces.invariant.goes_on start before l) c.in-Ok.ensures.bytes.0
    c.in-Err-serve_piece.ensures.blames.broken
    (λ given. c.in-Err-serve_piece.ensures.ends laws start before given)

pub returns-in-Err-serve_piece-clause-time : goal.returns-in-Err-serve_piece-clause-time
returns-in-Err-serve_piece-clause-time g c =
    elapses_on c.loop-pieces.invariant.time c.in-Err-serve_piece.ensures.time

pub returns-in-Err-clause-served : goal.returns-in-Err-clause-served
returns-in-Err-clause-served g c = λ laws start before l.
    served_source _ _ _ _ before laws _ _ _ _ _ _ _ _ (c.loop-pieces.invariant.goes_on start before l)
    c.in-Err.ensures.bytes

pub returns-clause-served : goal.returns-clause-served
returns-clause-served g c = λ laws start before l.
    served_long _ _ _ _ before laws _ _ _ _ _ _ _ (c.loop-pieces.invariant.goes_on start before l)
    (omega (arith, c.loop-pieces-test.false))
