-- A piece is taken and handled; or the input ends, fails, or is too long.
use Rattle.std.proofs.Common.{arith}
use Rattle.disk_model.specs.Laws.{elapses_on}
use Rattle.per_run.proofs.Inputs.{taken_more, ran_read, ran_fed, ran_source, ran_long}
use Rattle.per_run.proofs.run.read_all.Goals as goal

pub returns-in-Ok-eq0-clause-ran : goal.returns-in-Ok-eq0-clause-ran
returns-in-Ok-eq0-clause-ran g c = λ laws start before reached.
    ran_read _ _ _ _ before c.finish.result _ _ _ _ _ _ _ _ _ _ c.in-Ok-eq0.field-0 c.read_piece.new.buffer
    (c.loop-taken.invariant.goes_on start before reached) c.loop-taken-test.true
    c.in-Ok-eq0.field-0-test c.in-Ok-eq0.ensures.bytes.0 (c.in-Ok-eq0.ensures.bytes.1 c.in-Ok-eq0.field-0-test)
    c.finish.ensures.inner (λ given. c.finish.ensures.ends laws start before given)

pub returns-in-Ok-eq0-clause-time : goal.returns-in-Ok-eq0-clause-time
returns-in-Ok-eq0-clause-time g c = elapses_on c.loop-taken.invariant.time c.finish.ensures.time

pub loop-taken-preserved : goal.loop-taken-preserved
loop-taken-preserved g c = record {
  goes_on = λ start before reached.
      taken_more _ _ _ _ before _ _ _ _ _ _ _ _ _ _ _ _ c.loop-taken.taken c.in-Ok.count c.read_piece.new.buffer
      (c.loop-taken.invariant.goes_on start before reached) c.loop-taken.invariant.within
      (omega (arith, c.in-Ok.ensures.bound, c.min-room.ensures, c.read_piece.auto.buffer))
      (omega (arith, c.in-Ok.ensures.bound, c.min-room.ensures, c.loop-taken-test.true))
      c.in-Ok.ensures.bytes.0 (λ given. c.in-Ok-feed.ensures.goes_on start before given);
  in_use = c.in-Ok-feed.ensures.memory;
  time = elapses_on c.loop-taken.invariant.time c.feed.ensures.time;
  within = omega (arith, c.in-Ok.ensures.bound, c.min-room.ensures, c.loop-taken-test.true);
  room_left = omega (arith, c.loop-taken.invariant.room_left, c.read_piece.auto.buffer);
  sink_later = omega (arith, c.loop-taken.invariant.sink_later, c.feed.ensures.blames.later);
  source_later = omega (arith, c.loop-taken.invariant.source_later, c.in-Ok.ensures.cause.later);
}

pub returns-in-Err-feed-clause-ran : goal.returns-in-Err-feed-clause-ran
returns-in-Err-feed-clause-ran g c = λ laws start before reached.
    ran_fed _ _ _ _ before c.in-Err-feed.ending _ _ _ _ _ _ _ _ _ c.loop-taken.taken c.in-Ok.count
    c.read_piece.new.buffer (c.loop-taken.invariant.goes_on start before reached) c.loop-taken.invariant.within
    (omega (arith, c.in-Ok.ensures.bound, c.min-room.ensures, c.read_piece.auto.buffer))
    (omega (arith, c.in-Ok.ensures.bound, c.min-room.ensures, c.loop-taken-test.true))
    c.in-Ok.ensures.bytes.0 c.in-Err-feed.ensures.blames.broken
    (λ given. c.in-Err-feed.ensures.ends laws start before given)

pub returns-in-Err-feed-clause-time : goal.returns-in-Err-feed-clause-time
returns-in-Err-feed-clause-time g c = elapses_on c.loop-taken.invariant.time c.in-Err-feed.ensures.time

pub returns-in-Err-clause-ran : goal.returns-in-Err-clause-ran
returns-in-Err-clause-ran g c = λ laws start before reached.
    ran_source _ _ _ _ before laws _ _ _ _ _ _ _ c.loop-taken.taken
    (c.loop-taken.invariant.goes_on start before reached) c.loop-taken-test.true c.in-Err.ensures.bytes

pub returns-clause-ran : goal.returns-clause-ran
returns-clause-ran g c = λ laws start before reached.
    ran_long _ _ _ _ before laws _ _ _ _ _ _ c.loop-taken.taken (c.loop-taken.invariant.goes_on start before reached)
    c.loop-taken.invariant.within c.loop-taken-test.false
