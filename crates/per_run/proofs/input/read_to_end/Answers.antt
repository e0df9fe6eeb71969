-- One more piece; or the end, and why there was none.
use Rattle.std.proofs.Common.{◌≤◌, length, take, arith}
use Rattle.per_run.proofs.Wholes.{cut_at_limit, cut_by_memory, cut_by_source, more_taken, more_within, taken_whole}
use Rattle.per_run.proofs.input.read_to_end.Goals as goal

pub returns-in-Ok-eq0-clause-read : goal.returns-in-Ok-eq0-clause-read
returns-in-Ok-eq0-clause-read g c = taken_whole _ _ _ c.loop-whole.whole.items c.read_piece.new.buffer
    c.in-Ok-eq0.field-0 c.loop-whole.invariant.took (omega (arith, c.loop-whole-test.true, c.len.ensures))
    c.in-Ok-eq0.field-0-test c.in-Ok-eq0.ensures.bytes.0 (c.in-Ok-eq0.ensures.bytes.1 c.in-Ok-eq0.field-0-test)

pub loop-whole-preserved : goal.loop-whole-preserved
loop-whole-preserved g c =
    let fits : c.in-Ok.count ≤ length c.read_piece.new.buffer =
    omega (arith, c.in-Ok.ensures.bound, c.min-room.ensures, c.read_piece.auto.buffer) in
    record {
      took = more_taken _ _ _ c.loop-whole.whole.items (take c.in-Ok.count c.read_piece.new.buffer) _
          c.loop-whole.invariant.took c.in-Ok.ensures.bytes.0 c.in-Ok-extend_from_slice.ensures.items;
      within = omega (
        arith,
        more_within c.loop-whole.whole.items c.extend_from_slice.new.self.items c.read_piece.new.buffer c.in-Ok.count
            c.in-Ok-extend_from_slice.ensures.items fits,
        c.in-Ok.ensures.bound,
        c.min-room.ensures,
        c.loop-whole-test.true,
        c.len.ensures,
        c.len-in-loop-whole.ensures,
      );
      room_left = omega (arith, c.loop-whole.invariant.room_left, c.read_piece.auto.buffer);
      later = omega (arith, c.loop-whole.invariant.later, c.in-Ok.ensures.cause.later);
    }

pub returns-in-Err-extend_from_slice-clause-read : goal.returns-in-Err-extend_from_slice-clause-read
returns-in-Err-extend_from_slice-clause-read g c =
    cut_by_memory _ _ _ c.loop-whole.whole.items c.read_piece.new.buffer c.in-Ok.count c.loop-whole.invariant.took
    c.in-Ok.ensures.bytes.0 (omega (arith, c.in-Ok.ensures.bound, c.min-room.ensures, c.read_piece.auto.buffer))
    (omega (
      arith,
      c.in-Ok.ensures.bound,
      c.min-room.ensures,
      c.loop-whole-test.true,
      c.len.ensures,
      c.len-in-loop-whole.ensures,
    ))

pub returns-in-Err-clause-read : goal.returns-in-Err-clause-read
returns-in-Err-clause-read g c = cut_by_source _ _ _ c.loop-whole.whole.items c.loop-whole.invariant.took
    (omega (arith, c.loop-whole-test.true, c.len.ensures)) c.in-Err.ensures.bytes

pub returns-clause-read : goal.returns-clause-read
returns-clause-read g c = cut_at_limit _ _ c.loop-whole.whole.items c.loop-whole.invariant.took
    c.loop-whole.invariant.within (omega (arith, c.loop-whole-test.false, c.len.ensures))
