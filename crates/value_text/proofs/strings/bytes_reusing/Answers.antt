use Rattle.std.proofs.Common.{length, ◌-◌}
use Rattle.value_text.proofs.Hex.{no_byte, one_byte, all_bytes}
use Rattle.value_text.proofs.strings.bytes_reusing.Goals as goal

pub returns-in_default : goal.returns-in_default
returns-in_default c = rw c.new.ensures (no_byte c.loop.found.items (length c.args.bytes.now - c.loop.counter)
    c.loop.rest.now _ c.in_default.ensures c.loop.invariant)

pub loop-preserved : goal.loop-preserved
loop-preserved c = rw c.in_ok-push.ensures.items (one_byte c.loop.found.items (length c.args.bytes.now) c.loop.counter
    c.loop.rest.now c.in-Some.byte c.in-Some.others.now _ c.loop-test.true c.in-Some.ensures c.loop.invariant)

pub returns : goal.returns
returns c = rw c.new-2.ensures (all_bytes c.loop.found.items (length c.args.bytes.now) c.loop.counter c.loop.rest.now _
    c.loop-test.false c.loop.invariant)
