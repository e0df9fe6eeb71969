use Rattle.std.proofs.Common.{length, arith}
use Rattle.value_text.proofs.Hex.{none_more, one_more, all_counted, counted_first}
use Rattle.value_text.proofs.strings.count_at.Goals as goal

pub returns-in_default : goal.returns-in_default
returns-in_default c = none_more (length c.args.bytes.now) c.loop-count.count c.loop-count.rest.now _
    c.in_default.ensures c.loop-count.invariant

pub loop-count-preserved : goal.loop-count-preserved
loop-count-preserved c = one_more (length c.args.bytes.now) c.loop-count.count c.loop-count.rest.now _
    c.in-Some.others.now _ c.loop-count-test.true c.in-Some.ensures c.loop-count.invariant

pub returns : goal.returns
returns c = all_counted (length c.args.bytes.now) c.loop-count.count c.loop-count.rest.now _
    (omega (arith, c.loop-count-test.false, c.loop-count.auto.count-end)) c.loop-count.invariant

pub loop-count-init : goal.loop-count-init
loop-count-init c = counted_first (length c.args.bytes.now) c.args.bytes.now
