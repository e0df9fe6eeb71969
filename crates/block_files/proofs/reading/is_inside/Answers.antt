use Rattle.std.proofs.Common.{◌≢◌, ◌+◌, drop, sym, ap, ◌∙◌, arith}
use Rattle.block_files.specs.Areas.{is_within}
use Rattle.block_files.proofs.BlockReads.{within_nothing, within_past, within_more, within_all}
use Rattle.block_files.proofs.reading.is_inside.Goals as goal

pub returns-then-left-eq0 : goal.returns-then-left-eq0
returns-then-left-eq0 c =
    sym (within_nothing c.args.size (drop c.loop-number.number-index c.args.blocks.now) c.loop-number.left
    c.if-left-eq0.true) ∙ c.loop-number.invariant

pub returns-then-from-min : goal.returns-then-from-min
returns-then-from-min c =
    let some : c.loop-number.left ≢ 0 = c.if-left-eq0.false in
    sym (within_past c.args.size c.args.blocks.now c.loop-number.number-index c.loop-number.left c.from.result
    (omega arith) c.from.ensures some (omega (arith, c.min.ensures)))
    ∙ c.loop-number.invariant

pub loop-number-preserved : goal.loop-number-preserved
loop-number-preserved c =
    let some : c.loop-number.left ≢ 0 = c.if-left-eq0.false in
    ap (is_within c.args.size (drop (c.loop-number.number-index + 1) c.args.blocks.now)) c.saturating_sub-left.ensures
    ∙ sym (within_more c.args.size c.args.blocks.now c.loop-number.number-index c.loop-number.left c.from.result
    (omega arith) c.from.ensures some (omega (arith, c.min.ensures)))
    ∙ c.loop-number.invariant

pub returns : goal.returns
returns c = sym (within_all c.args.size c.args.blocks.now c.loop-number.number-index c.loop-number.left (omega arith))
    ∙ c.loop-number.invariant
