-- The text is a number in the range, or none.
use Rattle.std.proofs.Common.{arith}
use Rattle.per_run.proofs.Matched.{number_none, number_says}
use Rattle.per_run.proofs.words.number_in.Goals as goal

pub returns-in-Ok : goal.returns-in-Ok
returns-in-Ok c =
    number_says c.args.least c.args.most c.args.text.now c.in-Ok.number c.in-Ok.ensures.value.0.1
    c.in-Ok.ensures.value.0.0.0 c.in-Ok.ensures.value.0.0.1 c.if-least-number.true c.if-number-most.true

pub returns-in_default-3 : goal.returns-in_default-3
returns-in_default-3 c = number_none c.args.least c.args.most c.args.text.now (omega (arith, c.ranges.most.fits))
    c.in_default.ensures.value.0
