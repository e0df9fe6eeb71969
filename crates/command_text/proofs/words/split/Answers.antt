use Rattle.std.proofs.Common.{◌+◌}
use Rattle.std.proofs.lemmas.List.{drop_all, take_rest}
use Rattle.command_text.specs.Reading.{split}
use Rattle.command_text.proofs.Splits.{from_the_start, at_space, at_byte, at_the_end}
use Rattle.command_text.proofs.words.split.Goals as goal

pub loop-at-init : goal.loop-at-init
loop-at-init c = from_the_start c.args.text.now

pub returns-then-byte-eq32 : goal.returns-then-byte-eq32
returns-then-byte-eq32 c = rw (take_rest c.args.text.now (c.loop-at.at + 1))
    (at_space c.args.text.now c.loop-at.at (split c.args.text.now) c.loop-at-test.true c.if-byte-eq32.true
    c.loop-at.invariant)

pub loop-at-preserved : goal.loop-at-preserved
loop-at-preserved c = at_byte c.args.text.now c.loop-at.at (split c.args.text.now) c.loop-at-test.true
    c.if-byte-eq32.false c.loop-at.invariant

pub returns : goal.returns
returns c = at_the_end _ _ (split c.args.text.now) (drop_all c.loop-at.at c.args.text.now c.loop-at-test.false)
    c.loop-at.invariant
