-- One line more; and all of them.
use Rattle.std.proofs.Common.{arith, refl}
use Rattle.disk_model.specs.Laws.{elapses_on}
use Rattle.per_run.proofs.Tallied.{begin_as, begin_each, counted_along, each_on, each_whole, few_each, texts_of}
use Rattle.per_run.proofs.generating.handle_each.Goals as goal
use Rattle.std.proofs.Common.{◌++◌, ◌+◌, take}

pub loop-line-preserved : goal.loop-line-preserved
loop-line-preserved g c = record {
  counts = λ start before few counted.
      counted_along _ _ _ _ _ _ _ _ (each_on before c.args.lines.now c.loop-line.line-index _ _ c.loop-line-test.true
      c.as_bytes.ensures.value)
      (c.in_ok-handle_one.ensures.counted start (before ++ texts_of (take c.loop-line.line-index c.args.lines.now))
      (few_each before c.args.lines.now c.loop-line.line-index few)
      (c.loop-line.invariant.counts start before few counted));
  in_use = c.in_ok-handle_one.ensures.memory;
  time = elapses_on c.loop-line.invariant.time c.handle_one.ensures.time;
}

pub returns-clause-counted : goal.returns-clause-counted
returns-clause-counted g c = λ start before few counted.
    counted_along _ _ _ _ _ _ _ _ (each_whole before c.args.lines.now c.loop-line.line-index
    (omega (arith, c.loop-line-test.false))) (c.loop-line.invariant.counts start before few counted)

pub returns-in_err-handle_one-clause-short : goal.returns-in_err-handle_one-clause-short
returns-in_err-handle_one-clause-short g c = λ err laws start before all few counted begin.
    c.in_err-handle_one.ensures.short refl laws start
    (before ++ texts_of (take c.loop-line.line-index c.args.lines.now)) all
    (c.loop-line.invariant.counts start before few counted)
    (begin_as _ _ all (each_on before c.args.lines.now c.loop-line.line-index _ _ c.loop-line-test.true
    c.as_bytes.ensures.value) (begin_each before all c.args.lines.now (c.loop-line.line-index + 1) begin))
