-- One line more; and all of them.
use Rattle.std.proofs.Common.{ℕ, ◌++◌, ◌+◌, ◌≡◌, ◌∙◌, ap, arith, refl}
use Rattle.disk_model.specs.Laws.{elapses_on}
use Rattle.command_text.specs.Generated.{generated_line, generated_lines}
use Rattle.per_run.proofs.Tallied.{begin_as, begin_generated, begin_less, counted_along, few_generated}
use Rattle.per_run.proofs.Tallied.{generated_on, number_on, short_between}
use Rattle.per_run.proofs.generating.handle_generated.Goals as goal

pub loop-index-preserved : goal.loop-index-preserved
loop-index-preserved g c = record {
  counts = λ start before few counted.
      counted_along _ _ _ _ _ _ _ _ (generated_on before c.args.number c.loop-index.index c.loop-index.x _
      c.loop-index.invariant.number
      (c.as_slice.ensures.value ∙ c.in_ok-line.ensures ∙ ap (λ (y : ℕ). generated_line y (c.loop-index.index + 1))
      c.next_number-x.ensures.next))
      (c.in_ok-handle_one.ensures.counted start (before ++ generated_lines c.loop-index.index 1 c.args.number)
      (few_generated before c.args.number c.loop-index.index few c.loop-index-test.true)
      (c.loop-index.invariant.counts start before few counted));
  in_use = c.in_ok-handle_one.ensures.memory;
  time = elapses_on c.loop-index.invariant.time c.handle_one.ensures.time;
  number = number_on c.args.number c.loop-index.index c.loop-index.x _ c.loop-index.invariant.number
      c.next_number-x.ensures.next;
  bound = c.next_number-x.ensures.bound;
}

pub returns-clause-counted : goal.returns-clause-counted
returns-clause-counted g c =
    let same : c.args.number ≡ c.loop-index.index = omega (arith, c.loop-index-test.false, c.loop-index.auto.index-end)
    in
    λ start before few counted. counted_along _ _ _ _ _ _ _ _
    (ap (λ (k : ℕ). before ++ generated_lines k 1 c.args.number) same)
    (c.loop-index.invariant.counts start before few counted)

-- memory ran out for the text of a line
pub returns-in_err-line-clause-short : goal.returns-in_err-line-clause-short
returns-in_err-line-clause-short g c = λ err laws start before all few counted begin.
    short_between _ _ _ laws (before ++ generated_lines c.loop-index.index 1 c.args.number) all _ _ _
    (c.loop-index.invariant.counts start before few counted)
    (begin_less (before ++ generated_lines c.loop-index.index 1 c.args.number) _ all
    (begin_as _ _ all (generated_on before c.args.number c.loop-index.index c.loop-index.x _
    c.loop-index.invariant.number refl)
    (begin_generated before all c.args.number c.loop-index.index c.loop-index-test.true begin)))

-- or at the line
pub returns-in_err-handle_one-clause-short : goal.returns-in_err-handle_one-clause-short
returns-in_err-handle_one-clause-short g c = λ err laws start before all few counted begin.
    c.in_err-handle_one.ensures.short refl laws start (before ++ generated_lines c.loop-index.index 1 c.args.number) all
    (c.loop-index.invariant.counts start before few counted)
    (begin_as _ _ all (generated_on before c.args.number c.loop-index.index c.loop-index.x _
    c.loop-index.invariant.number
    (c.as_slice.ensures.value ∙ c.in_ok-line.ensures ∙ ap (λ (y : ℕ). generated_line y (c.loop-index.index + 1))
    c.next_number-x.ensures.next))
    (begin_generated before all c.args.number c.loop-index.index c.loop-index-test.true begin))
