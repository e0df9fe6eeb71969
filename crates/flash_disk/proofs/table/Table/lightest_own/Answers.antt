use Rattle.std.proofs.Common.{◌+◌, sym, subst}
use Rattle.flash_disk.proofs.Marking.{IsBestOwn, better, no_better}
use Rattle.flash_disk.proofs.table.Table.lightest_own.Goals as goal
use Rattle.flash_disk.proofs.table.Table.lightest_own.Goals.{then-is_better, else-is_better}

pub loop-block-preserved : goal.loop-block-preserved
loop-block-preserved c =
    let marks = c.args.foreign.now in let table = c.args.self.now in let but = c.args.but in
    let block = c.loop-block.block in let best = c.loop-block.best in
    elim c.if-is_better.branch [
      | then-is_better w ↦ subst (IsBestOwn table marks but (block + 1)) (sym w.best-is)
          (better table marks but block best c.loop-block-test.true c.loop-block.invariant
          (c.is_better.ensures.good w.if-is_better.true))
      | else-is_better w ↦ subst (IsBestOwn table marks but (block + 1)) (sym w.best-is)
          (no_better table marks but block best c.loop-block.invariant
          (c.is_better.ensures.worse w.if-is_better.false))
    ]
