use Rattle.std.proofs.Common.{◌+◌, sym, ◌∙◌, subst, true≢false}
use Rattle.flash_disk.specs.Known.{load_known}
use Rattle.flash_disk.proofs.Lightest.{IsBest, taken, kept}
use Rattle.flash_disk.proofs.table.Table.lightest_but.Goals as goal
use Rattle.flash_disk.proofs.table.Table.lightest_but.Goals.{then-is_lighter, else-is_lighter}

pub loop-block-preserved : goal.loop-block-preserved
loop-block-preserved c =
    let load = load_known c.args.self.now in let but = c.args.but in let blocks = c.args.self.now.blocks in
    let block = c.loop-block.block in let best = c.loop-block.best in
    elim c.if-is_lighter.branch [
      | then-is_lighter w ↦ subst (IsBest load but blocks (block + 1)) (sym w.best-is)
          (taken load but blocks block best c.loop-block-test.true c.loop-block.invariant
          (c.is_lighter.ensures.0 w.if-is_lighter.true))
      | else-is_lighter w ↦ subst (IsBest load but blocks (block + 1)) (sym w.best-is)
          (kept load but blocks block best c.loop-block.invariant
          (λ beats. true≢false (sym (c.is_lighter.ensures.1 beats) ∙ w.if-is_lighter.false)))
    ]
