use Rattle.std.proofs.Common.{arith, sym, ◌∙◌, ◌≡◌, false}
use Rattle.block_files.specs.BlockSets.{contains}
use Rattle.block_files.proofs.FreeBlocks.{choosing_from, choosing_more}
use Rattle.block_files.proofs.choosing.choose.Goals as goal

pub loop-block-init : goal.loop-block-init
loop-block-init c =
    let first = c.first_free-block in
    rw c.new-blocks.ensures.items
    (choosing_from c.args.used.now c.args.count first.result first.ensures.within first.ensures.taken)

pub loop-block-preserved : goal.loop-block-preserved
loop-block-preserved c =
    let free : contains c.args.used.now c.loop-block.block ≡ false = sym c.contains.ensures ∙ c.if-contains.false in
    rw c.in_ok-push.ensures.items
    (choosing_more c.args.used.now c.args.count c.loop-block.block c.loop-block.blocks.items (omega arith) free
    (omega arith) c.loop-block.invariant)
