use Rattle.std.proofs.Common.{◌≤◌, ◌∙◌, arith}
use Rattle.block_files.specs.BlockSets.{free_of}
use Rattle.block_files.proofs.FreeBlocks.{chosen_free, length-chosen}
use Rattle.block_files.proofs.putting.reserve_blob.Goals as goal

pub add-requires : goal.add-requires
add-requires c =
    let enough : c.count_blocks.result ≤ free_of c.args.used.now = omega (arith, c.count_blocks.ensures) in
    (chosen_free c.args.used.now c.count_blocks.result c.deref.result.now
    (c.deref.ensures.value ∙ c.in_ok-blocks.ensures) enough).below

pub returns-clause-count : goal.returns-clause-count
returns-clause-count c =
    let enough : c.count_blocks.result ≤ free_of c.args.used.now = omega (arith, c.count_blocks.ensures) in
    length-chosen c.args.used.now c.count_blocks.result c.new.result (c.new.ensures ∙ c.in_ok-blocks.ensures) enough
    ∙ c.count_blocks.ensures

pub returns-clause-free : goal.returns-clause-free
returns-clause-free c =
    let enough : c.count_blocks.result ≤ free_of c.args.used.now = omega (arith, c.count_blocks.ensures) in
    chosen_free c.args.used.now c.count_blocks.result c.new.result (c.new.ensures ∙ c.in_ok-blocks.ensures) enough
