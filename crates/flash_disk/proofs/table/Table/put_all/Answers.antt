use Rattle.std.proofs.Common.{arith}
use Rattle.std.proofs.lemmas.Grind.{common_steps}
use Rattle.flash_disk.proofs.Entries.{bounds_then}
use Rattle.flash_disk.proofs.table.Table.put_all.Goals as goal

pub loop-new-preserved : goal.loop-new-preserved
loop-new-preserved c = let i = c.loop-new.invariant in record {
  bounds = bounds_then c.loop-new.invariant.bounds c.put.ensures.bounds;
  puts = grind (arith, common_steps);
  counted = λ blocks all start. c.put.ensures.counted blocks (i.counted blocks all start)
      (all c.loop-new.new-index _ c.loop-new-test.true);
  no_more = λ block all.
      let was = i.no_more block all in
      let now = c.put.ensures.no_more block (all c.loop-new.new-index _ c.loop-new-test.true) in
      omega (arith, was, now);
}
