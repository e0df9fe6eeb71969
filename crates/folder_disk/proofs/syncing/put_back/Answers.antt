use Rattle.std.proofs.Common.{⊎_elim, sym, subst}
use Rattle.disk_model.specs.Laws.{elapses_on, reads_on}
use Rattle.system_model.specs.SystemMedium.{ShowsBytes}
use Rattle.folder_disk.proofs.Syncs.{part_of, part_held, part_next}
use Rattle.folder_disk.proofs.syncing.put_back.Goals as goal

pub write_back-requires-clause-free : goal.write_back-requires-clause-free
write_back-requires-clause-free g c = λ t i range.
    (c.loop-part.invariant.free t c.args.file i).1 ((c.requires t).free i
    (part_held c.args.held.now c.loop-part.part-index c.part-item.result c.as_slice.result.now c.loop-part-test.true
    c.part-item.is c.as_slice.ensures.value i range))

pub write_back-requires-clause-shows : goal.write_back-requires-clause-shows
write_back-requires-clause-shows g c = λ t.
    let old = (g.S.System.medium c.args.system.now).disk.image in
    let part = c.part-item.result in
    subst (λ image. ShowsBytes (image c.args.file) part.at c.as_slice.result.now)
    (sym c.loop-part.invariant.reads.image)
    (part_of (old c.args.file) c.args.held.now c.loop-part.part-index part c.as_slice.result.now c.loop-part-test.true
    c.part-item.is c.as_slice.ensures.value (c.requires t).shows)

pub loop-part-preserved : goal.loop-part-preserved
loop-part-preserved g c =
    let inv = c.loop-part.invariant in
    let e = c.write_back.ensures in
    record {
      reads = reads_on inv.time inv.reads e.time e.reads;
      time = elapses_on inv.time e.time;
      named = λ f was. e.named f (inv.named f was);
      free = λ t f i. (
        λ h. (inv.free t f i).0 ((e.free t f i).0 h),
        λ h. (e.free t f i).1 ((inv.free t f i).1 h),
      );
      lost = λ f i h. inv.lost f i (e.lost f i h);
      found = λ t i h lost. ⊎_elim
          (λ was. inv.found t i was (e.lost c.args.file i lost))
          (λ here. e.found t c.if-not-write_back.false i here lost)
          (part_next c.args.held.now c.loop-part.part-index c.part-item.result c.as_slice.result.now
          c.loop-part-test.true c.part-item.is c.as_slice.ensures.value i h);
    }
