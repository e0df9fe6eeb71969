use Rattle.std.proofs.Common.{◌-◌, ◌<◌, ap, length, subst, sym, arith}
use Rattle.std.specs.Prelude.{filter}
use Rattle.folder_disk.specs.declared.range.Range.{Range}
use Rattle.folder_disk.proofs.Syncs.{shorter_at, others_of}
use Rattle.folder_disk.proofs.folder.Folder.sync_written.Goals as goal

pub loop-last-smaller : goal.loop-last-smaller
loop-last-smaller g c =
    let items = c.deref.result.now in
    let last = c.in-Some.last.now in
    let rs = c.loop-last.self.ranges.items in
    let is = c.in-Some.ensures.item.3 in
    let less : length (filter (others_of last.file) items) < length items =
    shorter_at items last.file (length items - 1) last (omega (arith, is.0)) (ap (λ (r : Range). r.file) (sym (is.1
    last))) in
    subst (λ xs. length xs < length rs) (sym c.in_ok-sync_one.ensures.fewer)
    (subst (λ xs. length (filter (others_of last.file) xs) < length xs) c.deref.ensures.value less)
