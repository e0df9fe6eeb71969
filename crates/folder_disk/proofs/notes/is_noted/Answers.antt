use Rattle.std.proofs.Common.{⊎_elim, sym}
use Rattle.folder_disk.specs.declared.range.Range.{Range}
use Rattle.folder_disk.proofs.Syncs.{covered_next}
use Rattle.folder_disk.proofs.notes.is_noted.Goals as goal

pub loop-range-preserved : goal.loop-range-preserved
loop-range-preserved c =
    let rs = c.args.ranges.now in
    let k = c.loop-range.range-index in
    let d : Range = record { file = 0; at = 0; len = 0 } in
    λ i h. ⊎_elim
    (λ old. c.loop-range.invariant i old)
    (λ new. c.if-range-file.false (sym new.0))
    (covered_next rs k d c.args.file i c.loop-range-test.true h)
