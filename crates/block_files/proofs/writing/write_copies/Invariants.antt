use Rattle.block_files.proofs.Spread.{IsSpread}
use Rattle.block_files.proofs.writing.write_copies.Given as goal

abbrev pub invariant-loop-number : goal.invariant-loop-number
invariant-loop-number g l = IsSpread g.D.Disk.told l.place l.copies l.blocks l.bytes l.was l.number-index
    (g.D.Disk.medium l.fn.disk) (g.D.Disk.medium l.disk)
