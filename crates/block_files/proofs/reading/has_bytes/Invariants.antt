use Rattle.std.proofs.Common.{◌≡◌, ◌*◌, IsTrue, length, take}
use Rattle.block_files.specs.Areas.{joined}
use Rattle.block_files.proofs.BlockReads.{IsRead}
use Rattle.block_files.proofs.reading.has_bytes.Given as goal

abbrev pub invariant-loop-i : goal.invariant-loop-i
invariant-loop-i g l = record {
  read : IsRead (g.D.Disk.medium l.fn.disk) (g.D.Disk.medium l.disk);
  same : IsTrue g.D.Disk.told
      → take (65536 * l.i) (joined ((g.D.Disk.medium l.fn.disk).image l.file) l.blocks (length l.bytes))
      ≡ take (65536 * l.i) l.bytes;
}
