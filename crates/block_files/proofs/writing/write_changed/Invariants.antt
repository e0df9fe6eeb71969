use Rattle.std.proofs.Common.{◌-◌, ◌≤◌}
use Rattle.block_files.specs.lemmas.Partly.{IsPartly}
use Rattle.block_files.proofs.writing.write_changed.Given as goal

abbrev pub invariant-loop-next : goal.invariant-loop-next
invariant-loop-next g l = record {
  below : l.next ≤ l.needed;
  partly : IsPartly g.D.Disk.told l.file l.blocks l.bytes l.was l.next (g.D.Disk.medium l.fn.disk)
      (g.D.Disk.medium l.disk);
}

abbrev pub decreases-loop-next : goal.decreases-loop-next
decreases-loop-next g l = l.needed - l.next
