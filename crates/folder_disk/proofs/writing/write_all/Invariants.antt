use Rattle.std.proofs.Common.{length, ◌+◌, ◌-◌, ◌≤◌}
use Rattle.folder_disk.specs.Writes.{WritesAgain, WritesBytes}
use Rattle.folder_disk.proofs.writing.write_all.Given as goal

abbrev pub invariant-loop-done : goal.invariant-loop-done
invariant-loop-done g l = record {
  count : l.done ≤ length l.bytes;
  writes : WritesBytes g.S.System.told l.file l.at l.bytes l.done (g.S.System.medium l.initial.system)
      (g.S.System.medium
      l.system);
  again : WritesAgain g.S.System.told l.file l.at l.bytes (g.S.System.medium l.initial.system) (g.S.System.medium
      l.system);
}

abbrev pub decreases-loop-done : goal.decreases-loop-done
decreases-loop-done g l = length l.bytes - l.done + l.retries
