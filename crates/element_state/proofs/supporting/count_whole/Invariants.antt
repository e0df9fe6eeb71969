use Rattle.std.proofs.Common.{◌≡◌, ◌≤◌, IsTrue, length}
use Rattle.guarded_cell.specs.Held.{copies_that}
use Rattle.element_state.specs.Chosen.{is_whole_of}
use Rattle.element_state.specs.lemmas.Entrywise.{IsRead}
use Rattle.element_state.proofs.supporting.count_whole.Given as goal

abbrev pub invariant-loop-copy : goal.invariant-loop-copy
invariant-loop-copy g l = record {
  disk : IsRead (g.D.Disk.medium l.fn.disk) (g.D.Disk.medium l.disk);
  count : IsTrue g.D.Disk.told → l.count ≡ length (copies_that
      (is_whole_of (g.D.Disk.medium l.fn.disk).image l.place l.holders l.entries) l.copy);
  few : l.count ≤ l.copy;
}
