use Rattle.std.proofs.Common.{◌≡◌, IsTrue, None, find, take}
use Rattle.element_state.specs.Views.{qualifies}
use Rattle.element_state.specs.lemmas.Entrywise.{IsRead}
use Rattle.element_state.proofs.choosing.first_qualifying.Given as goal

abbrev pub invariant-loop-at : goal.invariant-loop-at
invariant-loop-at g l = record {
  disk : IsRead (g.D.Disk.medium l.fn.disk) (g.D.Disk.medium l.disk);
  none : IsTrue g.D.Disk.told → find (qualifies (g.D.Disk.medium l.fn.disk).image l.shape) (take l.at l.texts) ≡ None;
}
