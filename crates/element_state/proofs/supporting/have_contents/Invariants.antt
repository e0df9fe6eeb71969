use Rattle.std.proofs.Common.{◌≡◌, IsTrue, true, take}
use Rattle.std.specs.List.{list_all}
use Rattle.element_state.specs.Views.{counts}
use Rattle.element_state.specs.lemmas.Entrywise.{IsRead}
use Rattle.element_state.proofs.supporting.have_contents.Given as goal

abbrev pub invariant-loop-i : goal.invariant-loop-i
invariant-loop-i g l = record {
  disk : IsRead (g.D.Disk.medium l.fn.disk) (g.D.Disk.medium l.disk);
  all : IsTrue g.D.Disk.told → list_all (λ e. counts (g.D.Disk.medium l.fn.disk).image l.place e l.copy)
      (take l.i l.entries) ≡ true;
}
