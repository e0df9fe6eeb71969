use Rattle.std.proofs.Common.{◌≡◌, IsTrue, map, take}
use Rattle.std.specs.List.{AllZip}
use Rattle.element_state.specs.Views.{entry_view}
use Rattle.element_state.specs.Chosen.{IsReadBy}
use Rattle.element_state.specs.Surveys.{AreOfEntry}
use Rattle.element_state.specs.lemmas.Entrywise.{IsRead}
use Rattle.element_state.proofs.reading.read_entries.Given as goal

abbrev pub invariant-loop-entry : goal.invariant-loop-entry
invariant-loop-entry g l = record {
  disk : IsRead (g.D.Disk.medium l.fn.disk) (g.D.Disk.medium l.disk);
  views : IsTrue g.D.Disk.told → l.views.items ≡ map (entry_view (g.D.Disk.medium l.fn.disk).image l.place l.m)
      (take l.entry-index l.entries);
  read : AllZip (IsReadBy l.place.copies) (take l.entry-index l.entries) l.views.items;
  states : AllZip AreOfEntry l.views.items l.states.items;
}
