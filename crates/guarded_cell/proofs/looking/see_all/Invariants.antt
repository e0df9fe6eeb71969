use Rattle.std.proofs.Common.{◌≡◌, ◌≤◌, IsTrue, All, length}
use Rattle.hash_guard.specs.SealedText.{header}
use Rattle.disk_model.specs.Medium.{OnlyReads, Elapses}
use Rattle.guarded_cell.specs.Held.{held_in_first}
use Rattle.guarded_cell.specs.Seens.{IsSealable}
use Rattle.guarded_cell.specs.Slots.{AreFlags}
use Rattle.guarded_cell.proofs.looking.see_all.Given as goal

abbrev pub invariant-loop-copy : goal.invariant-loop-copy
invariant-loop-copy g l = record {
  held : IsTrue g.D.Disk.told → l.seens.items ≡ held_in_first ((g.D.Disk.medium l.initial.disk).image) l.place l.copy;
  even : IsTrue g.D.Disk.told → AreFlags (g.D.Disk.medium l.initial.disk).image l.place l.copy 0 l.even;
  odd : IsTrue g.D.Disk.told → AreFlags (g.D.Disk.medium l.initial.disk).image l.place l.copy 1 l.odd;
  evens : length l.even ≡ 8;
  odds : length l.odd ≡ 8;
  room : header ≤ length l.room.items;
  sealable : All IsSealable l.seens.items;
  reads : OnlyReads (g.D.Disk.medium l.initial.disk) (g.D.Disk.medium l.disk);
  time : Elapses (g.D.Disk.medium l.initial.disk) (g.D.Disk.medium l.disk);
  passes : (g.D.Disk.medium l.disk).faults ≡ (g.D.Disk.medium l.initial.disk).faults;
}
