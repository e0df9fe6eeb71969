use Rattle.std.proofs.Common.{◌-◌, ◌≡◌, ◌≤◌, length, replicate, min}
use Rattle.std.specs.Prelude.{IsTrue}
use Rattle.disk_model.specs.Medium.{Elapses}
use Rattle.folder_disk.specs.FolderView.{disk_seen}
use Rattle.folder_flash.specs.Bytes.{IsSameFlash}
use Rattle.folder_flash.proofs.Cutting.{Fills}
use Rattle.folder_flash.proofs.file.FlashFile.fill_up_to.Given as goal

abbrev pub invariant-loop-size : goal.invariant-loop-size
invariant-loop-size g l =
    let old = (g.S.System.medium l.fn.self.system).disk.image 0 in
    let now = (g.S.System.medium l.self.system).disk.image 0 in
    let a = disk_seen g.S.System.medium l.fn.self in
    let b = disk_seen g.S.System.medium l.self in
    record {
      blank : l.blank.items ≡ replicate 32768 255;
      size : IsTrue g.S.System.told → l.size ≡ length now;
      from : IsTrue g.S.System.told → min (length old) l.at ≤ l.size;
      same : IsTrue g.S.System.told → IsSameFlash old now;
      fills : IsTrue g.S.System.told → Fills l.at a b;
      time : Elapses a b;
    }

abbrev pub decreases-loop-size : goal.decreases-loop-size
decreases-loop-size g l = l.at - l.size
