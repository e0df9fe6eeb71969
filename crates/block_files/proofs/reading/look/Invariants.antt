use Rattle.std.proofs.Common.{◌≡◌, ◌*◌, min, IsTrue, length, map}
use Rattle.std.specs.List.{range_with_len}
use Rattle.disk_model.specs.Place.{area}
use Rattle.block_files.specs.Areas.{has_all_bytes}
use Rattle.block_files.specs.Contents.{HaveSize}
use Rattle.block_files.specs.States.{AreOfFirst}
use Rattle.block_files.proofs.Counting.{contents_of}
use Rattle.block_files.proofs.BlockReads.{IsRead}
use Rattle.block_files.proofs.reading.look.Given as goal

abbrev pub invariant-loop-copy : goal.invariant-loop-copy
invariant-loop-copy g l = record {
  read : IsRead (g.D.Disk.medium l.fn.disk) (g.D.Disk.medium l.disk);
  texts : IsTrue g.D.Disk.told → l.texts
      ≡ contents_of l.place l.copy l.blocks l.len l.hash (g.D.Disk.medium l.fn.disk).image;
  inside : IsTrue g.D.Disk.told → l.inside.items
      ≡ map (λ c. has_all_bytes ((g.D.Disk.medium l.fn.disk).image (area l.place c)) l.blocks l.len)
      (range_with_len 0 l.copy);
  copies : (length l.texts ≡ l.copy) × (length l.inside.items ≡ l.copy);
  size : HaveSize (min l.len (256 * length l.blocks)) l.texts;
  states : AreOfFirst l.texts l.states.items;
}
