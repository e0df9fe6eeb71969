use Rattle.std.proofs.Common.{◌≡◌, ℕ, [], drop}
use Rattle.std.specs.Prelude.{IsTrue, IsFalse, Contains}
use Rattle.disk_model.specs.Medium.{Elapses, OnlyReads}
use Rattle.system_model.specs.SystemMedium.{HasNothingFree}
use Rattle.folder_disk.specs.Knows.{Knows}
use Rattle.folder_disk.proofs.folder.Folder.sync_found.Given as goal

abbrev pub invariant-loop-file : goal.invariant-loop-file
invariant-loop-file g l =
    let old = g.S.System.medium l.fn.self.system in
    let new = g.S.System.medium l.self.system in
    record {
      reads : OnlyReads old.disk new.disk;
      time : Elapses old.disk new.disk;
      named : (f : ℕ) → new.named f;
      knows : Knows g.S.System.told new l.self.ranges.items l.self.is_fresh l.self.is_grown l.self.is_lost;
      ranges : l.self.ranges.items ≡ [];
      fresh : IsTrue l.self.is_fresh;
      lost : IsFalse l.self.is_lost;
      others : IsTrue g.S.System.told → (f : ℕ) → (Contains (drop l.file-index l.file-items) f → ⊥)
          → HasNothingFree new f;
      faults : l.self.faults ≡ l.fn.self.faults;
      written : l.self.written ≡ l.fn.self.written;
    }
