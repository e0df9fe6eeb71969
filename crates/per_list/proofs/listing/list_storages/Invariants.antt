use Rattle.std.proofs.Common.{string_bytes}
use Rattle.std.specs.Prelude.{IsTrue}
use Rattle.per_list.proofs.Looks.{IsSeen}
use Rattle.per_list.proofs.Storages.{StoragesLeft}
use Rattle.per_list.proofs.listing.list_storages.Given as goal

abbrev pub invariant-loop-number : goal.invariant-loop-number
invariant-loop-number g l = record {
  left : IsTrue g.D.Disk.told → StoragesLeft l.form (g.D.Disk.medium l.fn.disk).image l.app l.bank l.number l.storages
      (string_bytes l.fn.out) (string_bytes l.out);
  seen : IsSeen (g.D.Disk.medium l.fn.disk) (g.D.Disk.medium l.disk);
}
