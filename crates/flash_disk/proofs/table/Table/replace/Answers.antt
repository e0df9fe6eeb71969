use Rattle.std.proofs.Common.{◌≡◌, sym}
use Rattle.std.specs.Prelude.{Some}
use Rattle.flash_disk.specs.Known.{known}
use Rattle.flash_disk.proofs.Counting.{replaced}
use Rattle.flash_disk.proofs.table.Table.replace.Goals as goal

pub returns-in-Some-clause-counts : goal.returns-in-Some-clause-counts
returns-in-Some-clause-counts c block =
    let is : known c.args.self.now c.args.key ≡ Some c.in-Some.slot.now = sym c.in-Some.ensures.value in
    replaced block c.args.self.now.newest (c.get_mut.follows.lender c.args.new) c.args.key c.args.new c.in-Some.slot.now
    is (c.get_mut.follows.holds c.args.new).0
