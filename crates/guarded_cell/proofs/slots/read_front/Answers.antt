use Rattle.std.proofs.Common.{length}
use Rattle.guarded_cell.proofs.Choosing.{read_is}
use Rattle.guarded_cell.proofs.slots.read_front.Goals as goal

pub returns-clause-bytes : goal.returns-clause-bytes
returns-clause-bytes g c = λ tells.
    let read = c.in_ok-count.ensures.bytes tells in
    read_is c.in_ok-count.count (length c.args.room.now) c.read.new.out
    ((g.D.Disk.medium c.args.disk.now).image c.args.file) c.requires read.0 read.1
