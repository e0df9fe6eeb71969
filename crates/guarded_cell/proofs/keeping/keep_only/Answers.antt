use Rattle.guarded_cell.proofs.Changing.{clears_none}
use Rattle.guarded_cell.proofs.keeping.keep_only.Goals as goal

pub returns-in_err-room-clause-clears : goal.returns-in_err-room-clause-clears
returns-in_err-room-clause-clears g c = clears_none (g.met.D.Disk.lawful c.args.disk.now)
