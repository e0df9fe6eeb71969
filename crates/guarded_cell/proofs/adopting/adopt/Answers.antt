use Rattle.guarded_cell.proofs.Changing.{brings_none}
use Rattle.guarded_cell.proofs.adopting.adopt.Goals as goal

pub returns-in_err-sealed_text-clause-brings : goal.returns-in_err-sealed_text-clause-brings
returns-in_err-sealed_text-clause-brings g c = brings_none (g.met.D.Disk.lawful c.args.disk.now)

pub returns-in_err-room-clause-brings : goal.returns-in_err-room-clause-brings
returns-in_err-room-clause-brings g c = brings_none (g.met.D.Disk.lawful c.args.disk.now)
