use Rattle.std.proofs.Common.{◌+◌}
use Rattle.guarded_cell.proofs.Changing.{brings_none}
use Rattle.guarded_cell.proofs.cell.Cell.write.Goals as goal

pub returns-in-Err-clause-puts : goal.returns-in-Err-clause-puts
returns-in-Err-clause-puts g c =
    (brings_none {place = c.args.self.place} {generation = c.args.self.generation + 1} {text = c.args.text.now}
    (g.met.D.Disk.lawful c.args.disk.now)).puts
