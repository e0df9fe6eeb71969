use Rattle.guarded_cell.proofs.Changing.{formats_none}
use Rattle.guarded_cell.proofs.formatting.format_cell.Goals as goal

pub returns-in_err-sealed_text-clause-formats : goal.returns-in_err-sealed_text-clause-formats
returns-in_err-sealed_text-clause-formats g c = formats_none (g.met.D.Disk.lawful c.args.disk.now)
