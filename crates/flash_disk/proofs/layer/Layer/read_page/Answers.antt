use Rattle.flash_disk.proofs.Steps.{nothing_none}
use Rattle.flash_disk.proofs.layer.Layer.read_page.Goals as goal

pub returns-then-not-has-clause-reads : goal.returns-then-not-has-clause-reads
returns-then-not-has-clause-reads g c = nothing_none _ c.args.self.now (g.met.F.Flash.lawful c.args.self.now.flash)
