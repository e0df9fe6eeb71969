use Rattle.mem_system.proofs.Copies.{image_of-copy}
use Rattle.mem_system.proofs.files.copy_of.Goals as goal

pub returns : goal.returns
returns c = image_of-copy c.args.files.now c.in_ok-copy.copy c.in_ok-copy.ensures.cases
