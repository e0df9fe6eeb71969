use Rattle.disk_model.proofs.Copies.{image_of-copy}
use Rattle.disk_model.proofs.history.copy_of.Goals as goal

pub returns : goal.returns
returns c = image_of-copy c.args.files.now c.in_ok-copy.copy c.in_ok-copy.ensures.cases
