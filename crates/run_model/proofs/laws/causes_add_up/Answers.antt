use Rattle.run_model.specs.RunLaws.{blamed_on}
use Rattle.run_model.proofs.laws.causes_add_up.Goals as goal

pub returns : goal.returns
returns c = blamed_on
