use Rattle.run_model.specs.Later.{later_state}
use Rattle.run_model.proofs.laws.storages_lead_on.Goals as goal

pub returns : goal.returns
returns c = later_state
