use Rattle.deploy_rows.proofs.Rejected.{rejected}
use Rattle.deploy_rows.proofs.laws.manifests_are_judged.Goals as goal

pub returns : goal.returns
returns c = rejected
