use Rattle.deploy_rows.proofs.Manifests.{absent_keeps, same_manifests}
use Rattle.deploy_rows.proofs.laws.manifests_stay.Goals as goal

pub returns-clause-frame : goal.returns-clause-frame
returns-clause-frame c = same_manifests c.files_lie_apart.ensures.root c.held_is_lawful.ensures.same_standing

pub returns-clause-absent : goal.returns-clause-absent
returns-clause-absent c = absent_keeps
