use Rattle.std.proofs.Common.{arith}
use Rattle.deploy.proofs.StagedMore.{few_storages}
use Rattle.deploy.proofs.updating.Staged.remaining.Goals as goal

pub overflow_cast-result : goal.overflow_cast-result
overflow_cast-result c =
    let few = (few_storages c.args.self.now.app c.args.self.now c.requires).0 in
    omega (arith, few)
