use Rattle.std.proofs.Common.{arith}
use Rattle.open_storages.proofs.Idle.{none_storing}
use Rattle.open_storages.proofs.opening.open_storage.Goals as goal

pub returns-in_default-clause-storing : goal.returns-in_default-clause-storing
returns-in_default-clause-storing g c = λ after. none_storing c.untouched_is_kept.ensures.untouched g.D.Disk.told
    c.args.shape after (g.D.Disk.medium c.args.disk.now)
    (omega (arith, c.requires.valid.some_agree, c.requires.configured.m)) (g.met.D.Disk.lawful c.args.disk.now)
