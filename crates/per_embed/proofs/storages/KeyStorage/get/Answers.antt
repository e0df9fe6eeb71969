use Rattle.per_embed.proofs.Values.{reads_got}
use Rattle.per_embed.proofs.storages.KeyStorage.get.Goals as goal

pub returns-clause-reads : goal.returns-clause-reads
returns-clause-reads g c = rw (← c.self.view_is) (reads_got g.T.PerValue.tree c.values_stand.ensures.reads g.D.Disk.told
    c.self.inside.kvs (g.D.Disk.medium c.self.inside.disk) c.args.key.now g.T.PerValue.kind c.get_in.result
    c.self.invariant c.get_in.ensures.ok)
