use Rattle.per_embed.proofs.Values.{keeps_synced, reads_synced}
use Rattle.per_embed.proofs.storages.KeyStorage.invariants.Goals as goal

pub returns-clause-reads : goal.returns-clause-reads
returns-clause-reads g c = rw (← c.self.view_is) (reads_synced c.values_stand.ensures.reads g.D.Disk.told
    c.self.inside.kvs (g.D.Disk.medium c.self.inside.disk) c.self.invariant)

pub returns-clause-keeps : goal.returns-clause-keeps
returns-clause-keeps g c = rw (← c.self.view_is) (keeps_synced c.values_stand.ensures.still g.D.Disk.told
    c.self.inside.kvs (g.D.Disk.medium c.self.inside.disk) (g.met.D.Disk.lawful c.self.inside.disk) c.self.invariant)
