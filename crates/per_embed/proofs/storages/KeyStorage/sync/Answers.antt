use Rattle.per_embed.proofs.Values.{keeps_values}
use Rattle.per_embed.proofs.storages.KeyStorage.sync.Goals as goal

pub returns-clause-any_moment : goal.returns-clause-any_moment
returns-clause-any_moment g c = rw (← c.self.view_is) (λ tells. keeps_values c.values_stand.ensures.sync g.D.Disk.told
    c.self.inside.kvs (g.D.Disk.medium c.self.inside.disk) (g.D.Disk.medium c.sync_in.new.disk) c.self.invariant
    c.sync_in.ensures.storing tells)
