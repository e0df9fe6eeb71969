use Rattle.odometer.proofs.Totals.{total_quiet, total_reads}
use Rattle.odometer.proofs.odometers.Odometer.total.Goals as goal

pub returns-clause-reads : goal.returns-clause-reads
returns-clause-reads g c = rw (← c.self.view_is) (λ tells. total_reads c.self.inside.storage.kvs c.self.inside.total
    (g.D.Disk.medium c.self.inside.storage.disk).image c.self.invariant.0 (c.invariants.ensures.reads tells))

pub returns-clause-durable : goal.returns-clause-durable
returns-clause-durable g c = rw (← c.self.view_is) (total_quiet g.D.Disk.told c.self.inside.storage.kvs
    (g.D.Disk.medium c.self.inside.storage.disk) c.invariants.ensures.open)
