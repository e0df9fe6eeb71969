use Rattle.element_store.proofs.InPlace.{synced_during, unsynced_during}
use Rattle.element_store.proofs.mending.mend_durably.Goals as goal

pub returns-clause-during : goal.returns-clause-during
returns-clause-during g c = λ tells. synced_during c.args.shape.now c.args.index.now c.args.views.now g.D.Disk.told
    (g.D.Disk.medium c.args.disk.now) (g.D.Disk.medium c.mend_each.new.disk) (g.D.Disk.medium c.sync.new.self)
    (g.met.D.Disk.lawful c.mend_each.new.disk)
    c.in_ok-mend_each.ensures.during c.in_ok-mend_each.ensures.time c.sync.ensures.time c.mending_keeps.ensures.start
    c.mending_keeps.ensures.sync
    (c.in_ok-mend_each.ensures.spared tells) (c.in_ok-mend_each.ensures.whole tells) c.sync.ensures.writes_nothing
    c.in_ok-sync.ensures.quiet

pub returns-in_err-sync-clause-during : goal.returns-in_err-sync-clause-during
returns-in_err-sync-clause-during g c = λ tells. unsynced_during c.args.shape.now c.args.index.now c.args.views.now
    g.D.Disk.told
    (g.D.Disk.medium c.args.disk.now) (g.D.Disk.medium c.mend_each.new.disk) (g.D.Disk.medium c.sync.new.self)
    (g.met.D.Disk.lawful c.mend_each.new.disk)
    c.in_ok-mend_each.ensures.during c.in_ok-mend_each.ensures.time c.sync.ensures.time c.in_err-sync.ensures.failed
