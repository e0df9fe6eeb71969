use Rattle.per_runtime.proofs.Begins.{all_in_use, fresh_by, starts_by}
use Rattle.per_runtime.proofs.starting.start.Goals as goal

pub returns-clause-memory : goal.returns-clause-memory
returns-clause-memory g c =
    let are = c.in_ok-apps.ensures.end in
    record {
      apps = all_in_use g.D.Disk.told c.in_ok-apps.apps.items (g.D.Disk.medium c.args.disk.now)
          (g.D.Disk.medium c.open_all.new.disk) are;
      quiet = λ sure. are.quiet;
    }

pub returns-clause-starts : goal.returns-clause-starts
returns-clause-starts g c = λ tells. starts_by g.D.Disk.told c.in_ok-apps.apps.items (g.D.Disk.medium c.args.disk.now)
    (g.D.Disk.medium c.open_all.new.disk) tells
    c.in_ok-apps.ensures.end (c.in_ok-apps.ensures.keeps tells)

pub returns-clause-fresh : goal.returns-clause-fresh
returns-clause-fresh g c = fresh_by g.D.Disk.told c.in_ok-apps.apps.items (g.D.Disk.medium c.args.disk.now)
    (g.D.Disk.medium c.open_all.new.disk) c.in_ok-apps.ensures.end

pub returns-clause-passes : goal.returns-clause-passes
returns-clause-passes g c = c.in_ok-apps.ensures.end.passes
