use Rattle.std.proofs.Common.{arith}
use Rattle.run_model.specs.Starting.{open_next, open_none, opened_keeps}
use Rattle.run_model.proofs.laws.a_start_keeps.Goals as goal

pub returns-clause-none : goal.returns-clause-none
returns-clause-none g c time nothing quiet = open_none c.applications_stand.ensures (g.D.Disk.medium c.args.old.now)
    (g.D.Disk.medium c.args.new.now) time nothing quiet

pub returns-clause-one : goal.returns-clause-one
returns-clause-one g c a less opened opens = open_next c.applications_stand.ensures a (g.D.Disk.medium c.args.old.now)
    (g.D.Disk.medium c.args.now.now)
    (g.D.Disk.medium c.args.new.now) less opened opens

pub returns-clause-all : goal.returns-clause-all
returns-clause-all g c opened = opened_keeps c.applications_stand.ensures 8 (g.D.Disk.medium c.args.old.now)
    (g.D.Disk.medium c.args.new.now) (omega arith) opened
