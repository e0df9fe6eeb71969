use Rattle.std.proofs.Common.{◌-◌, ◌%◌, arith}
use Rattle.changed_runs.proofs.Looking.{freshly_seen}
use Rattle.changed_runs.proofs.held.Held.look.Goals as goal

pub returns-clause-seen : goal.returns-clause-seen
returns-clause-seen g c = λ tells old keeps was.
    freshly_seen ((g.D.Disk.medium c.args.disk.now).image c.args.file) c.read_into.new.held c.args.bytes.now c.args.at
    (c.args.j - c.args.j % 16) c.args.j c.in_ok-self.field-0 c.requires.inside
    (omega (arith, (c.in_ok-self.ensures.bytes tells).0, c.min-end.ensures)) (c.in_ok-self.ensures.bytes tells).1
    old keeps
