use Rattle.guarded_cell.proofs.Midway.{look_tells}
use Rattle.guarded_cell.proofs.starts.has_blank_front.Goals as goal

pub returns-clause-blank : goal.returns-clause-blank
returns-clause-blank g c tells =
    look_tells ((g.D.Disk.medium c.args.disk.now).image c.args.file) c.read.new.out c.in_ok-count.count c.eq.result
    c.eq.ensures (c.in_ok-count.ensures.bytes tells).0 (c.in_ok-count.ensures.bytes tells).1
