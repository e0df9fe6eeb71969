use Rattle.std.proofs.Common.{take}
use Rattle.folder_disk.proofs.Noting.{puts, puts_on, shows_put}
use Rattle.folder_disk.proofs.folder.Folder.put.Goals as goal

pub cover-requires-clause-shows : goal.cover-requires-clause-shows
cover-requires-clause-shows g c = λ t.
    shows_put (g.S.System.medium c.announce.new.self).disk.image
    (g.S.System.medium c.write_all-progress.new.system).disk.image c.args.file c.args.at
    (take c.write_all-progress.result.done c.args.bytes.now) (c.write_all-progress.ensures.writes.image t)

pub returns-clause-puts : goal.returns-clause-puts
returns-clause-puts g c =
    let told = g.S.System.told in
    let a = g.S.System.medium c.args.self.now.system in
    let b = g.S.System.medium c.announce.new.self in
    let d = g.S.System.medium c.write_all-progress.new.system in
    let e = c.announce.ensures in
    let w = c.write_all-progress.ensures in
    let n = c.write_all-progress.result.done in
    puts_on told c.args.file c.args.at c.args.bytes.now n told a.disk d.disk
    (g.S.System.medium c.cover.new.self.system).disk
    (g.met.S.System.lawful c.write_all-progress.new.system)
    (puts told c.args.file c.args.at c.args.bytes.now n w.count a b d e.image c.in_ok-announce.ensures.now e.during
    e.time w.writes) c.cover.ensures.reads c.cover.ensures.time
