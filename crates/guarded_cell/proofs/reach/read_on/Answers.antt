use Rattle.std.proofs.Common.{◌≡◌, ◌≤◌, ◌-◌, length, drop, min, arith}
use Rattle.std.proofs.Common.{length-drop}
use Rattle.std.proofs.lemmas.List.{length-take}
use Rattle.guarded_cell.proofs.Reaching.{filled}
use Rattle.guarded_cell.proofs.reach.read_on.Goals as goal

pub returns-clause-bytes : goal.returns-clause-bytes
returns-clause-bytes g c = λ tells.
    let read = c.in_ok-more.ensures.bytes tells in
    let slot = (g.D.Disk.medium c.args.disk.now).image c.args.file in
    let room = c.args.room.now in
    let cut = length-take (length room - c.args.begun) (drop c.args.begun room) in
    let rest = length-drop c.args.begun room in
    let count : c.in_ok-more.more ≡ min (length room - c.args.begun) (length slot - c.args.begun) =
    omega (arith, read.0, cut, rest) in
    let short : c.in_ok-more.more ≤ length c.read.new.out = omega (arith, c.in_ok-more.ensures.count, c.read.auto.out) in
    filled c.args.begun c.in_ok-more.more room c.read.new.out _ slot c.requires.inside (c.requires.begun tells)
    short count read.1
