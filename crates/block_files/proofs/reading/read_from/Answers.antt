use Rattle.std.proofs.Common.{◌≡◌, ◌-◌, ◌*◌, ◌∙◌, length, replicate, take, drop, ap, arith}
use Rattle.std.proofs.lemmas.List.{length-take, length-drop}
use Rattle.block_files.proofs.Runs.{padded}
use Rattle.block_files.proofs.reading.read_from.Goals as goal

pub returns-clause-bytes : goal.returns-clause-bytes
returns-clause-bytes g c = λ tells i lt.
    let file = (g.D.Disk.medium c.args.disk.now).image c.args.file in
    let read = c.in_ok-count.ensures.bytes tells in
    let out = c.read.new.out in
    let n = c.in_ok-count.count in
    let long : length out ≡ length c.args.out.now = c.read.auto.out in
    let rest : length (take (length out - n) (drop n out)) ≡ length out - n =
    omega (arith, length-take (length out - n) (drop n out), length-drop n out) in
    padded file out c.fill.new.self (256 * c.args.block) n (omega (arith, read.0, c.from.ensures))
    (read.1 ∙ ap (λ at. take n (drop (256 * at) file)) c.from.ensures)
    (c.fill.ensures.after (λ y is. is) ∙ ap (λ k. replicate k 0) rest) i (omega arith)
