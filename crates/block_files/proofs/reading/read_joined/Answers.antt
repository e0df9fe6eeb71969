use Rattle.std.proofs.Common.{◌≡◌, ◌*◌, ◌∙◌, min, length, drop, arith, rules}
use Rattle.std.proofs.lemmas.List.{take_at}
use Rattle.std.proofs.lemmas.Grind.{common_steps}
use Rattle.block_files.proofs.Runs.{joined_cut}
use Rattle.block_files.proofs.reading.read_joined.Goals as goal

pub returns-clause-bytes : goal.returns-clause-bytes
returns-clause-bytes g c = λ tells.
    let file = (g.D.Disk.medium c.args.disk.now).image c.args.file in
    let blocks = c.args.blocks.now in
    let out = c.read_runs.new.out in
    let bytes = c.in_ok-bytes.bytes in
    let size : length c.deref_mut.result.now ≡ min c.args.len (256 * length blocks) = first_of (
      omega (
        arith,
        c.deref_mut.ensures.len,
        c.in_ok-bytes.ensures,
        bytes.ok,
        c.min-size.ensures,
        c.saturating_mul.ensures,
        c.ranges.len.fits,
      ),
      search rules,
      grind (arith, common_steps),
    ) in
    let long : length out ≡ bytes.len = c.read_runs.auto.out ∙ c.deref_mut.ensures.len in
    take_at out (drop (length out) bytes.items) bytes.len long
    ∙ c.in_ok-read_runs.ensures.bytes tells
    ∙ joined_cut file blocks c.args.len (length c.deref_mut.result.now) size
