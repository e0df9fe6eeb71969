use Rattle.std.proofs.Common.{ap, arith}
use Rattle.std.specs.Prelude.{length}
use Rattle.root_text.proofs.writing.write_installed.Goals as goal

pub put_text-requires : goal.put_text-requires
put_text-requires c =
    let short = c.said_is_kept.ensures.short _ _ c.requires.active in
    let same = ap length c.as_slice.ensures in
    omega (arith, short, same)

pub put_text-requires-in-Some : goal.put_text-requires-in-Some
put_text-requires-in-Some c =
    let short = c.said_is_kept.ensures.short _ _ (c.requires.previous c.in-Some.version c.in-Some.is) in
    let same = ap length c.as_slice-in-Some.ensures in
    omega (arith, short, same)
