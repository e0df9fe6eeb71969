use Rattle.std.proofs.Common.{◌∙◌, ◌-◌, length, drop, arith}
use Rattle.byteorder.specs.Numbers.{little_from-take}
use Rattle.hash_guard.specs.SealedText.{length_in}
use Rattle.hash_guard.proofs.verifying.length_of.Goals as goal

pub returns : goal.returns
unfolding length_in
returns c = c.read_u32.ensures
    ∙ little_from-take 0 4 (length c.args.slot.now - 40) (drop 40 c.args.slot.now) (omega arith)
