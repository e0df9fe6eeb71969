use Rattle.std.proofs.Common.{◌∙◌, ◌-◌, length, drop, arith}
use Rattle.byteorder.specs.Numbers.{little_from-take}
use Rattle.hash_guard.specs.SealedText.{generation_in}
use Rattle.hash_guard.proofs.verifying.generation_of.Goals as goal

pub returns : goal.returns
unfolding generation_in
returns c = c.read_u64.ensures
    ∙ little_from-take 0 8 (length c.args.slot.now - 32) (drop 32 c.args.slot.now) (omega arith)
