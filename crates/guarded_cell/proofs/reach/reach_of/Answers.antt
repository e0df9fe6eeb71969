use Rattle.std.proofs.Common.{◌-◌, ◌∙◌, length, drop, arith}
use Rattle.byteorder.specs.Numbers.{little_from-take}
use Rattle.hash_guard.specs.Laws.{body_short}
use Rattle.guarded_cell.proofs.Reaching.{stated}
use Rattle.guarded_cell.proofs.reach.reach_of.Goals as goal

pub returns-then-body_length-gt-MAX_BODY-clause-reach : goal.returns-then-body_length-gt-MAX_BODY-clause-reach
returns-then-body_length-gt-MAX_BODY-clause-reach c = λ head slot same g text v.
    let read = c.read_u32-body_length.ensures
    ∙ little_from-take 0 4 (length c.args.start.now - 40) (drop 40 c.args.start.now) (omega (arith, head)) in
    absurd (omega (
      arith,
      read,
      c.if-body_length-gt-MAX_BODY.true,
      body_short slot g text v,
      stated c.args.start.now slot g text head same v,
    ))

pub returns-clause-reach : goal.returns-clause-reach
returns-clause-reach c = λ head slot same g text v.
    let read = c.read_u32-body_length.ensures
    ∙ little_from-take 0 4 (length c.args.start.now - 40) (drop 40 c.args.start.now) (omega (arith, head)) in
    omega (arith, read, stated c.args.start.now slot g text head same v)
