use Rattle.std.proofs.Common.{sym, ◌∙◌}
use Rattle.guarded_cell.proofs.Midway.{then_whole, then_part}
use Rattle.guarded_cell.proofs.starts.write_front.Goals as goal

pub returns-then-branch-clause-during : goal.returns-then-branch-clause-during
returns-then-branch-clause-during g c tells whole =
    then_part c.args.file c.args.bytes.now c.has_blank_front.ensures.reads c.has_blank_front.ensures.time
    c.write_changed.ensures.time whole
    (sym (c.in_ok-has_blank_front.ensures.blank tells) ∙ c.if-branch.true) (c.write_changed.ensures.during tells)

pub returns-else-branch-clause-during : goal.returns-else-branch-clause-during
returns-else-branch-clause-during g c tells whole =
    then_whole c.args.file c.args.bytes.now c.has_blank_front.ensures.reads c.has_blank_front.ensures.time
    c.write_at.ensures.time whole c.write_at.ensures.during
