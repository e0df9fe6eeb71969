use Rattle.std.proofs.Common.{◌∙◌}
use Rattle.element_state.proofs.Ranges.{one_more}
use Rattle.element_state.proofs.reporting.all_copies.Goals as goal

pub loop-copy-preserved : goal.loop-copy-preserved
loop-copy-preserved c = c.in_ok-push.ensures.items ∙ one_more c.loop-copy.copy c.loop-copy.numbers.items
    c.loop-copy.invariant
