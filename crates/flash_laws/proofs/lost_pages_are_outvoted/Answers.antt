use Rattle.flash_laws.proofs.Costs.{outvotes}
use Rattle.flash_laws.proofs.lost_pages_are_outvoted.Goals as goal

pub returns : goal.returns
returns c old new blocks block agreed apart loses =
    let cost = c.lost_pages_cost_one_copy.ensures.apart old new blocks block agreed apart loses in
    outvotes old new blocks cost.0 cost.1
