use Rattle.flash_laws.proofs.Costs.{outvotes}
use Rattle.flash_laws.proofs.Left.{one_stays, others_stay}
use Rattle.flash_laws.proofs.losses_cost_their_copies.Goals as goal

pub returns-clause-copies : goal.returns-clause-copies
returns-clause-copies c lost old new blocks file loses other = others_stay lost old new blocks loses file other

pub returns-clause-outvoted : goal.returns-clause-outvoted
returns-clause-outvoted c copy old new blocks loses = outvotes old new blocks copy
    (one_stays copy old new blocks loses)
