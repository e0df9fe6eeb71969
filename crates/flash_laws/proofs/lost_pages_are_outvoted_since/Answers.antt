use Rattle.flash_laws.proofs.Costs.{outlasts}
use Rattle.flash_laws.proofs.lost_pages_are_outvoted_since.Goals as goal

pub returns : goal.returns
returns g c flash t agreed apart = outlasts (g.F.Flash.medium flash) t c.lost_pages_are_outvoted.ensures
    c.lost_pages_cost_one_copy.ensures.stand agreed apart
