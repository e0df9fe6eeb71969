use Rattle.std.proofs.Common.{◌∙◌, ap}
use Rattle.deploy.specs.Views.{RootSeen}
use Rattle.flash_reclaim.specs.Naming.{free_range}
use Rattle.flash_reclaim.proofs.naming.free_at.Goals as goal

pub returns-clause-first : goal.returns-clause-first
returns-clause-first g c tells = c.free_files-free.ensures.first
    ∙ ap (λ (s : RootSeen). (free_range c.args.app s).first) (c.in_ok-view.ensures.view tells)

pub returns-clause-end : goal.returns-clause-end
returns-clause-end g c tells = c.free_files-free.ensures.end
    ∙ ap (λ (s : RootSeen). (free_range c.args.app s).end) (c.in_ok-view.ensures.view tells)
