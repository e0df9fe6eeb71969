use Rattle.deploy.proofs.StaysInUse.{root_stays, staged_stays}
use Rattle.deploy.proofs.laws.in_use_stays.Goals as goal

pub returns-clause-root : goal.returns-clause-root
returns-clause-root c = λ told app old new root lt spared at.
    root_stays c.files_lie_apart.ensures.root c.roots_say.ensures.held c.roots_say.ensures.says told app old new root lt
    spared at

pub returns-clause-staged : goal.returns-clause-staged
returns-clause-staged c = λ told app old new s spared at.
    staged_stays c.files_lie_apart.ensures.root c.roots_say.ensures.held c.roots_say.ensures.says told app old new
    c.files_lie_apart.ensures.storage c.places_stand_apart.ensures.frame s spared at
