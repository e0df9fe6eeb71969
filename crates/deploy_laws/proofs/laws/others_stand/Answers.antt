use Rattle.deploy_laws.proofs.Files.{other_file, others_settled, root_spared}
use Rattle.deploy_laws.proofs.Frames.{app_frame, free_bank, same_states, still_clean}
use Rattle.deploy_laws.specs.Apps.{shapes_named}
use Rattle.deploy_laws.proofs.Named.{versions}
use Rattle.deploy_laws.proofs.Storing.{stored}
use Rattle.deploy_laws.proofs.laws.others_stand.Goals as goal

pub returns-clause-frame : goal.returns-clause-frame
returns-clause-frame c = λ app old new lt spared. app_frame c.held_is_lawful.ensures.same_standing
    c.places_stand_apart.ensures.frame app old new lt
    (versions c.said_is_kept.ensures.keeps c.one_root.ensures.is_root old app) spared

pub returns-clause-free_bank : goal.returns-clause-free_bank
returns-clause-free_bank c = λ app bank old new lt le free spared.
    free_bank c.held_is_lawful.ensures.same_standing c.places_stand_apart.ensures.frame app old new lt
    (versions c.said_is_kept.ensures.keeps c.one_root.ensures.is_root old app) bank le free spared

pub returns-clause-stored : goal.returns-clause-stored
returns-clause-stored c = λ app g number old new active previous s lt says there spared.
    stored (versions c.said_is_kept.ensures.keeps c.one_root.ensures.is_root) app g number active previous s lt there
    old says
    c.places_stand_apart.ensures.frame new c.held_is_lawful.ensures.same_standing spared

pub returns-clause-others : goal.returns-clause-others
returns-clause-others c = λ one other old new lt differs spared.
    app_frame c.held_is_lawful.ensures.same_standing c.places_stand_apart.ensures.frame other old new lt
    (versions c.said_is_kept.ensures.keeps c.one_root.ensures.is_root old other)
    (λ f is. spared f (other_file one other f differs is))

pub returns-clause-cases : goal.returns-clause-cases
returns-clause-cases c = others_settled

pub returns-clause-root : goal.returns-clause-root
returns-clause-root c = λ app says old new lt versions spared. let apart =
    root_spared app lt says versions old new spared in (
      same_states c.places_stand_apart.ensures.frame old new (shapes_named app says) apart,
      still_clean c.places_stand_apart.ensures.frame old new (shapes_named app says) apart,
    )
