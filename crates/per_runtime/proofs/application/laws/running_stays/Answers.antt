use Rattle.per_runtime.proofs.application_lemmas.Kept.{stays_running}
use Rattle.per_runtime.proofs.application.laws.running_stays.Goals as goal

pub returns : goal.returns
returns c = stays_running c.places_stand_apart.ensures.frame c.files_lie_apart.ensures.storage
    c.in_use_stays.ensures.root c.in_use_stays.ensures.staged
