use Rattle.std.proofs.Common.{refl}
use Rattle.disk_model.specs.lemmas.Frames.{settled_less}
use Rattle.deploy_laws.specs.Apps.{app_at, says_at}
use Rattle.deploy_laws.specs.Stands.{same_root}
use Rattle.deploy_laws.proofs.Files.{all_fit, own_untouched, root_own}
use Rattle.deploy_laws.proofs.Named.{versions}
use Rattle.deploy_laws.proofs.Still.{rests_later}
use Rattle.deploy_laws.proofs.laws.untouched_stands.Goals as goal

pub returns-clause-still : goal.returns-clause-still
returns-clause-still c = λ app start after x lt clean settled later sound damaged image decays.
    let is = versions c.said_is_kept.ensures.keeps c.one_root.ensures.is_root start app in
    rests_later c.untouched_is_kept.ensures.untouched app start x clean (all_fit app lt (says_at start app) is) sound
    damaged image decays
    (own_untouched app lt (says_at start app) is start x settled) (settled_less (λ f of. root_own app f lt of) settled)
    after later

pub returns-clause-untouched : goal.returns-clause-untouched
returns-clause-untouched c = λ app start x lt clean settled.
    returns-clause-still c app start (app_at start app) x lt clean settled (same_root refl refl)
