use Rattle.disk_model.specs.lemmas.Frames.{settled_less}
use Rattle.deploy_laws.specs.Apps.{says_at}
use Rattle.deploy_laws.proofs.Covered.{root_sound, root_decays}
use Rattle.deploy_laws.proofs.Files.{all_fit, apart_untouched, beside_untouched, root_outside}
use Rattle.deploy_laws.proofs.Formatting.{stands_formatting}
use Rattle.deploy_laws.proofs.Named.{versions, versions_said}
use Rattle.deploy_laws.proofs.Phases.{writing}
use Rattle.deploy_laws.proofs.Still.{opens_later, rests_later}
use Rattle.deploy_laws.proofs.laws.deploying_stands.Goals as goal

pub returns-clause-opening : goal.returns-clause-opening
returns-clause-opening c = λ app seen start after x lt clean stood puts later sound damaged image decays.
    let is = versions c.said_is_kept.ensures.keeps c.one_root.ensures.is_root start app in
    opens_later c.untouched_is_kept.ensures.untouched app start x clean (all_fit app lt (says_at start app) is) sound
    damaged image decays
    (beside_untouched app lt (says_at start app) is start x puts.elsewhere) seen stood puts after later

pub returns-clause-formatting : goal.returns-clause-formatting
returns-clause-formatting c = λ app next start x clean bad is_next stops sound damaged image decays.
    stands_formatting app next start x clean bad is_next stops (root_sound app x sound damaged image decays) damaged
    image (root_decays app x sound damaged image decays)

pub returns-clause-creating : goal.returns-clause-creating
returns-clause-creating c = λ app bank start after x lt le clean free settled later sound damaged image decays.
    let is = versions c.said_is_kept.ensures.keeps c.one_root.ensures.is_root start app in
    rests_later c.untouched_is_kept.ensures.untouched app start x clean (all_fit app lt (says_at start app) is) sound
    damaged image decays
    (apart_untouched app lt (says_at start app) is bank le free start x settled)
    (settled_less (λ f of. root_outside app bank f lt of) settled) after later

pub returns-clause-writing : goal.returns-clause-writing
returns-clause-writing c = λ app g text next root start after x lt clean alone is_next says_next on_next puts.
    writing (versions_said c.said_is_kept.ensures.keeps c.one_root.ensures.is_root) app g lt text next root start after
    clean alone is_next says_next
    c.untouched_is_kept.ensures.untouched on_next x puts
