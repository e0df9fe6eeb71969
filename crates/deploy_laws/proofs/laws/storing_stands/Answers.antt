use Rattle.deploy_laws.proofs.Named.{versions}
use Rattle.deploy_laws.proofs.Storing.{storing}
use Rattle.deploy_laws.proofs.laws.storing_stands.Goals as goal

pub returns : goal.returns
returns c = λ app g number start active previous s after x lt clean says there settled kept.
    storing (versions c.said_is_kept.ensures.keeps c.one_root.ensures.is_root) app g number active previous s lt there
    start says c.untouched_is_kept.ensures.untouched clean after x settled kept
