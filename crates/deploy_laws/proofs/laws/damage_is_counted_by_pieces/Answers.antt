use Rattle.deploy_laws.proofs.Named.{versions}
use Rattle.deploy_laws.proofs.Onward.{stands_onward}
use Rattle.deploy_laws.proofs.laws.damage_is_counted_by_pieces.Goals as goal

pub returns : goal.returns
returns c = stands_onward c.copies_are_counted_by_pieces.ensures.onward
    (versions c.said_is_kept.ensures.keeps c.one_root.ensures.is_root)
