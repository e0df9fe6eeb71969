use Rattle.deploy_laws.proofs.Clean.{alone_clean}
use Rattle.deploy_laws.proofs.Frames.{says_frame, still_alone}
use Rattle.deploy_laws.proofs.Named.{versions}
use Rattle.deploy_laws.proofs.Said.{alone_app}
use Rattle.deploy_laws.proofs.Storing.{number_in}
use Rattle.deploy_laws.proofs.laws.roots_say.Goals as goal

pub returns-clause-versions : goal.returns-clause-versions
returns-clause-versions c = λ image app. versions c.said_is_kept.ensures.keeps c.one_root.ensures.is_root image app

pub returns-clause-says : goal.returns-clause-says
returns-clause-says c = λ app old new spared. says_frame app old new spared c.held_is_lawful.ensures.same_standing

pub returns-clause-numbers : goal.returns-clause-numbers
returns-clause-numbers c = λ app number v s e. number_in app v.bank number v.deployment.storages s e

pub returns-clause-alone : goal.returns-clause-alone
returns-clause-alone c = λ app g text image alone. alone_app image app g text alone

pub returns-clause-clean : goal.returns-clause-clean
returns-clause-clean c = alone_clean

pub returns-clause-held : goal.returns-clause-held
returns-clause-held c = λ app g text old new spared alone. still_alone app old new spared g text alone
