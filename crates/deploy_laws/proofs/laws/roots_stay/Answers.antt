use Rattle.deploy_laws.proofs.Clean.{root_mend, stands_clean}
use Rattle.deploy_laws.proofs.Covered.{each_covered}
use Rattle.deploy_laws.proofs.Still.{root_stands}
use Rattle.deploy_laws.proofs.laws.roots_stay.Goals as goal

pub returns-clause-covered : goal.returns-clause-covered
returns-clause-covered c = λ app x damaged image shape sound decays named.
    each_covered app x sound damaged image decays shape named

pub returns-clause-root : goal.returns-clause-root
returns-clause-root c = root_stands

pub returns-clause-clean : goal.returns-clause-clean
returns-clause-clean c = λ app start image after stands.
    stands_clean app start image after (root_stands app start) stands

pub returns-clause-mended : goal.returns-clause-mended
returns-clause-mended c = root_mend
