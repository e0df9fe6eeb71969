use Rattle.flash_disk.specs.Newest.{places}
use Rattle.flash_disk.proofs.Fresh.{blank_is_usable, blank_is_agreed, blank_stands_apart, agreed_has_no_rivals}
use Rattle.flash_disk.proofs.Holding.{stand_apart}
use Rattle.flash_disk.proofs.laws.fresh_flashes_open.Goals as goal

pub returns-clause-usable : goal.returns-clause-usable
returns-clause-usable c pages blocks some blank = blank_is_usable pages blocks blank some

pub returns-clause-agreed : goal.returns-clause-agreed
returns-clause-agreed c pages blocks blank = blank_is_agreed pages blocks blank

pub returns-clause-apart : goal.returns-clause-apart
returns-clause-apart c pages blocks blank = stand_apart pages blocks (blank_stands_apart pages blocks blank)

pub returns-clause-stand : goal.returns-clause-stand
returns-clause-stand c pages blocks blank = blank_stands_apart pages blocks blank

pub returns-clause-no_rivals : goal.returns-clause-no_rivals
returns-clause-no_rivals c pages blocks = agreed_has_no_rivals pages (places blocks)

pub returns-clause-empty : goal.returns-clause-empty
returns-clause-empty c pages blocks some blank = (0, some, λ p small. blank 0 p some small)
