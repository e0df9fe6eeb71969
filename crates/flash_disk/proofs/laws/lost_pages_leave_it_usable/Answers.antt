use Rattle.flash_disk.proofs.Losing.{stays_usable, loses_any}
use Rattle.flash_disk.proofs.laws.lost_pages_leave_it_usable.Goals as goal

pub returns-clause-any : goal.returns-clause-any
returns-clause-any c old new blocks usable empty loses = stays_usable old new loses blocks usable empty

pub returns-clause-of_block : goal.returns-clause-of_block
returns-clause-of_block c old new blocks block usable empty loses =
    stays_usable old new (loses_any old new block loses) blocks usable empty
