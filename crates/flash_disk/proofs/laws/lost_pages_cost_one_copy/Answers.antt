use Rattle.std.proofs.Common.{arith}
use Rattle.flash_disk.proofs.Losing.{costs_one_copy}
use Rattle.flash_disk.proofs.Holding.{stand_apart}
use Rattle.flash_disk.proofs.laws.lost_pages_cost_one_copy.Goals as goal

pub returns-clause-of_copy : goal.returns-clause-of_copy
returns-clause-of_copy c old new blocks block copy agreed of_copy loses =
    costs_one_copy old new blocks block copy agreed of_copy loses

pub returns-clause-apart : goal.returns-clause-apart
returns-clause-apart c old new blocks block agreed apart loses =
    let own = apart block in (own.0, costs_one_copy old new blocks block own.0 agreed own.1 loses)

pub returns-clause-copies : goal.returns-clause-copies
returns-clause-copies c first copy k at few inside = omega (arith, at, few, inside)

pub returns-clause-stand : goal.returns-clause-stand
returns-clause-stand c pages blocks stand = stand_apart pages blocks stand
