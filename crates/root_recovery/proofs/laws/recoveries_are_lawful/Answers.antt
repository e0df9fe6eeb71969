use Rattle.root_recovery.proofs.Lefts.{is_row}
use Rattle.root_recovery.proofs.laws.recoveries_are_lawful.Goals as goal

pub returns : goal.returns
returns c = is_row c.held_is_lawful.ensures.held
