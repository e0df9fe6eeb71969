use Rattle.guarded_cell.proofs.Behind.{behind_cost, third_cost}
use Rattle.guarded_cell.proofs.laws.blanked_slots_cost_what_differs.Goals as goal

pub returns-clause-third : goal.returns-clause-third
returns-clause-third c = third_cost

pub returns-clause-each : goal.returns-clause-each
returns-clause-each c = behind_cost
