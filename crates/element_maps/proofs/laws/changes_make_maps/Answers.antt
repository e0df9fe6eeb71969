use Rattle.element_maps.proofs.Synced.{taken, committed_is, held_next, committed_read, size_is, nothing}
use Rattle.element_maps.proofs.Costs.{cost_le, cost_is}
use Rattle.element_maps.proofs.Unnamed.{others_unnamed}
use Rattle.element_maps.proofs.laws.changes_make_maps.Goals as goal

pub returns-clause-taken : goal.returns-clause-taken
returns-clause-taken c = taken

pub returns-clause-committed : goal.returns-clause-committed
returns-clause-committed c = committed_is

pub returns-clause-held : goal.returns-clause-held
returns-clause-held c = held_next

pub returns-clause-read : goal.returns-clause-read
returns-clause-read c = committed_read

pub returns-clause-size : goal.returns-clause-size
returns-clause-size c = size_is

pub returns-clause-cost : goal.returns-clause-cost
returns-clause-cost c = cost_le

pub returns-clause-nothing : goal.returns-clause-nothing
returns-clause-nothing c = nothing

pub returns-clause-exact_cost : goal.returns-clause-exact_cost
returns-clause-exact_cost c = cost_is

pub returns-clause-others : goal.returns-clause-others
returns-clause-others c = others_unnamed
