use Rattle.std.proofs.Common.{◌≡◌}
use Rattle.key_maps.specs.Changes.{changes_of}
use Rattle.key_maps.proofs.key_states.has_changes.Given as goal

-- the states so far give nothing
abbrev pub invariant-loop-state : goal.invariant-loop-state
invariant-loop-state l = changes_of l.states.entries ≡ changes_of l.state-iterator
