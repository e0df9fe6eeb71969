use Rattle.std.proofs.Common.{◌≡◌, take}
use Rattle.key_maps.specs.KeyStates.{opened_states}
use Rattle.key_maps.proofs.opening.states_of.Given as goal

-- the states of the entries so far
abbrev pub invariant-loop-entry : goal.invariant-loop-entry
invariant-loop-entry l = l.states.entries ≡ opened_states (take l.entry-index l.entries)
