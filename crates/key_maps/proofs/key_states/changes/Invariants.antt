use Rattle.std.proofs.Common.{◌≡◌, ◌++◌}
use Rattle.key_maps.specs.Changes.{changes_of}
use Rattle.key_maps.proofs.key_states.changes.Given as goal

-- the changes so far, and those of the states that are left
abbrev pub invariant-loop-name : goal.invariant-loop-name
invariant-loop-name l = l.changes.items ++ changes_of l.name-iterator ≡ changes_of l.states.entries
