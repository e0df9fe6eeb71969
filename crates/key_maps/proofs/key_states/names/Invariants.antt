use Rattle.std.proofs.Common.{◌≡◌, ◌++◌}
use Rattle.per_base.specs.Maps.{names_of}
use Rattle.key_maps.specs.KeyStates.{visible_map}
use Rattle.key_maps.proofs.key_states.names.Given as goal

-- the names so far, and those of the states that are left
abbrev pub invariant-loop-name : goal.invariant-loop-name
invariant-loop-name l = l.names.items ++ names_of (visible_map l.name-iterator)
    ≡ names_of (visible_map l.states.entries)
