use Rattle.std.proofs.Common.{◌≡◌}
use Rattle.std.specs.Prelude.{map}
use Rattle.element_state.specs.Views.{element_of}
use Rattle.element_maps.specs.Sessions.{same_map}
use Rattle.file_storage.proofs.differences.are_same.Given as goal

-- what is left of both decides it
abbrev pub invariant-loop-name : goal.invariant-loop-name
invariant-loop-name l = same_map (map element_of l.entries) l.files.entries
    ≡ same_map (map element_of l.rest) l.name-iterator
