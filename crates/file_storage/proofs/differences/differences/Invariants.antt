use Rattle.std.proofs.Common.{◌≡◌, ◌++◌}
use Rattle.std.specs.Prelude.{map}
use Rattle.element_state.specs.Views.{element_of}
use Rattle.file_storage.specs.Walks.{bare, walked}
use Rattle.file_storage.proofs.differences.differences.Given as goal

-- the changes so far, and those of what is left of both
abbrev pub invariant-loop-name : goal.invariant-loop-name
invariant-loop-name l = l.list.items ++ map bare (walked l.name-iterator (map element_of l.rest))
    ≡ map bare (walked l.files.entries (map element_of l.entries))
