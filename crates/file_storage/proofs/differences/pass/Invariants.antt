use Rattle.std.proofs.Common.{◌≡◌, ◌++◌, length}
use Rattle.std.specs.Prelude.{map}
use Rattle.per_base.specs.Maps.{Map}
use Rattle.element_state.specs.Views.{element_of}
use Rattle.file_storage.specs.Walks.{bare, passing, walked}
use Rattle.file_storage.proofs.differences.pass.Given as goal

-- the changes so far, and those from the entries that are left on
abbrev pub invariant-loop-entry : goal.invariant-loop-entry
invariant-loop-entry l = (files : Map) → l.list.items
    ++ map bare (passing (l.name, l.file) (walked files) (map element_of l.rest))
    ≡ l.initial.list.items ++ map bare (passing (l.name, l.file) (walked files) (map element_of l.entries))

abbrev pub decreases-loop-entry : goal.decreases-loop-entry
decreases-loop-entry l = length l.rest
