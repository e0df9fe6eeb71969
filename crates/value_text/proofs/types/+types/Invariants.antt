use Rattle.std.proofs.Common.{◌≡◌, map, ◌+◌, ◌-◌, ◌*◌}
use Rattle.per_base.specs.FieldLoops.{with_front}
use Rattle.value_model.specs.Views.{kind_of}
use Rattle.value_text.specs.Readers.{separated}
use Rattle.value_text.specs.Parsing.{kind_at}
use Rattle.value_text.proofs.types.+types.Given as goal

abbrev pub decreases-list_type : goal.decreases-list_type
decreases-list_type l = 3 * l.depth + 1

abbrev pub decreases-members : goal.decreases-members
decreases-members l = 3 * l.depth + 1

abbrev pub decreases-type_at : goal.decreases-type_at
decreases-type_at l = 3 * l.depth

abbrev pub decreases-type_here : goal.decreases-type_here
decreases-type_here l = 3 * l.depth + 2

-- the members so far, and those of what is left
abbrev pub invariant-members-loop : goal.invariant-members-loop
invariant-members-loop l = with_front (map kind_of l.members.items)
    (separated (kind_at l.depth) 125 (32 - l.counter) l.rest) ≡ separated (kind_at l.depth) 125 32 l.bytes
