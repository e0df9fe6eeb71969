use Rattle.std.proofs.Common.{◌≡◌, ◌-◌, ◌+◌, ◌*◌}
use Rattle.value_model.specs.Views.{kinds_view}
use Rattle.value_code.specs.Reading.{kind_at, kinds_by}
use Rattle.value_code.proofs.Loops.{kinds_with}
use Rattle.value_code.proofs.types.+type_at.Given as goal

abbrev pub decreases-type_at : goal.decreases-type_at
decreases-type_at l = 4 * l.depth

abbrev pub decreases-list_type_at : goal.decreases-list_type_at
decreases-list_type_at l = 4 * l.depth + 1

abbrev pub decreases-group_type_at : goal.decreases-group_type_at
decreases-group_type_at l = 4 * l.depth + 2

abbrev pub decreases-types_at : goal.decreases-types_at
decreases-types_at l = 4 * l.depth + 1

-- the types so far, and what is still to read
abbrev pub invariant-types_at-loop : goal.invariant-types_at-loop
invariant-types_at-loop l = kinds_with (kinds_view l.types.items)
    (kinds_by (kind_at l.depth) (l.count - l.counter) l.rest) ≡ kinds_by (kind_at l.depth) l.count l.bytes
