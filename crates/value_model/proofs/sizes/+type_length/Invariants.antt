use Rattle.std.proofs.Common.{◌≡◌, ◌+◌, ◌≤◌, drop, length, min}
use Rattle.value_model.specs.Kinds.{type_codes}
use Rattle.value_model.specs.Views.{kinds_view}
use Rattle.value_model.proofs.sizes.+type_length.Given as goal

-- the length so far, and the types that are left
abbrev pub invariant-types_length-loop-value_type : goal.invariant-types_length-loop-value_type
invariant-types_length-loop-value_type l = (min (l.total
    + length (type_codes (kinds_view (drop l.value_type-index l.types)))) 65537
    ≡ min (length (type_codes (kinds_view l.types))) 65537) × (l.total ≤ 65537)
