use Rattle.std.proofs.Common.{◌≡◌, drop, max, min}
use Rattle.value_model.specs.Kinds.{kinds_depth}
use Rattle.value_model.specs.Views.{kinds_view}
use Rattle.value_model.proofs.sizes.+type_depth.Given as goal

-- the deepest so far, and the types that are left
abbrev pub invariant-types_depth-loop-value_type : goal.invariant-types_depth-loop-value_type
invariant-types_depth-loop-value_type l = max l.deepest
    (min (kinds_depth (kinds_view (drop l.value_type-index l.types))) 9) ≡ min (kinds_depth (kinds_view l.types)) 9
