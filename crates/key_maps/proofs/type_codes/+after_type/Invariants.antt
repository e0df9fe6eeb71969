use Rattle.std.proofs.Common.{◌≡◌, drop}
use Rattle.value_model.specs.Kinds.{type_codes}
use Rattle.value_model.specs.Views.{kinds_view}
use Rattle.key_maps.specs.Fronts.{after}
use Rattle.key_maps.proofs.type_codes.+after_type.Given as goal

-- what follows the codes of the types that are left
abbrev pub invariant-after_types-loop-value_type : goal.invariant-after_types-loop-value_type
invariant-after_types-loop-value_type l = after (type_codes (kinds_view (drop l.value_type-index l.types))) l.rest
    ≡ after (type_codes (kinds_view l.types)) l.bytes
