use Rattle.std.proofs.Common.{◌≡◌, drop}
use Rattle.value_model.specs.Kinds.{type_codes}
use Rattle.value_model.specs.Trees.{types_of}
use Rattle.value_model.specs.Views.{trees_view}
use Rattle.key_maps.specs.Fronts.{after}
use Rattle.key_maps.proofs.type_codes.+after_type_of.Given as goal

-- what follows the codes of the nodes that are left
abbrev pub invariant-after_types_of-loop-node : goal.invariant-after_types_of-loop-node
invariant-after_types_of-loop-node l = after (type_codes (types_of (trees_view (drop l.node-index l.nodes)))) l.rest
    ≡ after (type_codes (types_of (trees_view l.nodes))) l.bytes
