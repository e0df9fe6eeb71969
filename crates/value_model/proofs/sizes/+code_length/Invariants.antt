use Rattle.std.proofs.Common.{◌≡◌, ◌+◌, ◌≤◌, drop, length, min}
use Rattle.value_model.specs.Kinds.{type_codes}
use Rattle.value_model.specs.Trees.{types_of}
use Rattle.value_model.specs.Views.{trees_view}
use Rattle.value_model.proofs.sizes.+code_length.Given as goal

-- the length so far, and the nodes that are left
abbrev pub invariant-codes_length-loop-node : goal.invariant-codes_length-loop-node
invariant-codes_length-loop-node l = (min (l.total + length
    (type_codes (types_of (trees_view (drop l.node-index l.nodes))))) 65537
    ≡ min (length (type_codes (types_of (trees_view l.nodes)))) 65537) × (l.total ≤ 65537)
