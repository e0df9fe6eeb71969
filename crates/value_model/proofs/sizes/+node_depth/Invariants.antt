use Rattle.std.proofs.Common.{◌≡◌, drop, max, min}
use Rattle.value_model.specs.Kinds.{kinds_depth}
use Rattle.value_model.specs.Trees.{types_of}
use Rattle.value_model.specs.Views.{trees_view}
use Rattle.value_model.proofs.sizes.+node_depth.Given as goal

-- the deepest so far, and the nodes that are left
abbrev pub invariant-nodes_depth-loop-node : goal.invariant-nodes_depth-loop-node
invariant-nodes_depth-loop-node l = max l.deepest (min (kinds_depth (types_of (trees_view (drop l.node-index l.nodes))))
    9) ≡ min (kinds_depth (types_of (trees_view l.nodes))) 9
