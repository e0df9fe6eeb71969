use Rattle.std.proofs.Common.{◌≡◌, ◌++◌, drop, map}
use Rattle.value_model.specs.Trees.{type_of}
use Rattle.value_model.specs.Views.{kind_of, tree_of}
use Rattle.value_model.proofs.typing.+type_of_node.Given as goal

-- the types so far, and the nodes that are left
abbrev pub invariant-types_of_nodes-loop-node : goal.invariant-types_of_nodes-loop-node
invariant-types_of_nodes-loop-node l = map kind_of l.types.items
    ++ map (λ n. type_of (tree_of n)) (drop l.node-index l.nodes) ≡ map (λ n. type_of (tree_of n)) l.nodes
