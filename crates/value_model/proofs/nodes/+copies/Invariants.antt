use Rattle.std.proofs.Common.{◌≡◌, ◌++◌, drop, map}
use Rattle.value_model.specs.Views.{tree_of}
use Rattle.value_model.proofs.nodes.+copies.Given as goal

-- the copies, and the nodes that are left
abbrev pub invariant-copies-loop-node : goal.invariant-copies-loop-node
invariant-copies-loop-node l = map tree_of l.all.items ++ map tree_of (drop l.node-index l.nodes) ≡ map tree_of l.nodes
