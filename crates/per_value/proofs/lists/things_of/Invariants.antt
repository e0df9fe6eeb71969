use Rattle.std.proofs.Common.{◌≡◌, ◌++◌, drop, map}
use Rattle.value_model.specs.Validity.{AllOf, AllTyped}
use Rattle.value_model.specs.Views.{tree_of, trees_view}
use Rattle.per_value.proofs.lists.things_of.Given as goal

-- the trees so far, and the nodes that are left, which have the type and are well typed
abbrev pub invariant-loop-node : goal.invariant-loop-node
invariant-loop-node g l = record {
  made : map g.T.PerValue.tree l.things.items ++ map tree_of (drop l.node-index l.nodes) ≡ map tree_of l.nodes;
  of_type : AllOf g.T.PerValue.kind (trees_view (drop l.node-index l.nodes));
  typed : AllTyped (trees_view (drop l.node-index l.nodes));
}
