use Rattle.std.proofs.Common.{◌↔◌, drop}
use Rattle.value_model.specs.Validity.{AllOf}
use Rattle.value_model.specs.Views.{kind_of, trees_view}
use Rattle.value_model.proofs.typing.are_items.Given as goal

-- the nodes that are left decide
abbrev pub invariant-loop-node : goal.invariant-loop-node
invariant-loop-node l = AllOf (kind_of l.item) (trees_view (drop l.node-index l.nodes)) ↔ AllOf (kind_of l.item)
    (trees_view l.nodes)
