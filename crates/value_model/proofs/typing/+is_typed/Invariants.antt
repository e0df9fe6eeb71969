use Rattle.std.proofs.Common.{◌↔◌, drop}
use Rattle.value_model.specs.Validity.{AllTyped}
use Rattle.value_model.specs.Views.{trees_view}
use Rattle.value_model.proofs.typing.+is_typed.Given as goal

-- the nodes that are left decide
abbrev pub invariant-all_typed-loop-node : goal.invariant-all_typed-loop-node
invariant-all_typed-loop-node l = AllTyped (trees_view (drop l.node-index l.nodes)) ↔ AllTyped (trees_view l.nodes)
