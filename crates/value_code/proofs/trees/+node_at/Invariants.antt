use Rattle.std.proofs.Common.{◌≡◌, ◌-◌, drop}
use Rattle.value_model.specs.Views.{kind_of, kinds_view, trees_view}
use Rattle.value_code.specs.Reading.{tree_at, trees_at, trees_by}
use Rattle.value_code.proofs.TreeLoops.{trees_with}
use Rattle.value_code.proofs.trees.+node_at.Given as goal

-- the nodes so far, and what is still to read
abbrev pub invariant-items_at-loop : goal.invariant-items_at-loop
invariant-items_at-loop l = trees_with (trees_view l.nodes.items)
    (trees_by (tree_at (kind_of l.item)) (l.count - l.counter) l.rest)
    ≡ trees_by (tree_at (kind_of l.item)) l.count l.bytes

abbrev pub invariant-members_at-loop-value_type : goal.invariant-members_at-loop-value_type
invariant-members_at-loop-value_type l = trees_with (trees_view l.nodes.items)
    (trees_at (kinds_view (drop l.value_type-index l.types)) l.rest) ≡ trees_at (kinds_view l.types) l.bytes
