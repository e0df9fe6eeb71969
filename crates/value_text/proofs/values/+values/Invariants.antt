use Rattle.std.proofs.Common.{◌≡◌, map, ◌+◌, ◌-◌, ◌*◌}
use Rattle.per_base.specs.FieldLoops.{with_front}
use Rattle.value_model.specs.Views.{tree_of}
use Rattle.value_text.specs.Readers.{separated}
use Rattle.value_text.specs.Parsing.{tree_at}
use Rattle.value_text.proofs.values.+values.Given as goal

abbrev pub decreases-value_at : goal.decreases-value_at
decreases-value_at l = 5 * l.depth

abbrev pub decreases-nodes : goal.decreases-nodes
decreases-nodes l = 5 * l.depth + 1

abbrev pub decreases-items : goal.decreases-items
decreases-items l = 5 * l.depth + 2

abbrev pub decreases-list_value : goal.decreases-list_value
decreases-list_value l = 5 * l.depth + 3

abbrev pub decreases-value_here : goal.decreases-value_here
decreases-value_here l = 5 * l.depth + 4

-- the nodes so far, and those of what is left
abbrev pub invariant-nodes-loop : goal.invariant-nodes-loop
invariant-nodes-loop l = with_front (map tree_of l.nodes.items)
    (separated (tree_at l.depth) l.close (l.most - l.counter) l.rest)
    ≡ separated (tree_at l.depth) l.close l.most l.bytes
