use Rattle.std.proofs.Common.{◌≡◌, ◌++◌, drop, string_bytes}
use Rattle.value_model.specs.Views.{trees_view}
use Rattle.value_text.specs.Texts.{values_text, further_values_text}
use Rattle.value_text.proofs.printing.+value_texts.Given as goal

-- the text so far, and the nodes that are left
abbrev pub invariant-push_nodes-loop-node : goal.invariant-push_nodes-loop-node
invariant-push_nodes-loop-node l = string_bytes l.out ++ further_values_text (trees_view (drop l.node-index l.others))
    ≡ string_bytes l.fn.out ++ values_text (trees_view l.nodes)
