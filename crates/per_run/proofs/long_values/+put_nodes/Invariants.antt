use Rattle.std.proofs.Common.{drop}
use Rattle.value_model.specs.Views.{trees_view}
use Rattle.value_text.specs.Texts.{values_text, further_values_text}
use Rattle.per_run.proofs.Behind.{Putting}
use Rattle.per_run.proofs.long_values.+put_nodes.Given as goal

-- the texts that were put, and those that are left
abbrev pub invariant-put_items-loop-node : goal.invariant-put_items-loop-node
invariant-put_items-loop-node g l = Putting (g.K.Sink.written l.fn.sink) (g.K.Sink.written l.sink) l.fn.waiting.items
    l.waiting.items (values_text (trees_view l.nodes)) (further_values_text (trees_view (drop l.node-index l.others)))
    (g.K.Sink.faults l.fn.sink) (g.K.Sink.faults l.sink)
