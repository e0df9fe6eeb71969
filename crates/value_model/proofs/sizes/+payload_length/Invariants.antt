use Rattle.std.proofs.Common.{◌≡◌, ◌+◌, ◌≤◌, drop, length, min}
use Rattle.value_model.specs.Encoding.{payloads}
use Rattle.value_model.specs.Validity.{AllInRange}
use Rattle.value_model.specs.Views.{trees_view}
use Rattle.value_model.proofs.sizes.+payload_length.Given as goal

-- the length so far, and the nodes that are left
abbrev pub invariant-payloads_length-loop-node : goal.invariant-payloads_length-loop-node
invariant-payloads_length-loop-node l = (min (l.total + length (payloads (trees_view (drop l.node-index l.nodes))))
    65537 ≡ min (length (payloads (trees_view l.nodes))) 65537)
    × ((l.total ≤ 65537) × (AllInRange (trees_view (drop l.node-index l.nodes)) → AllInRange (trees_view l.nodes)))
