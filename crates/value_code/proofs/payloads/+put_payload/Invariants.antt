use Rattle.std.proofs.Common.{◌≡◌, ◌≤◌, ◌++◌, drop, length}
use Rattle.value_model.specs.Encoding.{payloads}
use Rattle.value_model.specs.Validity.{AllTyped}
use Rattle.value_model.specs.Views.{trees_view}
use Rattle.value_code.proofs.payloads.+put_payload.Given as goal

-- the payloads so far, and those of the nodes that are left
abbrev pub invariant-put_payloads-loop-node : goal.invariant-put_payloads-loop-node
invariant-put_payloads-loop-node l = record {
  written : l.out.items ++ payloads (trees_view (drop l.node-index l.nodes))
      ≡ l.fn.out.items ++ payloads (trees_view l.nodes);
  typed : AllTyped (trees_view (drop l.node-index l.nodes));
  short : length (payloads (trees_view (drop l.node-index l.nodes))) ≤ 65536;
}
