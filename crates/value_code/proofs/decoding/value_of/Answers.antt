use Rattle.std.proofs.Common.{arith}
use Rattle.value_model.specs.Views.{tree_of}
use Rattle.value_code.specs.lemmas.ValueLaws.{decoded_takes, never_refused}
use Rattle.value_code.proofs.decoding.value_of.Goals as goal

pub returns-in-Err : goal.returns-in-Err
returns-in-Err c =
    let value = decoded_takes c.args.bytes.now (tree_of c.in_ok-node.node) (λ i. omega (arith, c.type_inv.bytes i))
    c.in_ok-node.ensures in
    let refused = c.in-Err.ensures in
    absurd (never_refused c.in-Err.field-0 (tree_of c.in_ok-node.node) value.0 refused.ill_typed refused.too_deep
    refused.too_long refused.no_memory)
