use Rattle.std.proofs.Common.{arith}
use Rattle.value_code.specs.lemmas.ValueLaws.{is_found, is_only}
use Rattle.value_code.proofs.decoding.decode.Goals as goal

pub returns-clause-found : goal.returns-clause-found
returns-clause-found c = is_found c.args.bytes.now c.value_of.result (λ i. omega (arith, c.type_inv.bytes i))
    c.value_of.ensures

pub returns-clause-only : goal.returns-clause-only
returns-clause-only c = is_only c.args.bytes.now c.value_of.result c.value_of.ensures
