use Rattle.value_code.specs.lemmas.ValueLaws.{typed_fits}
use Rattle.value_code.proofs.encoding.encode.Goals as goal

pub put_type-requires : goal.put_type-requires
put_type-requires c = record {
  fits = rw c.in_ok-value_type.ensures
      (typed_fits c.args.value.now c.node-node.ensures.valid.typed);
}
