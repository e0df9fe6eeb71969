use Rattle.value_model.specs.Views.{tree_of}
use Rattle.value_text.specs.lemmas.Public.{refused, kept_value}
use Rattle.value_text.proofs.values.value_of.Goals as goal

pub returns-in-Ok : goal.returns-in-Ok
returns-in-Ok c = kept_value (tree_of c.args.node) _ c.in-Ok.ensures.value.0 c.in-Ok.ensures.value.1

pub returns-in-Err : goal.returns-in-Err
returns-in-Err c = refused (tree_of c.args.node) c.new.result c.in-Err.field-0 c.in-Err.is c.new.ensures.ill_typed
    c.new.ensures.too_deep c.new.ensures.too_long c.new.ensures.no_memory
