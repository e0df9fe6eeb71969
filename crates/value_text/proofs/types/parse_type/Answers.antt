use Rattle.value_model.specs.Views.{kind_of}
use Rattle.value_text.specs.lemmas.Public.{type_found, type_only}
use Rattle.value_text.proofs.types.parse_type.Goals as goal

pub returns-clause-found : goal.returns-clause-found
returns-clause-found c = type_found kind_of c.args.text.now c.type_in.result c.type_in.ensures

pub returns-clause-only : goal.returns-clause-only
returns-clause-only c = type_only kind_of c.args.text.now c.type_in.result c.type_in.ensures
