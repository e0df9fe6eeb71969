use Rattle.std.proofs.Common.{ap, option_map, sym, ◌∙◌}
use Rattle.serde_json.specs.View.{view}
use Rattle.value_model.specs.Views.{kind_of}
use Rattle.manifest.proofs.TypeLaws.{type_said}
use Rattle.manifest.proofs.initials.key_bytes.Goals as goal

pub encoding_as-requires-clause-typed : goal.encoding_as-requires-clause-typed
encoding_as-requires-clause-typed c = type_said (view c.args.key.now) _
    (sym c.in_ok-value_type.ensures ∙ ap (option_map kind_of) c.in-Some.is)
