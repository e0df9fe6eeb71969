use Rattle.std.proofs.Common.{ap, option_map, sym, ◌∙◌}
use Rattle.serde_json.specs.View.{view}
use Rattle.value_model.specs.Views.{kind_of}
use Rattle.per_reasons.proofs.Types.{type_said}
use Rattle.per_reasons.proofs.initials.is_read.Goals as goal

pub has_encoding-requires-clause-typed : goal.has_encoding-requires-clause-typed
has_encoding-requires-clause-typed c = type_said (view c.args.key.now) _
    (sym c.in_ok-value_type.ensures ∙ ap (option_map kind_of) c.in-Some.is)
