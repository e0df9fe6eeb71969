use Rattle.std.proofs.Common.{ap, option_map, string_bytes, sym, ◌∙◌}
use Rattle.serde_json.specs.View.{view}
use Rattle.per_reasons.proofs.Dumped.{said_of}
use Rattle.per_reasons.proofs.Results.{if_ok}
use Rattle.per_reasons.proofs.dumps.why_no_dump.Goals as goal

pub returns-in-Some-string_at : goal.returns-in-Some-string_at
returns-in-Some-string_at c = if_ok c.why_no_value.result _ _
    (λ why said. said_of why string_bytes c.args.text.now c.in-Some-string_at.string.now (view c.in-Some-2.dump)
    (sym c.in_ok-dump.ensures ∙ ap (option_map view) c.in-Some-2.is) c.in-Some-string_at.ensures said)
    c.why_no_value.ensures
