use Rattle.std.proofs.Common.{◌≡◌, rules}
use Rattle.std.specs.Prelude.{string_bytes}
use Rattle.serde_json.specs.Data.{string}
use Rattle.serde_json.specs.View.{view}
use Rattle.serde_json.specs.declared.value.Value.{String, the_lemmas}
use Rattle.dump_text.proofs.Read.{key_read}
use Rattle.dump_text.proofs.keys.key_value.Goals as goal

pub returns-in_ok-print_value-in-Ok-clause-read : goal.returns-in_ok-print_value-in-Ok-clause-read
returns-in_ok-print_value-in-Ok-clause-read c =
    let text = c.in_ok-print_value-in-Ok.field-0 in
    let seen : view (String text) ≡ string (string_bytes text) = search (rules, the_lemmas) in
    let value = c.in-Ok.ensures.found in
    key_read c.in-Ok.value c.args.bytes.now (string_bytes text) (view (String text)) seen
    c.in_ok-print_value-in-Ok.ensures (c.read_value_is_exact.ensures.again c.in-Ok.value value.0) value.1
