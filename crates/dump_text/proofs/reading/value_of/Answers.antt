use Rattle.std.proofs.Common.{true≢false, sym, ◌∙◌}
use Rattle.serde_json.specs.View.{view}
use Rattle.dump_text.proofs.Parts.{json_none, json_read}
use Rattle.dump_text.proofs.reading.value_of.Goals as goal

pub returns-in-Ok : goal.returns-in-Ok
returns-in-Ok c = json_read c.args.text.now c.without_line_feed.result.now (view c.in-Ok.value)
    c.without_line_feed.ensures c.in-Ok.ensures.ok.0 c.in-Ok.ensures.ok.1

pub returns-in_ok-format-in-Err-2 : goal.returns-in_ok-format-in-Err-2
returns-in_ok-format-in-Err-2 c = json_none c.args.text.now c.without_line_feed.result.now c.without_line_feed.ensures
    (c.in-Err.ensures.err (λ memory. true≢false (sym (c.is_memory.ensures.1 memory) ∙ c.if-is_memory.false)))
