use Rattle.std.proofs.Common.{sym, ◌∙◌, true≢false}
use Rattle.per_reasons.proofs.Things.{value_none, value_read}
use Rattle.per_reasons.proofs.json.value_of.Goals as goal

pub returns-in-Ok : goal.returns-in-Ok
returns-in-Ok c = value_read _ _ c.in-Ok.ensures.ok.0 c.in-Ok.ensures.ok.1

pub returns-else-is_memory : goal.returns-else-is_memory
returns-else-is_memory c = value_none _ (c.in-Err.ensures.err
    (λ memory. true≢false (sym (c.is_memory.ensures.1 memory) ∙ c.if-is_memory.false)))
