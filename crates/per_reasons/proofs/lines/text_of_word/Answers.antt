use Rattle.std.proofs.Common.{string_bytes}
use Rattle.per_reasons.proofs.Results.{if_ok}
use Rattle.per_reasons.proofs.Wrong.{wrong}
use Rattle.per_reasons.proofs.lines.text_of_word.Goals as goal

pub returns-in-None : goal.returns-in-None
returns-in-None c = if_ok c.format-in-None.result _ _
    (λ text is. wrong _ _ _ (string_bytes text) c.in-None.ensures.none is) c.format-in-None.ensures.ok
