use Rattle.value_text.specs.lemmas.Words.{stripped}
use Rattle.per_reasons.proofs.parts.after.Goals as goal

pub returns : goal.returns
returns c = stripped c.args.word.now c.args.text.now c.strip_prefix.result c.strip_prefix.ensures.cases
