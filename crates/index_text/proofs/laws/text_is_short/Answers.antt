use Rattle.index_text.specs.lemmas.Lengths.{text_is_short as law}
use Rattle.index_text.proofs.laws.text_is_short.Goals as goal

pub returns : goal.returns
returns c = law
