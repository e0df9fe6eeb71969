use Rattle.index_text.proofs.Whole.{one_index as law}
use Rattle.index_text.proofs.laws.one_index.Goals as goal

pub returns : goal.returns
returns c = law
