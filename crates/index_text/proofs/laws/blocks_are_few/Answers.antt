use Rattle.index_text.specs.lemmas.Lengths.{blocks_are_few as law}
use Rattle.index_text.proofs.laws.blocks_are_few.Goals as goal

pub returns : goal.returns
returns c = law
