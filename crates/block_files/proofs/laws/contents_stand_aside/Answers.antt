use Rattle.block_files.specs.lemmas.AsideLaws.{aside}
use Rattle.block_files.proofs.laws.contents_stand_aside.Goals as goal

pub returns : goal.returns
returns c = aside
