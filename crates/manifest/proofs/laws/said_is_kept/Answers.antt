use Rattle.manifest.proofs.Said.{said_keeps, said_shortly}
use Rattle.manifest.proofs.laws.said_is_kept.Goals as goal

pub returns-clause-keeps : goal.returns-clause-keeps
returns-clause-keeps c = said_keeps

pub returns-clause-short : goal.returns-clause-short
returns-clause-short c = said_shortly
