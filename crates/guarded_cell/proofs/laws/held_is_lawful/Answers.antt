use Rattle.guarded_cell.specs.lemmas.HeldLaws.{stands_standing, is_lacking}
use Rattle.guarded_cell.specs.lemmas.ShownLaws.{held_shows, standing_chosen}
use Rattle.guarded_cell.proofs.AloneLaws.{alone_shows, same_held, same_standing, standing_among_held}
use Rattle.guarded_cell.proofs.laws.held_is_lawful.Goals as goal

pub returns-clause-held : goal.returns-clause-held
returns-clause-held c = held_shows

pub returns-clause-standing : goal.returns-clause-standing
returns-clause-standing c = standing_chosen

pub returns-clause-among : goal.returns-clause-among
returns-clause-among c = standing_among_held

pub returns-clause-alone : goal.returns-clause-alone
returns-clause-alone c = alone_shows

pub returns-clause-stands : goal.returns-clause-stands
returns-clause-stands c = stands_standing

pub returns-clause-lacking : goal.returns-clause-lacking
returns-clause-lacking c = is_lacking

pub returns-clause-same_held : goal.returns-clause-same_held
returns-clause-same_held c = λ place old new. same_held place old new

pub returns-clause-same_standing : goal.returns-clause-same_standing
returns-clause-same_standing c = λ place m old new. same_standing place old new m
