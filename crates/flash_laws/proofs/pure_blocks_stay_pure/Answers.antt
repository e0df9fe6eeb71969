use Rattle.flash_laws.proofs.Left.{pure_stands, stays_agreed, stays_pure, throughout_agrees}
use Rattle.flash_laws.proofs.pure_blocks_stay_pure.Goals as goal

pub returns-clause-pure : goal.returns-clause-pure
returns-clause-pure c old new n loses pure = stays_pure old new loses n pure

pub returns-clause-agree : goal.returns-clause-agree
returns-clause-agree c old new n loses agree = stays_agreed old new loses n agree

pub returns-clause-stand : goal.returns-clause-stand
returns-clause-stand c = pure_stands

pub returns-clause-agreed : goal.returns-clause-agreed
returns-clause-agreed c = throughout_agrees
