use Rattle.root_text.proofs.RootFields.{root_taken, root_again, root_is, root_short}
use Rattle.root_text.proofs.laws.one_root.Goals as goal

pub returns-clause-taken : goal.returns-clause-taken
returns-clause-taken c = λ text r fits e. root_taken text r fits e

pub returns-clause-again : goal.returns-clause-again
returns-clause-again c = λ r is. root_again c.said_is_kept.ensures.short r is

pub returns-clause-is_root : goal.returns-clause-is_root
returns-clause-is_root c = λ text r e. root_is text r e

pub returns-clause-short : goal.returns-clause-short
returns-clause-short c = λ r is. root_short c.said_is_kept.ensures.short r is
