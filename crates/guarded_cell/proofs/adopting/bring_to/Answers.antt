use Rattle.guarded_cell.proofs.Changing.{brings_reads, brings_later}
use Rattle.guarded_cell.proofs.adopting.bring_to.Goals as goal

pub returns-in_err-stale-clause-brings : goal.returns-in_err-stale-clause-brings
returns-in_err-stale-clause-brings g c = brings_reads c.choose.ensures.time c.choose.ensures.reads

pub returns-in_err-replace-clause-brings : goal.returns-in_err-replace-clause-brings
returns-in_err-replace-clause-brings g c =
    brings_later c.choose.ensures.time c.choose.ensures.reads c.replace.ensures.brings

pub returns-clause-brings : goal.returns-clause-brings
returns-clause-brings g c = brings_later c.choose.ensures.time c.choose.ensures.reads c.replace.ensures.brings
