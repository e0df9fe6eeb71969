use Rattle.guarded_cell.proofs.Changing.{brings_reads, brings_later}
use Rattle.guarded_cell.proofs.adopting.adopt_in.Goals as goal

pub returns-in_err-lacking-clause-brings : goal.returns-in_err-lacking-clause-brings
returns-in_err-lacking-clause-brings g c = brings_reads c.choose.ensures.time c.choose.ensures.reads

pub returns-in_err-bring_to-clause-brings : goal.returns-in_err-bring_to-clause-brings
returns-in_err-bring_to-clause-brings g c =
    brings_later c.choose.ensures.time c.choose.ensures.reads c.bring_to.ensures.brings

pub returns-clause-brings : goal.returns-clause-brings
returns-clause-brings g c = brings_later c.choose.ensures.time c.choose.ensures.reads c.bring_to.ensures.brings
