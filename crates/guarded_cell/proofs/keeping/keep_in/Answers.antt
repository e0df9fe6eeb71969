use Rattle.disk_model.specs.Laws.{reads_on, elapses_on}
use Rattle.guarded_cell.proofs.Changing.{clears_reads, clears_later}
use Rattle.guarded_cell.proofs.keeping.keep_in.Goals as goal

pub returns-in_err-others-clause-clears : goal.returns-in_err-others-clause-clears
returns-in_err-others-clause-clears g c = clears_reads c.choose.ensures.time c.choose.ensures.reads

pub returns-in_err-stale-clause-clears : goal.returns-in_err-stale-clause-clears
returns-in_err-stale-clause-clears g c = clears_reads (elapses_on c.choose.ensures.time c.choose-2.ensures.time)
    (reads_on c.choose.ensures.time c.choose.ensures.reads c.choose-2.ensures.time c.choose-2.ensures.reads)

pub returns-in_err-blank_both-clause-clears : goal.returns-in_err-blank_both-clause-clears
returns-in_err-blank_both-clause-clears g c = clears_later (elapses_on c.choose.ensures.time c.choose-2.ensures.time)
    (reads_on c.choose.ensures.time c.choose.ensures.reads c.choose-2.ensures.time c.choose-2.ensures.reads)
    c.blank_both.ensures.clears

pub returns-clause-clears : goal.returns-clause-clears
returns-clause-clears g c = clears_later (elapses_on c.choose.ensures.time c.choose-2.ensures.time)
    (reads_on c.choose.ensures.time c.choose.ensures.reads c.choose-2.ensures.time c.choose-2.ensures.reads)
    c.blank_both.ensures.clears
