use Rattle.std.proofs.Common.{rules}
use Rattle.disk_model.specs.Laws.{elapses_on}
use Rattle.guarded_cell.proofs.starts.write_durably.Goals as goal

pub returns-in_err-sync-clause-time : goal.returns-in_err-sync-clause-time
returns-in_err-sync-clause-time g c = elapses_on c.write_starts.ensures.time c.sync.ensures.time

pub returns-clause-time : goal.returns-clause-time
returns-clause-time g c = elapses_on c.write_starts.ensures.time c.sync.ensures.time

pub returns-in_err-write_starts-clause-faults : goal.returns-in_err-write_starts-clause-faults
returns-in_err-write_starts-clause-faults g c = record { cause = search rules; passes = search rules }

pub returns-in_err-sync-clause-faults : goal.returns-in_err-sync-clause-faults
returns-in_err-sync-clause-faults g c = record { cause = search rules; passes = search rules }

pub returns-clause-faults : goal.returns-clause-faults
returns-clause-faults g c = record { cause = search rules; passes = search rules }
