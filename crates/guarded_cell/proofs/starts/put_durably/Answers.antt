use Rattle.std.proofs.Common.{inl, inr, rules}
use Rattle.disk_model.specs.Laws.{elapses_on}
use Rattle.guarded_cell.proofs.Putfronts.{synced_texts}
use Rattle.guarded_cell.proofs.starts.put_durably.Goals as goal

pub returns-in_err-sync-clause-during : goal.returns-in_err-sync-clause-during
returns-in_err-sync-clause-during g c tells quiet =
    synced_texts c.args.place c.args.parity c.args.chosen.now c.args.bytes.now _
    (g.met.D.Disk.lawful c.put_starts.new.disk) c.put_starts.ensures.time c.sync.ensures.time
    (c.put_starts.ensures.during tells quiet) c.sync.ensures.writes_nothing
    (λ x now. inl (c.in_err-sync.ensures.failed.now x now))

pub returns-clause-during : goal.returns-clause-during
returns-clause-during g c tells quiet =
    synced_texts c.args.place c.args.parity c.args.chosen.now c.args.bytes.now _
    (g.met.D.Disk.lawful c.put_starts.new.disk) c.put_starts.ensures.time c.sync.ensures.time
    (c.put_starts.ensures.during tells quiet) c.sync.ensures.writes_nothing
    (λ x now. inr (search rules, c.in_ok-sync.ensures.quiet x now))

pub returns-in_err-sync-clause-time : goal.returns-in_err-sync-clause-time
returns-in_err-sync-clause-time g c = elapses_on c.put_starts.ensures.time c.sync.ensures.time

pub returns-clause-time : goal.returns-clause-time
returns-clause-time g c = elapses_on c.put_starts.ensures.time c.sync.ensures.time

pub returns-in_err-put_starts-clause-faults : goal.returns-in_err-put_starts-clause-faults
returns-in_err-put_starts-clause-faults g c = record { cause = search rules; passes = search rules }

pub returns-in_err-sync-clause-faults : goal.returns-in_err-sync-clause-faults
returns-in_err-sync-clause-faults g c = record { cause = search rules; passes = search rules }

pub returns-clause-faults : goal.returns-clause-faults
returns-clause-faults g c = record { cause = search rules; passes = search rules }
