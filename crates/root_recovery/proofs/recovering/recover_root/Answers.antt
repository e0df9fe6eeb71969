use Rattle.std.proofs.Common.{◌∙◌, sym}
use Rattle.disk_model.specs.Laws.{elapses_on, rose_before}
use Rattle.deploy_laws.specs.Stands.{ChangesNothing}
use Rattle.root_recovery.specs.Clauses.{IsRecovered, LeavesAll}
use Rattle.root_recovery.specs.Recoveries.{IsRefused, row_answered}
use Rattle.root_recovery.proofs.Synced.{each_ok, on_err, on_ok, passes_on, then_ends, then_keeps, then_leaves}
use Rattle.root_recovery.proofs.Synced.{unsynced_keeps}
use Rattle.root_recovery.proofs.recovering.recover_root.Goals as goal

pub returns-then-is_err-clause-cause : goal.returns-then-is_err-clause-cause
returns-then-is_err-clause-cause g c = λ failed.
    on_err c.sync.result (sym c.if-is_err.ensures.value) c.sync.ensures.cause

pub returns-then-is_err-clause-keeps : goal.returns-then-is_err-clause-keeps
returns-then-is_err-clause-keeps g c = λ tells. unsynced_keeps c.args.app
    (g.D.Disk.medium c.args.disk.now) (g.D.Disk.medium c.sync.new.self)
    (on_err c.sync.result (sym c.if-is_err.ensures.value) c.sync.ensures.failed)

pub returns-clause-ended : goal.returns-clause-ended
returns-clause-ended g c = λ tells.
    let old = g.D.Disk.medium c.args.disk.now in
    let mid = g.D.Disk.medium c.sync.new.self in
    let new = g.D.Disk.medium c.recover_synced.new.disk in
    each_ok (λ recovery. IsRecovered c.args.app (row_answered recovery) mid.image new.image)
    (λ recovery. IsRecovered c.args.app (row_answered recovery) old.image new.image) c.recover_synced.result
    (λ recovery. then_ends g.D.Disk.told old mid new (g.met.D.Disk.lawful c.sync.new.self) c.sync.ensures.time
    c.sync.ensures.writes_nothing (on_ok c.sync.result (sym c.if-is_err.ensures.value) c.sync.ensures.quiet)
    c.recover_synced.ensures.time c.args.app (row_answered recovery))
    (c.recover_synced.ensures.ended tells)

pub returns-clause-refused : goal.returns-clause-refused
returns-clause-refused g c =
    let old = g.D.Disk.medium c.args.disk.now in
    let mid = g.D.Disk.medium c.sync.new.self in
    let new = g.D.Disk.medium c.recover_synced.new.disk in
    each_ok (λ recovery. IsRefused (row_answered recovery) → ChangesNothing mid new)
    (λ recovery. IsRefused (row_answered recovery) → LeavesAll old new) c.recover_synced.result
    (λ recovery given refused. then_leaves g.D.Disk.told old mid new (g.met.D.Disk.lawful c.sync.new.self)
    c.sync.ensures.time c.sync.ensures.writes_nothing
    (on_ok c.sync.result (sym c.if-is_err.ensures.value) c.sync.ensures.quiet) c.recover_synced.ensures.time
    (given refused))
    c.recover_synced.ensures.refused

pub returns-clause-keeps : goal.returns-clause-keeps
returns-clause-keeps g c = λ tells. then_keeps g.D.Disk.told (g.D.Disk.medium c.args.disk.now)
    (g.D.Disk.medium c.sync.new.self) (g.D.Disk.medium c.recover_synced.new.disk)
    (g.met.D.Disk.lawful c.sync.new.self) c.sync.ensures.time c.sync.ensures.writes_nothing
    (on_ok c.sync.result (sym c.if-is_err.ensures.value) c.sync.ensures.quiet) c.recover_synced.ensures.time c.args.app
    (c.recover_synced.ensures.keeps tells)

pub returns-clause-cause : goal.returns-clause-cause
returns-clause-cause g c = λ failed. rose_before _ _ _ c.sync.ensures.time.faults (c.recover_synced.ensures.cause failed)

pub returns-clause-passes : goal.returns-clause-passes
returns-clause-passes g c = passes_on c.recover_synced.result _ _ _
    (on_ok c.sync.result (sym c.if-is_err.ensures.value) c.sync.ensures.passes) c.recover_synced.ensures.passes

pub returns-clause-fed : goal.returns-clause-fed
returns-clause-fed g c = λ starved. c.recover_synced.ensures.fed starved
    ∙ on_ok c.sync.result (sym c.if-is_err.ensures.value) c.sync.ensures.passes

pub returns-clause-time : goal.returns-clause-time
returns-clause-time g c = elapses_on c.sync.ensures.time c.recover_synced.ensures.time
