-- The disk is synchronised, and then the storage is rebuilt; where the sync fails nothing is.
use Rattle.std.proofs.Common.{◌∙◌, sym}
use Rattle.std.specs.Prelude.{IsSome}
use Rattle.disk_model.specs.Laws.{elapses_on, rose_before}
use Rattle.deploy_laws.specs.Stands.{ChangesNothing}
use Rattle.deploy_rows.specs.Rows.{AnswersRow}
use Rattle.run_model.specs.Lives.{LooksOnly}
use Rattle.per_backup.specs.Backups.{importing_into}
use Rattle.per_backup.specs.Clauses.{IsAppSeen}
use Rattle.per_backup.proofs.ImportCosts.{nothing_within, synced_within}
use Rattle.per_backup.proofs.Synced.{each_ok, on_each, on_err, on_ok, passes_on, then_imported, then_keeps, then_looks}
use Rattle.per_backup.proofs.Synced.{then_seen, unsynced_keeps}
use Rattle.per_backup.proofs.importing.import.Goals as goal

pub returns-then-is_err-clause-keeps : goal.returns-then-is_err-clause-keeps
returns-then-is_err-clause-keeps g c = λ tells. unsynced_keeps c.args.app c.args.name.now c.args.bytes.now
    (g.D.Disk.medium c.args.disk.now) (g.D.Disk.medium c.sync.new.self)
    (on_err c.sync.result (sym c.if-is_err.ensures.value) c.sync.ensures.failed)

pub returns-then-is_err-clause-cause : goal.returns-then-is_err-clause-cause
returns-then-is_err-clause-cause g c = λ failed.
    on_err c.sync.result (sym c.if-is_err.ensures.value) c.sync.ensures.cause

pub returns-clause-refused : goal.returns-clause-refused
returns-clause-refused g c =
    let old = g.D.Disk.medium c.args.disk.now in
    let mid = g.D.Disk.medium c.sync.new.self in
    each_ok
    (λ refused. (it : _) × IsAppSeen g.D.Disk.told mid.image c.args.app it
    × AnswersRow refused (importing_into it c.args.name.now c.args.bytes.now))
    (λ refused. (it : _) × IsAppSeen g.D.Disk.told old.image c.args.app it
    × AnswersRow refused (importing_into it c.args.name.now c.args.bytes.now))
    c.import_synced.result
    (λ x given. (
      given.0,
      then_seen g.D.Disk.told old mid (g.D.Disk.medium c.import_synced.new.disk) (g.met.D.Disk.lawful c.sync.new.self)
          c.sync.ensures.time c.sync.ensures.writes_nothing
          (on_ok c.sync.result (sym c.if-is_err.ensures.value) c.sync.ensures.quiet) c.import_synced.ensures.time
          c.args.app given.0 given.1,
      given.2,
    ))
    c.import_synced.ensures.refused

pub returns-clause-unchanged : goal.returns-clause-unchanged
returns-clause-unchanged g c =
    let old = g.D.Disk.medium c.args.disk.now in
    let mid = g.D.Disk.medium c.sync.new.self in
    let new = g.D.Disk.medium c.import_synced.new.disk in
    each_ok (λ refused. IsSome refused → ChangesNothing mid new) (λ refused. IsSome refused → LooksOnly old new)
    c.import_synced.result
    (λ refused given some. then_looks g.D.Disk.told old mid new (g.met.D.Disk.lawful c.sync.new.self)
    c.sync.ensures.time c.sync.ensures.writes_nothing
    (on_ok c.sync.result (sym c.if-is_err.ensures.value) c.sync.ensures.quiet) c.import_synced.ensures.time
    (given some))
    c.import_synced.ensures.unchanged

pub returns-clause-imported : goal.returns-clause-imported
returns-clause-imported g c = λ tells. on_each c.import_synced.result
    (then_imported g.D.Disk.told (g.D.Disk.medium c.args.disk.now) (g.D.Disk.medium c.sync.new.self)
    (g.D.Disk.medium c.import_synced.new.disk) (g.met.D.Disk.lawful c.sync.new.self) c.sync.ensures.time
    c.sync.ensures.writes_nothing (on_ok c.sync.result (sym c.if-is_err.ensures.value) c.sync.ensures.quiet)
    c.import_synced.ensures.time c.args.app c.args.name.now c.args.bytes.now)
    (c.import_synced.ensures.imported tells)

pub returns-clause-keeps : goal.returns-clause-keeps
returns-clause-keeps g c = λ tells. then_keeps g.D.Disk.told (g.D.Disk.medium c.args.disk.now)
    (g.D.Disk.medium c.sync.new.self) (g.D.Disk.medium c.import_synced.new.disk)
    (g.met.D.Disk.lawful c.sync.new.self) c.sync.ensures.time c.sync.ensures.writes_nothing
    (on_ok c.sync.result (sym c.if-is_err.ensures.value) c.sync.ensures.quiet) c.import_synced.ensures.time c.args.app
    c.args.name.now c.args.bytes.now (c.import_synced.ensures.keeps tells)

pub returns-clause-cause : goal.returns-clause-cause
returns-clause-cause g c = λ failed. rose_before _ _ _ c.sync.ensures.time.faults (c.import_synced.ensures.cause failed)

pub returns-clause-passes : goal.returns-clause-passes
returns-clause-passes g c = passes_on c.import_synced.result _ _ _
    (on_ok c.sync.result (sym c.if-is_err.ensures.value) c.sync.ensures.passes) c.import_synced.ensures.passes

pub returns-clause-fed : goal.returns-clause-fed
returns-clause-fed g c = λ starved. c.import_synced.ensures.fed starved
    ∙ on_ok c.sync.result (sym c.if-is_err.ensures.value) c.sync.ensures.passes

pub returns-clause-time : goal.returns-clause-time
returns-clause-time g c = elapses_on c.sync.ensures.time c.import_synced.ensures.time

pub returns-then-is_err-clause-written : goal.returns-then-is_err-clause-written
returns-then-is_err-clause-written g c = λ tells. nothing_within c.args.app c.args.name.now c.args.bytes.now
    (g.D.Disk.medium c.args.disk.now) (g.D.Disk.medium c.sync.new.self)
    (on_err c.sync.result (sym c.if-is_err.ensures.value) c.sync.ensures.failed).written

pub returns-clause-written : goal.returns-clause-written
returns-clause-written g c = λ tells. synced_within c.args.app c.args.name.now c.args.bytes.now
    (g.D.Disk.medium c.args.disk.now) (g.D.Disk.medium c.sync.new.self) (g.D.Disk.medium c.import_synced.new.disk)
    c.sync.ensures.writes_nothing.image c.sync.ensures.writes_nothing.written (c.import_synced.ensures.written tells)
