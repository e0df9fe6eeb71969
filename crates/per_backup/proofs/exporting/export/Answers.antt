-- The disk is synchronised, and then the storage is read; where the sync fails nothing is.
use Rattle.std.proofs.Common.{◌≡◌, ◌∙◌, sym}
use Rattle.disk_model.specs.Laws.{elapses_on, rose_before}
use Rattle.run_model.specs.Lives.{looks_unsynced}
use Rattle.per_backup.specs.Backups.{exporting}
use Rattle.per_backup.specs.Clauses.{IsAppSeen, exported_as}
use Rattle.per_backup.proofs.Synced.{each_ok, on_err, on_ok, passes_on, then_looks, then_seen}
use Rattle.per_backup.proofs.exporting.export.Goals as goal

pub returns-then-is_err-clause-stays : goal.returns-then-is_err-clause-stays
returns-then-is_err-clause-stays g c = looks_unsynced (g.D.Disk.medium c.args.disk.now)
    (g.D.Disk.medium c.sync.new.self)
    (on_err c.sync.result (sym c.if-is_err.ensures.value) c.sync.ensures.failed)

pub returns-then-is_err-clause-cause : goal.returns-then-is_err-clause-cause
returns-then-is_err-clause-cause g c = λ failed.
    on_err c.sync.result (sym c.if-is_err.ensures.value) c.sync.ensures.cause

pub returns-clause-answer : goal.returns-clause-answer
returns-clause-answer g c =
    let old = g.D.Disk.medium c.args.disk.now in
    let mid = g.D.Disk.medium c.sync.new.self in
    each_ok
    (λ x. (it : _) × IsAppSeen g.D.Disk.told mid.image c.args.app it × (exported_as x ≡ exporting it c.args.name.now))
    (λ x. (it : _) × IsAppSeen g.D.Disk.told old.image c.args.app it × (exported_as x ≡ exporting it c.args.name.now))
    c.export_synced.result
    (λ x given. (
      given.0,
      then_seen g.D.Disk.told old mid (g.D.Disk.medium c.export_synced.new.disk) (g.met.D.Disk.lawful c.sync.new.self)
          c.sync.ensures.time c.sync.ensures.writes_nothing
          (on_ok c.sync.result (sym c.if-is_err.ensures.value) c.sync.ensures.quiet) c.export_synced.ensures.time
          c.args.app given.0 given.1,
      given.2,
    ))
    c.export_synced.ensures.answer

pub returns-clause-stays : goal.returns-clause-stays
returns-clause-stays g c = then_looks g.D.Disk.told (g.D.Disk.medium c.args.disk.now) (g.D.Disk.medium c.sync.new.self)
    (g.D.Disk.medium c.export_synced.new.disk) (g.met.D.Disk.lawful c.sync.new.self) c.sync.ensures.time
    c.sync.ensures.writes_nothing (on_ok c.sync.result (sym c.if-is_err.ensures.value) c.sync.ensures.quiet)
    c.export_synced.ensures.time
    (record {
      image = c.export_synced.ensures.image;
      written = c.export_synced.ensures.written;
      idle = c.export_synced.ensures.idle;
    })

pub returns-clause-cause : goal.returns-clause-cause
returns-clause-cause g c = λ failed. rose_before _ _ _ c.sync.ensures.time.faults (c.export_synced.ensures.cause failed)

pub returns-clause-passes : goal.returns-clause-passes
returns-clause-passes g c = passes_on c.export_synced.result _ _ _
    (on_ok c.sync.result (sym c.if-is_err.ensures.value) c.sync.ensures.passes) c.export_synced.ensures.passes

pub returns-clause-fed : goal.returns-clause-fed
returns-clause-fed g c = λ starved. c.export_synced.ensures.fed starved
    ∙ on_ok c.sync.result (sym c.if-is_err.ensures.value) c.sync.ensures.passes

pub returns-clause-time : goal.returns-clause-time
returns-clause-time g c = elapses_on c.sync.ensures.time c.export_synced.ensures.time
