use Rattle.std.proofs.Common.{◌∙◌, sym}
use Rattle.disk_model.specs.Laws.{elapses_on, rose_before}
use Rattle.deploy_rows.specs.Rows.{AnswersRow}
use Rattle.per_backup.specs.Backups.{restoring}
use Rattle.per_backup.specs.Clauses.{IsAppSeen}
use Rattle.per_backup.proofs.Restored.{restored_before, seen_before, synced_restores, unsynced_restores}
use Rattle.per_backup.proofs.Synced.{each_ok, on_each, on_err, on_ok, passes_on}
use Rattle.per_backup.proofs.restoring.restore.Goals as goal

pub returns-then-is_err-clause-keeps : goal.returns-then-is_err-clause-keeps
returns-then-is_err-clause-keeps g c = λ tells. unsynced_restores c.args.app c.args.manifest.now c.args.texts.now
    (g.D.Disk.medium c.args.disk.now) (g.D.Disk.medium c.sync.new.self)
    (on_err c.sync.result (sym c.if-is_err.ensures.value) c.sync.ensures.failed)

pub returns-then-is_err-clause-cause : goal.returns-then-is_err-clause-cause
returns-then-is_err-clause-cause g c = λ failed.
    on_err c.sync.result (sym c.if-is_err.ensures.value) c.sync.ensures.cause

pub returns-clause-refused : goal.returns-clause-refused
returns-clause-refused g c =
    let old = g.D.Disk.medium c.args.disk.now in
    let mid = g.D.Disk.medium c.sync.new.self in
    each_ok
    (λ refused. (it : _) × IsAppSeen g.D.Disk.told mid.image c.args.app it
    × AnswersRow refused (restoring c.args.manifest.now c.args.texts.now it))
    (λ refused. (it : _) × IsAppSeen g.D.Disk.told old.image c.args.app it
    × AnswersRow refused (restoring c.args.manifest.now c.args.texts.now it))
    c.restore_synced.result
    (λ x given. seen_before g.D.Disk.told c.args.app c.args.manifest.now c.args.texts.now old mid
    (g.D.Disk.medium c.restore_synced.new.disk) c.sync.ensures.writes_nothing.image x given)
    c.restore_synced.ensures.refused

pub returns-clause-restored : goal.returns-clause-restored
returns-clause-restored g c = λ tells. on_each c.restore_synced.result
    (restored_before g.D.Disk.told c.args.app c.args.manifest.now c.args.texts.now (g.D.Disk.medium c.args.disk.now)
    (g.D.Disk.medium c.sync.new.self) (g.D.Disk.medium c.restore_synced.new.disk)
    c.sync.ensures.writes_nothing.image)
    (c.restore_synced.ensures.restored tells)

pub returns-clause-keeps : goal.returns-clause-keeps
returns-clause-keeps g c = λ tells. synced_restores c.args.app c.args.manifest.now c.args.texts.now g.D.Disk.told
    (g.D.Disk.medium c.args.disk.now) (g.D.Disk.medium c.sync.new.self) (g.D.Disk.medium c.restore_synced.new.disk)
    (g.met.D.Disk.lawful c.sync.new.self) c.sync.ensures.time c.sync.ensures.writes_nothing
    (on_ok c.sync.result (sym c.if-is_err.ensures.value) c.sync.ensures.quiet) c.restore_synced.ensures.time
    (c.restore_synced.ensures.keeps tells)

pub returns-clause-cause : goal.returns-clause-cause
returns-clause-cause g c = λ failed. rose_before _ _ _ c.sync.ensures.time.faults
    (c.restore_synced.ensures.cause failed)

pub returns-clause-passes : goal.returns-clause-passes
returns-clause-passes g c = passes_on c.restore_synced.result _ _ _
    (on_ok c.sync.result (sym c.if-is_err.ensures.value) c.sync.ensures.passes) c.restore_synced.ensures.passes

pub returns-clause-fed : goal.returns-clause-fed
returns-clause-fed g c = λ starved. c.restore_synced.ensures.fed starved
    ∙ on_ok c.sync.result (sym c.if-is_err.ensures.value) c.sync.ensures.passes

pub returns-clause-time : goal.returns-clause-time
returns-clause-time g c = elapses_on c.sync.ensures.time c.restore_synced.ensures.time
