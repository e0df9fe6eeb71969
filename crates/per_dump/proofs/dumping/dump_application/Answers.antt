-- The disk is synchronised, and then the application is looked at; where the sync fails nothing is.
use Rattle.std.proofs.Common.{◌≡◌, ◌∙◌, sym, subst}
use Rattle.std.specs.Prelude.{IfOk}
use Rattle.disk_model.specs.Image.{Image}
use Rattle.disk_model.specs.Laws.{elapses_on, rose_before}
use Rattle.deploy_laws.specs.Apps.{app_at, says_at}
use Rattle.run_model.specs.Lives.{looks_on, looks_synced, looks_unsynced}
use Rattle.per_backup.specs.Backups.{dumping}
use Rattle.per_dump.specs.Dumps.{IsHeld, IsOfActive, dumped_as}
use Rattle.per_dump.proofs.Looked.{on_err, on_ok, passes_on}
use Rattle.per_dump.proofs.dumping.dump_application.Goals as goal

pub returns-then-is_err-clause-stays : goal.returns-then-is_err-clause-stays
returns-then-is_err-clause-stays g c = looks_unsynced (g.D.Disk.medium c.args.disk.now)
    (g.D.Disk.medium c.sync.new.self)
    (on_err c.sync.result (sym c.if-is_err.ensures.value) c.sync.ensures.failed)

pub returns-then-is_err-clause-cause : goal.returns-then-is_err-clause-cause
returns-then-is_err-clause-cause g c = λ failed.
    on_err c.sync.result (sym c.if-is_err.ensures.value) c.sync.ensures.cause

pub dump_synced-requires-clause-quiet : goal.dump_synced-requires-clause-quiet
dump_synced-requires-clause-quiet g c = on_ok c.sync.result (sym c.if-is_err.ensures.value) c.sync.ensures.quiet

pub returns-clause-texts : goal.returns-clause-texts
returns-clause-texts g c = λ tells. subst (λ (im : Image). IfOk c.dump_synced.result
    (λ x. dumped_as x ≡ dumping (app_at im c.args.application)))
    c.sync.ensures.writes_nothing.image (c.dump_synced.ensures.texts tells)

pub returns-clause-active : goal.returns-clause-active
returns-clause-active g c = λ tells. subst (λ (im : Image). IfOk c.dump_synced.result
    (λ x. IsOfActive c.args.application (says_at im c.args.application) x))
    c.sync.ensures.writes_nothing.image (c.dump_synced.ensures.active tells)

pub returns-clause-held : goal.returns-clause-held
returns-clause-held g c = λ tells. subst (λ (im : Image). IfOk c.dump_synced.result (IsHeld im c.args.application))
    c.sync.ensures.writes_nothing.image (c.dump_synced.ensures.held tells)

pub returns-clause-stays : goal.returns-clause-stays
returns-clause-stays g c = looks_on g.D.Disk.told (g.D.Disk.medium c.args.disk.now) (g.D.Disk.medium c.sync.new.self)
    (g.D.Disk.medium c.dump_synced.new.disk) (g.met.D.Disk.lawful c.sync.new.self) c.sync.ensures.time
    c.dump_synced.ensures.time
    (looks_synced (g.D.Disk.medium c.args.disk.now) (g.D.Disk.medium c.sync.new.self) c.sync.ensures.writes_nothing
    (on_ok c.sync.result (sym c.if-is_err.ensures.value) c.sync.ensures.quiet))
    c.dump_synced.ensures.stays

pub returns-clause-cause : goal.returns-clause-cause
returns-clause-cause g c = λ failed. rose_before _ _ _ c.sync.ensures.time.faults (c.dump_synced.ensures.cause failed)

pub returns-clause-passes : goal.returns-clause-passes
returns-clause-passes g c = passes_on c.dump_synced.result _ _ _
    (on_ok c.sync.result (sym c.if-is_err.ensures.value) c.sync.ensures.passes) c.dump_synced.ensures.passes

pub returns-clause-fed : goal.returns-clause-fed
returns-clause-fed g c = λ starved. c.dump_synced.ensures.fed starved
    ∙ on_ok c.sync.result (sym c.if-is_err.ensures.value) c.sync.ensures.passes

pub returns-clause-time : goal.returns-clause-time
returns-clause-time g c = elapses_on c.sync.ensures.time c.dump_synced.ensures.time
