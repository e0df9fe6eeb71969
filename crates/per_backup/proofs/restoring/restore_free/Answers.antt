use Rattle.std.proofs.Common.{Err, List, refl, subst}
use Rattle.disk_model.specs.Laws.{elapses_none, idle_none}
use Rattle.per_backup.specs.Backups.{made_from}
use Rattle.per_backup.specs.Restores.{IfHeld, IsReadyToInstall}
use Rattle.per_backup.proofs.Lists.{err_so, ok_so}
use Rattle.per_backup.proofs.Restored.{made_refuses, nothing_restored, nothing_restores, on_both, ready_answers}
use Rattle.per_backup.proofs.Restored.{ready_keeps, ready_restored, refused_so, refused_there}
use Rattle.std.proofs.lemmas.Result.{IfOk-weaker}
use Rattle.std.specs.Prelude.{◌≡◌, ℕ, IfOk}
use Rattle.per_backup.proofs.restoring.restore_free.Goals as goal

-- memory ran out

pub returns-in_err-ready-clause-keeps : goal.returns-in_err-ready-clause-keeps
returns-in_err-ready-clause-keeps g c = λ tells. nothing_restores c.storages_stand.ensures c.args.app c.requires.app
    c.args.manifest.now c.args.texts.now (g.D.Disk.medium c.args.disk.now) (g.D.Disk.medium c.args.disk.now)
    (record {
      image = refl;
      written = refl;
      idle = λ quiet. idle_none (g.met.D.Disk.lawful c.args.disk.now) quiet;
    })

pub returns-in_err-ready-clause-time : goal.returns-in_err-ready-clause-time
returns-in_err-ready-clause-time g c = elapses_none (g.met.D.Disk.lawful c.args.disk.now)

-- the manifest or a text refuses it

pub returns-in-Err-clause-refused : goal.returns-in-Err-clause-refused
returns-in-Err-clause-refused g c =
    let old = (g.D.Disk.medium c.args.disk.now).image in
    let free = c.requires.free in
    let refusal = err_so c.in_ok-ready.field-0 c.in-Err.error
    (λ e. (g : ℕ) → made_from c.args.manifest.now c.args.texts.now g ≡ Err e) c.in-Err.is
    c.in_ok-ready.ensures.refused in
    refused_so c.args.manifest.now c.args.texts.now g.D.Disk.told old c.args.app free.0 free.1 c.in-Err.error
    (made_refuses c.args.manifest.now c.args.texts.now g.D.Disk.told old c.args.app free.0 free.1 free.2
    c.in-Err.error refusal)

pub returns-in-Err-clause-restored : goal.returns-in-Err-clause-restored
returns-in-Err-clause-restored g c = λ tells.
    let old = (g.D.Disk.medium c.args.disk.now).image in
    let free = c.requires.free in
    let refusal = err_so c.in_ok-ready.field-0 c.in-Err.error
    (λ e. (g : ℕ) → made_from c.args.manifest.now c.args.texts.now g ≡ Err e) c.in-Err.is
    c.in_ok-ready.ensures.refused in
    nothing_restored c.storages_stand.ensures c.args.app c.requires.app c.args.manifest.now c.args.texts.now
    (g.D.Disk.medium c.args.disk.now) (g.D.Disk.medium c.args.disk.now)
    (record {
      image = refl;
      written = refl;
      idle = λ quiet. idle_none (g.met.D.Disk.lawful c.args.disk.now) quiet;
    }) c.in-Err.error
    (refused_there c.args.manifest.now c.args.texts.now g.D.Disk.told old c.args.app free.0 free.1 c.in-Err.error
    (made_refuses c.args.manifest.now c.args.texts.now g.D.Disk.told old c.args.app free.0 free.1 free.2
    c.in-Err.error refusal) tells)

pub returns-in-Err-clause-keeps : goal.returns-in-Err-clause-keeps
returns-in-Err-clause-keeps g c = λ tells. nothing_restores c.storages_stand.ensures c.args.app c.requires.app
    c.args.manifest.now c.args.texts.now (g.D.Disk.medium c.args.disk.now) (g.D.Disk.medium c.args.disk.now)
    (record {
      image = refl;
      written = refl;
      idle = λ quiet. idle_none (g.met.D.Disk.lawful c.args.disk.now) quiet;
    })

pub returns-in-Err-clause-time : goal.returns-in-Err-clause-time
returns-in-Err-clause-time g c = elapses_none (g.met.D.Disk.lawful c.args.disk.now)

-- it is installed

pub install_ready-requires-clause-version : goal.install_ready-requires-clause-version
install_ready-requires-clause-version g c = (ok_so c.in_ok-ready.field-0 c.in-Ok.ready
    (IsReadyToInstall c.args.manifest.now c.args.texts.now) c.in-Ok.is c.in_ok-ready.ensures.ready).version

pub install_ready-requires-clause-fit : goal.install_ready-requires-clause-fit
install_ready-requires-clause-fit g c = (ok_so c.in_ok-ready.field-0 c.in-Ok.ready
    (IsReadyToInstall c.args.manifest.now c.args.texts.now) c.in-Ok.is c.in_ok-ready.ensures.ready).fit

pub returns-clause-refused : goal.returns-clause-refused
returns-clause-refused g c =
    let old = (g.D.Disk.medium c.args.disk.now).image in
    let ready = ok_so c.in_ok-ready.field-0 c.in-Ok.ready
    (IsReadyToInstall c.args.manifest.now c.args.texts.now) c.in-Ok.is c.in_ok-ready.ensures.ready in
    IfOk-weaker c.install_ready.result _ _
    (λ o given. ready_answers c.args.manifest.now c.args.texts.now g.D.Disk.told old c.args.app given.0 given.1
    c.in-Ok.ready ready o given.2) c.install_ready.ensures.refused

pub returns-clause-restored : goal.returns-clause-restored
returns-clause-restored g c = λ tells.
    let ready = ok_so c.in_ok-ready.field-0 c.in-Ok.ready
    (IsReadyToInstall c.args.manifest.now c.args.texts.now) c.in-Ok.is c.in_ok-ready.ensures.ready in
    on_both c.install_ready.result
    (ready_restored c.args.manifest.now c.args.texts.now g.D.Disk.told c.args.app c.in-Ok.ready ready
    (g.D.Disk.medium c.args.disk.now) (g.D.Disk.medium c.install_ready.new.disk) c.requires.free tells)
    (c.install_ready.ensures.app tells) (c.install_ready.ensures.clean tells)

pub returns-clause-keeps : goal.returns-clause-keeps
returns-clause-keeps g c = λ tells.
    let ready = ok_so c.in_ok-ready.field-0 c.in-Ok.ready
    (IsReadyToInstall c.args.manifest.now c.args.texts.now) c.in-Ok.is c.in_ok-ready.ensures.ready in
    ready_keeps c.args.manifest.now c.args.texts.now g.D.Disk.told c.args.app c.in-Ok.ready ready
    (g.D.Disk.medium c.args.disk.now) (g.D.Disk.medium c.install_ready.new.disk) c.requires.free tells
    c.install_ready.ensures.outside (c.install_ready.ensures.any_moment tells)

pub returns-clause-held : goal.returns-clause-held
returns-clause-held g c = subst
    (λ (m : List ℕ). IfOk c.install_ready.result (IfHeld g.D.Disk.told (g.D.Disk.medium c.install_ready.new.disk).image
    c.args.app m))
    (ok_so c.in_ok-ready.field-0 c.in-Ok.ready (λ r. r.version.text ≡ c.args.manifest.now) c.in-Ok.is
    c.in_ok-ready.ensures.text)
    c.install_ready.ensures.held
