use Rattle.std.proofs.Common.{◌∙◌, ap, sym}
use Rattle.disk_model.specs.Image.{Image}
use Rattle.disk_model.specs.Laws.{elapses_on, rose_before}
use Rattle.deploy_laws.specs.Apps.{app_at}
use Rattle.deploy_rows.specs.Rows.{AnswersRow}
use Rattle.deploy.specs.Views.{versions_say}
use Rattle.per_backup.specs.Backups.{restoring}
use Rattle.per_backup.specs.Clauses.{IsAppSeen}
use Rattle.per_backup.specs.Restores.{IsSaid}
use Rattle.per_backup.proofs.Restored.{nothing_restored, nothing_restores, refused_so, refused_there, restored_before}
use Rattle.per_backup.proofs.Restored.{seen_before, taken_refuses, then_restores}
use Rattle.per_backup.proofs.Stored.{says_of}
use Rattle.per_backup.proofs.Synced.{each_ok, on_each, passes_on}
use Rattle.per_backup.proofs.restoring.restore_synced.Goals as goal

pub returns-in_err-found-clause-keeps : goal.returns-in_err-found-clause-keeps
returns-in_err-found-clause-keeps g c = λ tells. nothing_restores c.storages_stand.ensures c.args.app c.requires
    c.args.manifest.now c.args.texts.now (g.D.Disk.medium c.args.disk.now) (g.D.Disk.medium c.view_versions.new.disk)
    (record {
      image = c.in_err-found.ensures.image;
      written = c.in_err-found.ensures.written;
      idle = c.in_err-found.ensures.idle;
    })

-- the root refuses it

pub returns-in-Some-clause-refused : goal.returns-in-Some-clause-refused
returns-in-Some-clause-refused g c =
    let old = (g.D.Disk.medium c.args.disk.now).image in
    let says = versions_say c.in_ok-found.found in
    let said : IsSaid g.D.Disk.told old c.args.app says =
    λ tells. c.in_ok-found.ensures.says tells ∙ sym (says_of old c.args.app) in
    refused_so c.args.manifest.now c.args.texts.now g.D.Disk.told old c.args.app says said c.in-Some.error
    (taken_refuses c.args.manifest.now c.args.texts.now g.D.Disk.told old c.args.app says said c.in-Some.error
    (sym c.refusal_of.ensures ∙ c.in-Some.is))

pub returns-in-Some-clause-restored : goal.returns-in-Some-clause-restored
returns-in-Some-clause-restored g c = λ tells.
    let old = (g.D.Disk.medium c.args.disk.now).image in
    let says = versions_say c.in_ok-found.found in
    let said : IsSaid g.D.Disk.told old c.args.app says =
    λ tells. c.in_ok-found.ensures.says tells ∙ sym (says_of old c.args.app) in
    nothing_restored c.storages_stand.ensures c.args.app c.requires c.args.manifest.now c.args.texts.now
    (g.D.Disk.medium c.args.disk.now) (g.D.Disk.medium c.view_versions.new.disk)
    (record {
      image = c.in_ok-found.ensures.image;
      written = c.in_ok-found.ensures.written;
      idle = c.in_ok-found.ensures.idle;
    }) c.in-Some.error
    (refused_there c.args.manifest.now c.args.texts.now g.D.Disk.told old c.args.app says said c.in-Some.error
    (taken_refuses c.args.manifest.now c.args.texts.now g.D.Disk.told old c.args.app says said c.in-Some.error
    (sym c.refusal_of.ensures ∙ c.in-Some.is)) tells)

pub returns-in-Some-clause-keeps : goal.returns-in-Some-clause-keeps
returns-in-Some-clause-keeps g c = λ tells. nothing_restores c.storages_stand.ensures c.args.app c.requires
    c.args.manifest.now c.args.texts.now (g.D.Disk.medium c.args.disk.now) (g.D.Disk.medium c.view_versions.new.disk)
    (record {
      image = c.in_ok-found.ensures.image;
      written = c.in_ok-found.ensures.written;
      idle = c.in_ok-found.ensures.idle;
    })

-- nothing is installed

pub restore_free-requires-clause-free : goal.restore_free-requires-clause-free
restore_free-requires-clause-free g c =
    let old = (g.D.Disk.medium c.args.disk.now).image in (
      versions_say c.in_ok-found.found,
      (λ tells. c.in_ok-found.ensures.says tells ∙ sym (says_of old c.args.app)
          ∙ ap (λ (im : Image). (app_at im c.args.app).says) (sym c.in_ok-found.ensures.image)),
      sym c.refusal_of.ensures ∙ c.in-None.is,
    )

pub returns-clause-refused : goal.returns-clause-refused
returns-clause-refused g c =
    let old = g.D.Disk.medium c.args.disk.now in
    let mid = g.D.Disk.medium c.view_versions.new.disk in
    each_ok
    (λ refused. (it : _) × IsAppSeen g.D.Disk.told mid.image c.args.app it
    × AnswersRow refused (restoring c.args.manifest.now c.args.texts.now it))
    (λ refused. (it : _) × IsAppSeen g.D.Disk.told old.image c.args.app it
    × AnswersRow refused (restoring c.args.manifest.now c.args.texts.now it))
    c.restore_free.result
    (λ x given. seen_before g.D.Disk.told c.args.app c.args.manifest.now c.args.texts.now old mid
    (g.D.Disk.medium c.restore_free.new.disk) c.in_ok-found.ensures.image x given)
    c.restore_free.ensures.refused

pub returns-clause-restored : goal.returns-clause-restored
returns-clause-restored g c = λ tells. on_each c.restore_free.result
    (restored_before g.D.Disk.told c.args.app c.args.manifest.now c.args.texts.now (g.D.Disk.medium c.args.disk.now)
    (g.D.Disk.medium c.view_versions.new.disk) (g.D.Disk.medium c.restore_free.new.disk)
    c.in_ok-found.ensures.image)
    (c.restore_free.ensures.restored tells)

pub returns-clause-keeps : goal.returns-clause-keeps
returns-clause-keeps g c = λ tells. then_restores c.storages_stand.ensures c.args.app c.requires
    c.args.manifest.now c.args.texts.now (g.D.Disk.medium c.args.disk.now) (g.D.Disk.medium c.view_versions.new.disk)
    (g.D.Disk.medium c.restore_free.new.disk) c.in_ok-found.ensures.time
    (record {
      image = c.in_ok-found.ensures.image;
      written = c.in_ok-found.ensures.written;
      idle = c.in_ok-found.ensures.idle;
    }) c.restore_free.ensures.time (c.restore_free.ensures.keeps tells)

pub returns-clause-cause : goal.returns-clause-cause
returns-clause-cause g c = λ failed. rose_before _ _ _ c.in_ok-found.ensures.time.faults
    (c.restore_free.ensures.cause failed)

pub returns-clause-passes : goal.returns-clause-passes
returns-clause-passes g c = passes_on c.restore_free.result _ _ _ c.in_ok-found.ensures.passes
    c.restore_free.ensures.passes

pub returns-clause-fed : goal.returns-clause-fed
returns-clause-fed g c = λ starved. c.restore_free.ensures.fed starved ∙ c.in_ok-found.ensures.passes

pub returns-clause-time : goal.returns-clause-time
returns-clause-time g c = elapses_on c.in_ok-found.ensures.time c.restore_free.ensures.time
