use Rattle.std.proofs.Common.{◌≡◌, ◌+◌, List, map, Err, Ok, refl, sym, ap, ◌∙◌, subst, arith}
use Rattle.disk_model.specs.Laws.{elapses_on}
use Rattle.deployment_model.specs.Data.{storage_data}
use Rattle.deployment_model.specs.declared.configs.StorageConfig.{StorageConfig}
use Rattle.deploy_laws.specs.Apps.{app_at}
use Rattle.per_backup.specs.Backups.{exports_of}
use Rattle.per_backup.specs.Clauses.{exported_as}
use Rattle.dump_text.specs.declared.dumps.DumpedStorage.{DumpedStorage}
use Rattle.per_dump.proofs.Active.{dump_of, exported_there, version_dumped}
use Rattle.per_dump.proofs.Looked.{dumping_more, dumping_none, looked_on, rose_on, same_error}
use Rattle.per_dump.proofs.Storages.{AreDumped, dumped_all, dumped_more, dumped_named, dumped_none, dumped_refused}
use Rattle.per_dump.proofs.dumping.dump_version.Goals as goal

pub loop-config-init : goal.loop-config-init
loop-config-init g c =
    let old = g.D.Disk.medium c.args.disk.now in
    let a = app_at old.image c.args.application in
    let configs = c.as_slice-config-items.result.now in (
      dumping_none g.D.Disk.told old (g.met.D.Disk.lawful c.args.disk.now) c.requires.quiet,
      λ tells. subst (λ (ss : List DumpedStorage). AreDumped a configs 0 ss) (sym c.new-storages.ensures.items)
          (dumped_none a configs),
    )

pub returns-in_err-exported-clause-stays : goal.returns-in_err-exported-clause-stays
returns-in_err-exported-clause-stays g c =
    let old = g.D.Disk.medium c.args.disk.now in
    let mid = g.D.Disk.medium c.loop-config.disk in
    let new = g.D.Disk.medium c.export.new.disk in
    looked_on g.D.Disk.told old mid new (g.met.D.Disk.lawful c.loop-config.disk)
    c.loop-config.invariant.0
    c.export.ensures.stays c.export.ensures.time

pub returns-in_err-exported-clause-cause : goal.returns-in_err-exported-clause-cause
returns-in_err-exported-clause-cause g c = λ err.
    let old = g.D.Disk.medium c.args.disk.now in
    let mid = g.D.Disk.medium c.loop-config.disk in
    let new = g.D.Disk.medium c.export.new.disk in
    rose_on g.D.Disk.told old mid new (g.met.D.Disk.lawful c.loop-config.disk)
    c.loop-config.invariant.0
    (c.in_err-exported.ensures.cause
    (same_error c.from_residual.result c.in_err-exported.field-0.0 c.from_residual.ensures.1 _ err))

pub returns-in_err-exported-clause-fed : goal.returns-in_err-exported-clause-fed
returns-in_err-exported-clause-fed g c = λ err.
    c.in_err-exported.ensures.fed
    (same_error c.from_residual.result c.in_err-exported.field-0.0 c.from_residual.ensures.1 _ err)
    ∙ c.loop-config.invariant.0.passes

pub returns-in_err-exported-clause-time : goal.returns-in_err-exported-clause-time
returns-in_err-exported-clause-time g c = elapses_on c.loop-config.invariant.0.time c.export.ensures.time

pub returns-in_err-name-in-Octets-clause-stays : goal.returns-in_err-name-in-Octets-clause-stays
returns-in_err-name-in-Octets-clause-stays g c =
    let old = g.D.Disk.medium c.args.disk.now in
    let mid = g.D.Disk.medium c.loop-config.disk in
    let new = g.D.Disk.medium c.export.new.disk in
    (dumping_more g.D.Disk.told old mid new (g.met.D.Disk.lawful c.loop-config.disk)
    c.loop-config.invariant.0
    c.export.ensures.stays c.in_ok-exported.ensures.quiet c.in_ok-exported.ensures.passes c.export.ensures.time).looks

pub returns-in_err-name-in-Octets-clause-fed : goal.returns-in_err-name-in-Octets-clause-fed
returns-in_err-name-in-Octets-clause-fed g c = λ err.
    let old = g.D.Disk.medium c.args.disk.now in
    let mid = g.D.Disk.medium c.loop-config.disk in
    let new = g.D.Disk.medium c.export.new.disk in
    (dumping_more g.D.Disk.told old mid new (g.met.D.Disk.lawful c.loop-config.disk)
    c.loop-config.invariant.0
    c.export.ensures.stays c.in_ok-exported.ensures.quiet c.in_ok-exported.ensures.passes c.export.ensures.time).passes

pub returns-in_err-name-in-Octets-clause-time : goal.returns-in_err-name-in-Octets-clause-time
returns-in_err-name-in-Octets-clause-time g c =
    let old = g.D.Disk.medium c.args.disk.now in
    let mid = g.D.Disk.medium c.loop-config.disk in
    let new = g.D.Disk.medium c.export.new.disk in
    (dumping_more g.D.Disk.told old mid new (g.met.D.Disk.lawful c.loop-config.disk)
    c.loop-config.invariant.0
    c.export.ensures.stays c.in_ok-exported.ensures.quiet c.in_ok-exported.ensures.passes c.export.ensures.time).time

pub returns-in_err-push-in-Octets-clause-stays : goal.returns-in_err-push-in-Octets-clause-stays
returns-in_err-push-in-Octets-clause-stays g c =
    let old = g.D.Disk.medium c.args.disk.now in
    let mid = g.D.Disk.medium c.loop-config.disk in
    let new = g.D.Disk.medium c.export.new.disk in
    (dumping_more g.D.Disk.told old mid new (g.met.D.Disk.lawful c.loop-config.disk)
    c.loop-config.invariant.0
    c.export.ensures.stays c.in_ok-exported.ensures.quiet c.in_ok-exported.ensures.passes c.export.ensures.time).looks

pub returns-in_err-push-in-Octets-clause-fed : goal.returns-in_err-push-in-Octets-clause-fed
returns-in_err-push-in-Octets-clause-fed g c = λ err.
    let old = g.D.Disk.medium c.args.disk.now in
    let mid = g.D.Disk.medium c.loop-config.disk in
    let new = g.D.Disk.medium c.export.new.disk in
    (dumping_more g.D.Disk.told old mid new (g.met.D.Disk.lawful c.loop-config.disk)
    c.loop-config.invariant.0
    c.export.ensures.stays c.in_ok-exported.ensures.quiet c.in_ok-exported.ensures.passes c.export.ensures.time).passes

pub returns-in_err-push-in-Octets-clause-time : goal.returns-in_err-push-in-Octets-clause-time
returns-in_err-push-in-Octets-clause-time g c =
    let old = g.D.Disk.medium c.args.disk.now in
    let mid = g.D.Disk.medium c.loop-config.disk in
    let new = g.D.Disk.medium c.export.new.disk in
    (dumping_more g.D.Disk.told old mid new (g.met.D.Disk.lawful c.loop-config.disk)
    c.loop-config.invariant.0
    c.export.ensures.stays c.in_ok-exported.ensures.quiet c.in_ok-exported.ensures.passes c.export.ensures.time).time

pub returns-in-Refused-clause-stays : goal.returns-in-Refused-clause-stays
returns-in-Refused-clause-stays g c =
    let old = g.D.Disk.medium c.args.disk.now in
    let mid = g.D.Disk.medium c.loop-config.disk in
    let new = g.D.Disk.medium c.export.new.disk in
    (dumping_more g.D.Disk.told old mid new (g.met.D.Disk.lawful c.loop-config.disk)
    c.loop-config.invariant.0
    c.export.ensures.stays c.in_ok-exported.ensures.quiet c.in_ok-exported.ensures.passes c.export.ensures.time).looks

pub returns-in-Refused-clause-passes : goal.returns-in-Refused-clause-passes
returns-in-Refused-clause-passes g c =
    let old = g.D.Disk.medium c.args.disk.now in
    let mid = g.D.Disk.medium c.loop-config.disk in
    let new = g.D.Disk.medium c.export.new.disk in
    (dumping_more g.D.Disk.told old mid new (g.met.D.Disk.lawful c.loop-config.disk)
    c.loop-config.invariant.0
    c.export.ensures.stays c.in_ok-exported.ensures.quiet c.in_ok-exported.ensures.passes c.export.ensures.time).passes

pub returns-in-Refused-clause-time : goal.returns-in-Refused-clause-time
returns-in-Refused-clause-time g c =
    let old = g.D.Disk.medium c.args.disk.now in
    let mid = g.D.Disk.medium c.loop-config.disk in
    let new = g.D.Disk.medium c.export.new.disk in
    (dumping_more g.D.Disk.told old mid new (g.met.D.Disk.lawful c.loop-config.disk)
    c.loop-config.invariant.0
    c.export.ensures.stays c.in_ok-exported.ensures.quiet c.in_ok-exported.ensures.passes c.export.ensures.time).time

pub returns-in-Refused-clause-texts : goal.returns-in-Refused-clause-texts
returns-in-Refused-clause-texts g c = λ tells.
    let old = g.D.Disk.medium c.args.disk.now in
    let mid = g.D.Disk.medium c.loop-config.disk in
    let a = app_at old.image c.args.application in
    let configs = c.as_slice-config-items.result.now in
    let x = c.config-item.result in
    let exported = exported_there g.D.Disk.told old.image mid.image c.args.application x.name
    c.in_ok-exported.exported tells c.loop-config.invariant.0.looks.image c.in_ok-exported.ensures.answer in
    version_dumped old.image c.args.application c.args.version (c.requires.active tells) (Err c.in-Refused.error)
    (subst (λ (cs : List StorageConfig). exports_of a (map storage_data cs) ≡ Err c.in-Refused.error)
    c.as_slice-config-items.ensures
    (dumped_refused a configs c.loop-config.config-index c.loop-config.storages.items
    (c.loop-config.invariant.1 tells) x (omega arith) c.config-item.is c.in-Refused.error
    (exported ∙ ap exported_as c.in-Refused.is)))

pub loop-config-preserved : goal.loop-config-preserved
loop-config-preserved g c =
    let old = g.D.Disk.medium c.args.disk.now in
    let mid = g.D.Disk.medium c.loop-config.disk in
    let new = g.D.Disk.medium c.export.new.disk in
    let a = app_at old.image c.args.application in
    let configs = c.as_slice-config-items.result.now in
    let x = c.config-item.result in (
      dumping_more g.D.Disk.told old mid new (g.met.D.Disk.lawful c.loop-config.disk)
          c.loop-config.invariant.0
          c.export.ensures.stays c.in_ok-exported.ensures.quiet c.in_ok-exported.ensures.passes c.export.ensures.time,
      λ tells.
          let exported = exported_there g.D.Disk.told old.image mid.image c.args.application x.name
          c.in_ok-exported.exported tells c.loop-config.invariant.0.looks.image c.in_ok-exported.ensures.answer in
          let s : DumpedStorage = record { name = c.in_ok-name-in-Octets.name; text = c.in-Octets.text } in
          subst (λ (ss : List DumpedStorage). AreDumped a configs (c.loop-config.config-index + 1) ss)
          (sym c.in_ok-push-in-Octets.ensures.items)
          (dumped_more a configs c.loop-config.config-index c.loop-config.storages.items
          (c.loop-config.invariant.1 tells) x (omega arith) c.config-item.is s c.in_ok-name-in-Octets.ensures
          (exported ∙ ap exported_as c.in-Octets.is)),
    )

pub returns-clause-texts : goal.returns-clause-texts
returns-clause-texts g c = λ tells.
    let old = g.D.Disk.medium c.args.disk.now in
    let a = app_at old.image c.args.application in
    let configs = c.as_slice-config-items.result.now in
    let texts = map (λ (s : DumpedStorage). s.text) c.loop-config.storages.items in
    version_dumped old.image c.args.application c.args.version (c.requires.active tells) (Ok texts)
    (subst (λ (cs : List StorageConfig). exports_of a (map storage_data cs) ≡ Ok texts)
    c.as_slice-config-items.ensures
    (dumped_all a configs c.loop-config.config-index c.loop-config.storages.items
    (c.loop-config.invariant.1 tells) (omega arith)))

pub returns-clause-active : goal.returns-clause-active
returns-clause-active g c = λ tells.
    let old = g.D.Disk.medium c.args.disk.now in
    let a = app_at old.image c.args.application in
    let configs = c.as_slice-config-items.result.now in
    dump_of old.image c.args.application c.args.version (c.requires.active tells)
    (record { application = c.new.result; manifest = c.args.version.text; storages = c.loop-config.storages })
    c.requires.said c.new.ensures refl
    (dumped_named a configs c.loop-config.config-index c.loop-config.storages.items
    (c.loop-config.invariant.1 tells) (omega arith)
    ∙ ap (map (λ (k : StorageConfig). k.name)) c.as_slice-config-items.ensures)

pub returns-clause-stays : goal.returns-clause-stays
returns-clause-stays g c = c.loop-config.invariant.0.looks

pub returns-clause-quiet : goal.returns-clause-quiet
returns-clause-quiet g c = c.loop-config.invariant.0.quiet

pub returns-clause-passes : goal.returns-clause-passes
returns-clause-passes g c = c.loop-config.invariant.0.passes

pub returns-clause-time : goal.returns-clause-time
returns-clause-time g c = c.loop-config.invariant.0.time
