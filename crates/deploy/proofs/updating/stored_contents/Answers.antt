use Rattle.std.proofs.Common.{◌≡◌, ℕ, IsTrue, ◌+◌, List, length, get_or, ap, sym, ◌∙◌, subst, arith}
use Rattle.deployment_model.specs.Data.{storage_data}
use Rattle.element_state.specs.States.{store_at}
use Rattle.deploy_laws.specs.Places.{storage_shape}
use Rattle.deploy_rows.specs.Rows.{contents_of}
use Rattle.deployment_model.specs.declared.configs.StorageConfig.{StorageConfig}
use Rattle.update_plan.specs.declared.contents.Stored.{Stored}
use Rattle.deploy.proofs.MadeStorages.{storage_keeps}
use Rattle.deploy.proofs.ReadStored.{IsReading, reading_more}
use Rattle.deploy.proofs.updating.stored_contents.Goals as goal

pub read_stored-requires-clause-config : goal.read_stored-requires-clause-config
read_stored-requires-clause-config g c =
    let long = ap length c.as_slice-config-items.ensures in
    let test = c.loop-config-test.true in
    storage_keeps c.args.root.now.active.deployment.storages c.loop-config.config-index c.config-item.result
    c.requires.active.each (omega (arith, long, test))
    (c.config-item.is ∙ ap (λ (xs : List StorageConfig). get_or xs c.loop-config.config-index c.config-item.result)
    c.as_slice-config-items.ensures)

pub loop-config-preserved : goal.loop-config-preserved
loop-config-preserved g c =
    let long = ap length c.as_slice-config-items.ensures in
    let test = c.loop-config-test.true in
    let counts = c.loop-config.invariant.0 in (
      omega (arith, counts),
      subst (λ (xs : List Stored). IsReading g.D.Disk.told c.args.app c.args.root.now.bank
          (c.loop-config.config-index + 1) c.args.root.now.active.deployment xs
          (g.D.Disk.medium c.args.disk.now) (g.D.Disk.medium c.read_stored.new.disk)) (sym c.in_ok-push.ensures.items)
          (reading_more g.D.Disk.told c.args.app c.args.root.now.bank c.loop-config.config-index
          c.args.root.now.active.deployment c.loop-config.contents.items
          (g.D.Disk.medium c.args.disk.now) (g.D.Disk.medium c.loop-config.disk)
          (g.D.Disk.medium c.read_stored.new.disk) c.loop-config.invariant.1 c.in_ok-read_stored.ensures.time
          c.names_are_apart.ensures c.requires.active c.config-item.result (omega (arith, long, test))
          (c.config-item.is ∙ ap (λ (xs : List StorageConfig).
          get_or xs c.loop-config.config-index c.config-item.result) c.as_slice-config-items.ensures)
          c.in_ok-read_stored.field-0 c.in_ok-read_stored.ensures.name
          (subst (λ (n : ℕ). IsTrue g.D.Disk.told → contents_of
          (store_at (g.D.Disk.medium c.loop-config.disk).image
          (storage_shape c.args.app c.args.root.now.bank n (storage_data c.config-item.result)))
          ≡ c.in_ok-read_stored.field-0.contents) counts c.in_ok-read_stored.ensures.contents)
          c.in_ok-read_stored.ensures.some c.in_ok-read_stored.ensures.present
          c.in_ok-read_stored.ensures.image c.in_ok-read_stored.ensures.idle c.in_ok-read_stored.ensures.written
          c.in_ok-read_stored.ensures.passes),
    )
