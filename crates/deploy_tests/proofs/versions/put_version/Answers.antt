use Rattle.std.proofs.Common.{◌≡◌, ◌<◌, List, length, get_or, subst, arith}
use Rattle.deployment_model.specs.declared.configs.StorageConfig.{StorageConfig}
use Rattle.deploy_tests.proofs.Configs.{few_storages, storage_of}
use Rattle.deploy_tests.proofs.versions.put_version.Goals as goal

pub put_storage-requires-clause-number : goal.put_storage-requires-clause-number
put_storage-requires-clause-number c =
    let within : c.loop-config.config-index < length c.args.version.now.storages =
    subst (λ (ds : List StorageConfig). c.loop-config.config-index < length ds) c.as_slice-config-items.ensures
    c.loop-config-test.true in
    let few = few_storages c.args.version.now c.requires.version in
    omega (arith, within, few, c.loop-config.invariant.number)

pub put_storage-requires-clause-config : goal.put_storage-requires-clause-config
put_storage-requires-clause-config c =
    let within : c.loop-config.config-index < length c.args.version.now.storages =
    subst (λ (ds : List StorageConfig). c.loop-config.config-index < length ds) c.as_slice-config-items.ensures
    c.loop-config-test.true in
    let here : c.config-item.result ≡ get_or c.args.version.now.storages c.loop-config.config-index
    c.config-item.result =
    subst (λ (ds : List StorageConfig). c.config-item.result
    ≡ get_or ds c.loop-config.config-index c.config-item.result) c.as_slice-config-items.ensures c.config-item.is
    in
    storage_of c.args.version.now c.loop-config.config-index c.config-item.result c.requires.version within here
