use Rattle.std.proofs.Common.{◌≡◌, map, take}
use Rattle.deployment_model.specs.Data.{storage_data}
use Rattle.manifest.specs.Contents.{storage_said}
use Rattle.manifest.specs.Views.{listed_views}
use Rattle.manifest.proofs.building.storage_configs.Given as goal

abbrev pub invariant-loop-storage : goal.invariant-loop-storage
invariant-loop-storage l = map storage_data l.configs.items
    ≡ map storage_said (listed_views (take l.storage-index l.storages))
