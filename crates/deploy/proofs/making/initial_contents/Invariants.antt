use Rattle.std.proofs.Common.{◌≡◌, map, take}
use Rattle.per_base.specs.declared.elements.Cause.TheVariants.{Installation}
use Rattle.deployment_model.specs.Data.{storage_data}
use Rattle.deployment_model.specs.declared.configs.StorageConfig.{StorageConfig}
use Rattle.update_plan.specs.Plans.{AllFit}
use Rattle.update_plan.specs.Rows.{initial_contents}
use Rattle.deploy.proofs.making.initial_contents.Given as goal

abbrev pub invariant-loop-storage : goal.invariant-loop-storage
invariant-loop-storage l = record {
  contents : l.all.items ≡ map (λ (x : StorageConfig). initial_contents (storage_data x) Installation l.now)
      (take l.storage-index l.deployment.storages);
  fit : AllFit (map storage_data (take l.storage-index l.deployment.storages)) l.all.items;
}
