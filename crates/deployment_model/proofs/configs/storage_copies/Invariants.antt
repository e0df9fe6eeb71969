use Rattle.std.proofs.Common.{◌≡◌, take, map}
use Rattle.deployment_model.specs.Data.{storage_data}
use Rattle.deployment_model.proofs.configs.storage_copies.Given as goal

abbrev pub invariant-loop-storage : goal.invariant-loop-storage
invariant-loop-storage l = map storage_data l.copies.items ≡ map storage_data (take l.storage-index l.storages)
