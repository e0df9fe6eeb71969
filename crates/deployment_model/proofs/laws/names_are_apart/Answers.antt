use Rattle.deployment_model.specs.Data.{StorageData}
use Rattle.deployment_model.proofs.Found.{found_by_name, place_by_name}
use Rattle.deployment_model.proofs.laws.names_are_apart.Goals as goal

pub returns : goal.returns
returns c = λ d i s ok at. (
  found_by_name (λ (s : StorageData). s.name) d.storages ok.ascends i s at,
  place_by_name (λ (s : StorageData). s.name) d.storages ok.ascends i s at,
)
