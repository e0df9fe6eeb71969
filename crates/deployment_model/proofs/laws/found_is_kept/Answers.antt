use Rattle.std.specs.Str.{bytes_eq}
use Rattle.deployment_model.specs.Data.{ElementData, StorageData}
use Rattle.deployment_model.specs.Conditions.{IsElement, IsStorage}
use Rattle.deployment_model.proofs.Found.{all_found, place_found}
use Rattle.deployment_model.proofs.laws.found_is_kept.Goals as goal

pub returns-clause-storage : goal.returns-clause-storage
returns-clause-storage c = λ d name s ok e. all_found IsStorage (λ (s : StorageData). bytes_eq s.name name) d.storages
    ok.each s e

pub returns-clause-element : goal.returns-clause-element
returns-clause-element c = λ s name e ok found. all_found (IsElement s.kind) (λ (e : ElementData). bytes_eq e.name name)
    s.elements ok.each e found

pub returns-clause-number : goal.returns-clause-number
returns-clause-number c = λ d name i e. place_found (λ (s : StorageData). bytes_eq s.name name) d.storages i e
