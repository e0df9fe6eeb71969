-- What a deployment says of a storage's name, and a storage of an element's.
use Rattle.std.specs.Prelude.{ℕ, List, Option, option_and_then, find, position}
use Rattle.std.specs.Str.{bytes_eq}
use Rattle.deployment_model.specs.Data.{ElementData, StorageData, DeploymentData}

-- the element of the storage that is configured by this name, where there is one
abbrev pub element_named : StorageData → List ℕ → Option ElementData
element_named s name = find (λ (e : ElementData). bytes_eq e.name name) s.elements

-- what the element of this name starts with, where it is configured and has an initial content
abbrev pub initial_content : StorageData → List ℕ → Option (List ℕ)
initial_content s name = option_and_then (λ (e : ElementData). e.initial) (element_named s name)

-- the storage of this name, where the deployment has one
abbrev pub storage_named : DeploymentData → List ℕ → Option StorageData
storage_named d name = find (λ (s : StorageData). bytes_eq s.name name) d.storages

-- the number of the storage of this name: its place in the list of storages, from 0
abbrev pub storage_number : DeploymentData → List ℕ → Option ℕ
storage_number d name = position (λ (s : StorageData). bytes_eq s.name name) d.storages
