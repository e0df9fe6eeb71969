-- The storages of a deployment, by their numbers.
use Rattle.std.proofs.Common.{◌≡◌, ℕ, zero, suc, ◌<◌, ◌≤◌, List, [], ◌∷◌, length, map, get_or, sym, subst, arith}
use Rattle.std.proofs.lemmas.List.{length-map}
use Rattle.std.specs.List.{AllByRecursion}
use Rattle.deployment_model.specs.Conditions.{IsDeployment, IsStorage}
use Rattle.deployment_model.specs.Data.{deployment_data, storage_data}
use Rattle.deployment_model.specs.declared.configs.Deployment.{Deployment}
use Rattle.deployment_model.specs.declared.configs.StorageConfig.{StorageConfig}

-- its storages are at most sixteen
pub few_storages : (d : Deployment) → IsDeployment (deployment_data d) → length d.storages ≤ 16
few_storages d is = let few = is.few in let same = length-map d.storages storage_data in omega (arith, few, same)

one_of : (ds : List StorageConfig) (k : ℕ) (x : StorageConfig) → AllByRecursion IsStorage (map storage_data ds)
    → k < length ds → x ≡ get_or ds k x
    → IsStorage (storage_data x)
one_of [] k x all lt is = absurd (omega (arith, lt))
one_of (d ∷ ds) zero x all lt is = subst (λ (y : StorageConfig). IsStorage (storage_data y)) (sym is) all.0
one_of (d ∷ ds) (suc k) x all lt is = one_of ds k x all.1 (omega (arith, lt)) is

-- each of them is one
pub storage_of : (d : Deployment) (k : ℕ) (x : StorageConfig) → IsDeployment (deployment_data d) → k < length d.storages
    → x ≡ get_or d.storages k x
    → IsStorage (storage_data x)
storage_of d k x is lt here = one_of d.storages k x is.each lt here
