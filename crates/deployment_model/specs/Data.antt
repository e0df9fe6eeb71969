-- Deployments as plain data, without where they are in memory: what two deployments that say the same have in common.
use Rattle.std.specs.Prelude.{ℕ, List, map, Bool, Option, option_map}
use Rattle.per_base.specs.declared.elements.StoreKind.{StoreKind}
use Rattle.per_base.specs.declared.elements.Scope.{Scope}
use Rattle.value_model.specs.Kinds.{Kind}
use Rattle.value_model.specs.Views.{kind_of}
use Rattle.deployment_model.specs.declared.configs.CollectionStrategy.{CollectionStrategy}
use Rattle.deployment_model.specs.declared.configs.ElementStrategy.{ElementStrategy}
use Rattle.deployment_model.specs.declared.configs.ElementConfig.{ElementConfig}
use Rattle.deployment_model.specs.declared.configs.StorageConfig.{StorageConfig}
use Rattle.deployment_model.specs.declared.configs.Deployment.{Deployment}

-- a configured key or file, with the fields of `ElementConfig`; a name and an initial content are lists of bytes
pub record ElementData : Type 0 where
  pub name : List ℕ
  pub value_type : Option Kind
  pub initial : Option (List ℕ)
  pub strategy : Option ElementStrategy

-- a configured storage, with the fields of `StorageConfig`: sizes in bytes, elements ascending by name, and how many
-- (m) of how many copies (n) must agree
pub record StorageData : Type 0 where
  pub name : List ℕ
  pub kind : StoreKind
  pub minimum : ℕ
  pub maximum : ℕ
  pub strategy : CollectionStrategy
  pub read_only : Bool
  pub m : ℕ
  pub n : ℕ
  pub scope : Scope
  pub elements : List ElementData

-- the storages of one version of an application, ascending by name
pub record DeploymentData : Type 0 where
  pub version : ℕ
  pub storages : List StorageData

-- what a configured element of the code says
abbrev pub element_data : ElementConfig → ElementData
element_data e = record {
  name = e.name;
  value_type = option_map kind_of e.value_type;
  initial = e.initial;
  strategy =
      e.strategy;
}

-- what a configured storage of the code says
abbrev pub storage_data : StorageConfig → StorageData
storage_data s = record {
  name = s.name;
  kind = s.kind;
  minimum = s.minimum;
  maximum = s.maximum;
  strategy = s.strategy;
  read_only = s.read_only;
  m = s.m;
  n = s.n;
  scope = s.scope;
  elements = map element_data s.elements;
}

-- what a deployment of the code says
abbrev pub deployment_data : Deployment → DeploymentData
deployment_data d = record { version = d.version; storages = map storage_data d.storages }
