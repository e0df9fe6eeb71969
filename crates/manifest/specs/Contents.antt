-- The deployment that a value says, where it breaks no rule.
use Rattle.std.specs.Prelude.{map, false, option_and_then, unwrap_or}
use Rattle.serde_json.specs.Data.{Data}
use Rattle.per_base.specs.declared.elements.Scope.TheVariants as scope
use Rattle.deployment_model.specs.declared.configs.CollectionStrategy.TheVariants as collection
use Rattle.deployment_model.specs.Data.{ElementData, StorageData, DeploymentData}
use Rattle.manifest.specs.Parts.{ListedThing, by_name, storages, elements, name_in, minimum_in, maximum_in}
use Rattle.manifest.specs.Parts.{collection_in}
use Rattle.manifest.specs.Parts.{read_only_in, redundancy_in, agreeing_in, copies_in, scope_in, version_in, strategy_in}
use Rattle.manifest.specs.Parts.{type_for, initial_in}

-- the configured element that this one says
unfoldable pub element_said : ListedThing → ElementData
element_said e = record {
  name = name_in e.1;
  value_type = type_for e;
  initial = initial_in e;
  strategy =
      strategy_in e.1;
}

-- the configured storage that this one says, its elements by name. What is not said: stored elements stay in an update,
-- the storage may be written, and it has one copy, which has to agree, element by element
unfoldable pub storage_said : ListedThing → StorageData
storage_said s = record {
  name = name_in s.1;
  kind = s.0;
  minimum = minimum_in s.1;
  maximum = maximum_in s.1;
  strategy = unwrap_or (collection_in s.1) collection.KeepExisting;
  read_only = unwrap_or (read_only_in s.1) false;
  m = unwrap_or (option_and_then agreeing_in (redundancy_in s.1)) 1;
  n = unwrap_or (option_and_then copies_in (redundancy_in s.1)) 1;
  scope = unwrap_or (option_and_then scope_in (redundancy_in s.1)) scope.Element;
  elements = map element_said (by_name (elements s));
}

-- the deployment that this manifest says, its storages by name
unfoldable pub deployment_said : Data → DeploymentData
deployment_said d = record { version = unwrap_or (version_in d) 0; storages = map storage_said (by_name (storages d)) }
