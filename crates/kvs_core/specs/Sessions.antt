-- A session of keys: the configuration of its storage, and two maps.
use Rattle.std.specs.Prelude.{◌≡◌, ◌≤◌}
use Rattle.per_base.specs.declared.elements.StoreKind.TheVariants.{Keys}
use Rattle.per_base.specs.Maps.{Map, size_of}
use Rattle.deployment_model.specs.Conditions.{IsStorage}
use Rattle.deployment_model.specs.Data.{StorageData}
use Rattle.key_maps.specs.TwoMaps.{TwoMaps}

-- what contracts see of an open storage of keys
pub record Session : Type 0 where
  -- how the storage is configured
  pub config : StorageData
  -- what is on the disk, a map from names to keys
  pub synced : Map
  -- what the calls see, with the changes that are pending
  pub visible : Map

-- the storage is one of keys, and neither map takes more bytes than it is allowed (`maximum`)
pub record HasRoom (config : StorageData) (maps : TwoMaps) : Type 0 where
  pub configured : IsStorage config
  pub of_keys : config.kind ≡ Keys
  pub synced : size_of maps.synced ≤ config.maximum
  pub visible : size_of maps.visible ≤ config.maximum
