-- What every deployment keeps, and every storage of one.
use Rattle.std.specs.Prelude.{◌≡◌, ◌≤◌, ℕ, ◌+◌, List, length, map, sum_by, Bool, true, false, ◌||◌, not, Option, None}
use Rattle.std.specs.Prelude.{Some, is_some, ⊤, IsTrue}
use Rattle.std.specs.List.{AllByRecursion}
use Rattle.std.specs.List.Sorted.{IsStrictlySortedBy}
use Rattle.per_base.specs.declared.elements.StoreKind.{StoreKind}
use Rattle.per_base.specs.declared.elements.StoreKind.TheVariants.{Keys, Files}
use Rattle.per_base.specs.Names.{IsName, name_cmp}
use Rattle.value_model.specs.Kinds.{Kind}
use Rattle.value_model.specs.Trees.{Tree, type_of}
use Rattle.value_model.specs.Encoding.{encoding}
use Rattle.value_model.specs.Validity.{IsValue}
use Rattle.value_text.specs.Types.{IsType}
use Rattle.deployment_model.specs.declared.configs.ElementStrategy.{ElementStrategy}
use Rattle.deployment_model.specs.declared.configs.ElementStrategy.TheVariants.{KeepExisting, Overwrite, Delete}
use Rattle.deployment_model.specs.Data.{ElementData, StorageData, DeploymentData}

-- in a storage of keys an element has a type, one that a value may have; in a storage of files it has none
abbrev pub HasTypeFor : StoreKind → Option Kind → Type 0
HasTypeFor Keys None = ⊥
HasTypeFor Keys (Some k) = IsType k
HasTypeFor Files value_type = value_type ≡ None

-- the bytes are the encoding of a value of this type
pub record IsEncodingOf (k : Kind) (bytes : List ℕ) : Type 0 where
  pub value : Tree
  pub is_value : IsValue value
  pub of_type : type_of value ≡ k
  pub encoded : bytes ≡ encoding value

-- what an element of this kind and type may start with: a key with the encoding of a value of its type, and so with at
-- most 65,536 bytes; a file with at most 1,048,576 bytes, which is the most of any file
abbrev pub IsInitial : StoreKind → Option Kind → List ℕ → Type 0
IsInitial Keys None bytes = ⊥
IsInitial Keys (Some k) bytes = IsEncodingOf k bytes
IsInitial Files value_type bytes = length bytes ≤ 1048576

-- what an element of this kind and type starts with is nothing, or an initial content that it may have
abbrev pub StartsAs : StoreKind → Option Kind → Option (List ℕ) → Type 0
StartsAs kind value_type None = ⊤
StartsAs kind value_type (Some bytes) = IsInitial kind value_type bytes

-- the element's update strategy, where it has one, is that an update gives it its initial content, whatever is stored
abbrev pub overwrites : Option ElementStrategy → Bool
overwrites None = false
overwrites (Some KeepExisting) = false
overwrites (Some Overwrite) = true
overwrites (Some Delete) = false

-- the rules of an element e in a storage of this kind
pub record IsElement (kind : StoreKind) (e : ElementData) : Type 0 where
  pub name : IsName e.name
  pub typed : HasTypeFor kind e.value_type
  pub initial : StartsAs kind e.value_type e.initial
  -- what is overwritten has something to be overwritten with
  pub overwritten : IsTrue (not (overwrites e.strategy) || is_some e.initial)

-- the names of the configured elements, in order
abbrev pub element_names : StorageData → List (List ℕ)
element_names s = map (λ (e : ElementData). e.name) s.elements

-- the bytes that an element takes in its storage at the start: name and content, or nothing without an initial content
abbrev pub start_size : List ℕ → Option (List ℕ) → ℕ
start_size name None = 0
start_size name (Some bytes) = length name + length bytes

-- the bytes that a configured element takes in its storage at the start
abbrev pub initial_size : ElementData → ℕ
initial_size e = start_size e.name e.initial

-- the rules of a storage: its minimum is at most its maximum, which is from 1 byte to 4 MiB; at most 1,024 elements are
-- configured, each name once and ascending
pub record IsStorage (s : StorageData) : Type 0 where
  pub name : IsName s.name
  pub minimum : s.minimum ≤ s.maximum
  pub some_room : 1 ≤ s.maximum
  pub maximum : s.maximum ≤ 4194304
  -- at least one of the copies has to agree, and there are at most 7
  pub some_agree : 1 ≤ s.m
  pub enough_copies : s.m ≤ s.n
  pub copies : s.n ≤ 7
  pub few : length s.elements ≤ 1024
  pub ascends : IsStrictlySortedBy name_cmp (element_names s)
  pub each : AllByRecursion (IsElement s.kind) s.elements
  -- the initial contents fit
  pub fits : sum_by initial_size s.elements ≤ s.maximum

-- the names of the storages, in order
abbrev pub storage_names : DeploymentData → List (List ℕ)
storage_names d = map (λ (s : StorageData). s.name) d.storages

-- the rules of a deployment: its version is not 0, and it has at most 16 storages, each name once and ascending, whose
-- maximums are together at most 16 MiB
pub record IsDeployment (d : DeploymentData) : Type 0 where
  pub version : 1 ≤ d.version
  pub few : length d.storages ≤ 16
  pub ascends : IsStrictlySortedBy name_cmp (storage_names d)
  pub each : AllByRecursion IsStorage d.storages
  pub room : sum_by (λ (s : StorageData). s.maximum) d.storages ≤ 16777216
