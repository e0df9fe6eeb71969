-- The rows by which each name of a storage that is installed or updated gets its content.
use Rattle.std.specs.Prelude.{ℕ, List, filter_map, Bool, true, false, Option, Some, None}
use Rattle.per_base.specs.declared.elements.Cause.{Cause}
use Rattle.per_base.specs.declared.elements.Entry.{Entry}
use Rattle.per_base.specs.declared.elements.FileInfo.{FileInfo}
use Rattle.per_base.specs.declared.elements.Fresh.{Fresh}
use Rattle.per_base.specs.declared.elements.StoreKind.{StoreKind}
use Rattle.per_base.specs.declared.elements.StoreKind.TheVariants.{Keys, Files}
use Rattle.file_core.specs.Infos.{made}
use Rattle.deployment_model.specs.Data.{ElementData, StorageData}
use Rattle.deployment_model.specs.declared.configs.CollectionStrategy.{CollectionStrategy}
use Rattle.deployment_model.specs.declared.configs.CollectionStrategy.TheVariants as collection
use Rattle.deployment_model.specs.declared.configs.ElementStrategy.{ElementStrategy}
use Rattle.deployment_model.specs.declared.configs.ElementStrategy.TheVariants as own

-- what a name gets: nothing, these bytes as its initial content, or what is stored
pub data Row : Type 0 where
  nothing : Row
  initial : List ℕ → Row
  kept : Entry → Row

-- whether what is stored is to be kept: by the element's own strategy, or else by the storage's
abbrev pub keeps : Option ElementStrategy → CollectionStrategy → Bool
keeps (Some own.KeepExisting) c = true
keeps (Some own.Overwrite) c = false
keeps (Some own.Delete) c = false
keeps None collection.KeepExisting = true
keeps None collection.Delete = false

-- the initial bytes, if there are some, and else nothing
abbrev pub initial_or : Option (List ℕ) → Row
initial_or None = nothing
initial_or (Some bytes) = initial bytes

-- what is stored, if it is there and to be kept, and else the other row
abbrev pub kept_or : Option Entry → Bool → Row → Row
kept_or None keep row = row
kept_or (Some e) true row = kept e
kept_or (Some e) false row = row

-- by the element's own strategy, that of its storage, the initial content and what is stored: delete gives
-- nothing; overwrite the initial content; what is stored and to be kept stays; else the initial content, if there is
-- one
abbrev pub row_by : Option ElementStrategy → CollectionStrategy → Option (List ℕ) → Option Entry → Row
row_by (Some own.Delete) c bytes stored = nothing
row_by (Some own.Overwrite) c bytes stored = initial_or bytes
row_by (Some own.KeepExisting) c bytes stored = kept_or stored true (initial_or bytes)
row_by None c bytes stored = kept_or stored (keeps None c) (initial_or bytes)

-- ---- over empty contents

-- a file that is made has an info with this cause and moment, and a key none
abbrev pub made_info : StoreKind → Cause → ℕ → Option FileInfo
made_info Keys cause now = None
made_info Files cause now = Some (made now cause)

-- the element of this name that is made of a row over empty contents, if one is
abbrev pub started : StoreKind → Cause → ℕ → List ℕ → Row → Option Fresh
started kind cause now name nothing = None
started kind cause now name (initial bytes) = Some (record {
  name = name;
  info = made_info kind cause now;
  bytes =
      bytes;
})
started kind cause now name (kept e) = None

-- what an element of a storage is at the start, by its configuration, if it is there
abbrev pub start_of : StorageData → Cause → ℕ → ElementData → Option Fresh
start_of s cause now e = started s.kind cause now e.name (row_by e.strategy s.strategy e.initial None)

-- what a storage has at the start, in the order of its configured elements, with this cause and moment in the infos of
-- files
abbrev pub initial_contents : StorageData → Cause → ℕ → List Fresh
initial_contents s cause now = filter_map (start_of s cause now) s.elements
