-- The parts of an application of a dump, and what keeps each that is read.
use Rattle.std.specs.Prelude.{◌≡◌, ◌-◌, ◌&&◌, ℕ, List, [], ◌∷◌, Bool, true, codes, length, map, decimal, nat_le}
use Rattle.std.specs.Prelude.{Option, Some, None}
use Rattle.std.specs.Cmp.Lexicographic.{pointwise}
use Rattle.std.specs.Io.BufRead.{strip_last}
use Rattle.std.specs.List.{AllByRecursion, list_all}
use Rattle.std.specs.Str.{IsUtf8, bytes_eq}
use Rattle.per_base.specs.declared.elements.Fresh.{Fresh}
use Rattle.per_base.specs.declared.elements.StoreKind.{StoreKind}
use Rattle.per_base.specs.declared.elements.StoreKind.TheVariants.{Files, Keys}
use Rattle.per_base.specs.Fields.{◌>>=◌, only_if}
use Rattle.per_base.specs.Names.{NamesAscend, is_name}
use Rattle.index_text.specs.Reading.{ascends}
use Rattle.index_text.specs.Rules.{has_info, max_len}
use Rattle.value_code.specs.Reading.{is_content}
use Rattle.serde_json.specs.Data.{Data}
use Rattle.serde_json.specs.Find.{get}
use Rattle.deployment_model.specs.Conditions.{storage_names}
use Rattle.deployment_model.specs.Data.{DeploymentData}
use Rattle.manifest.specs.Reading.{deployment_in, value_of}
use Rattle.export_text.specs.Exports.{IsExport, export_text, names_of}
use Rattle.export_text.specs.declared.exports.Export.{Export}
use Rattle.dump_text.specs.declared.dumps.DumpedApplication.{DumpedApplication}
use Rattle.dump_text.specs.declared.dumps.DumpedStorage.{DumpedStorage}
use Rattle.dump_text.specs.Elements.{dumped_elements_in, dumped_word, member_object, member_text, only_members}
use Rattle.dump_text.specs.Elements.{read_members}

-- the names of storages of a dump, in their order
abbrev pub dumped_names : List DumpedStorage → List (List ℕ)
dumped_names storages = map (λ (s : DumpedStorage). s.name) storages

-- the texts of its storages, in their order
abbrev pub dumped_texts : DumpedApplication → List (List ℕ)
dumped_texts d = map (λ (s : DumpedStorage). s.text) d.storages.items

-- the text is that of an export
abbrev pub HasExport : DumpedStorage → Type 0
HasExport s = (x : Export) × IsExport x × (s.text ≡ export_text x)

-- the storages are those of the manifest, by their names in order; a text that is no manifest has none
abbrev pub AreSaid : (manifest : List ℕ) → List DumpedStorage → Type 0
AreSaid manifest storages = (d : DeploymentData) → deployment_in manifest ≡ Some d
    → dumped_names storages ≡ storage_names d

-- an application that was read
pub record IsDumped (d : DumpedApplication) : Type 0 where
  pub exports : AllByRecursion HasExport d.storages.items
  pub said : AreSaid d.manifest d.storages.items

-- ---- what a text has: a storage

-- the kind, by the member `keys`, where there is one
abbrev pub kind_by : Option Data → StoreKind
kind_by (Some d) = Keys
kind_by None = Files

-- a storage with the member `keys` is one of keys
abbrev pub kind_in : Data → StoreKind
kind_in d = kind_by (get (codes "keys") d)

-- whether an element may be in an export: a file has an info and a key none, its bytes are not too many, and those of
-- a key encode a value
abbrev pub is_exportable : StoreKind → Fresh → Bool
is_exportable kind f = has_info kind f.info && nat_le (length f.bytes) (max_len kind) && is_content kind f.bytes

-- at most 1024 elements, each named once and in order, none greater than its kind allows
abbrev pub are_exportable : StoreKind → List Fresh → Bool
are_exportable kind contents = nat_le (length contents) 1024 && ascends (names_of contents)
    && list_all (is_exportable kind) contents

-- the text of the export of these elements
unfoldable pub exported_text : StoreKind → List Fresh → Option (List ℕ)
exported_text kind contents = only_if (are_exportable kind contents)
    (export_text (record { kind = kind; contents = contents }))

-- its name and its elements, which are its only member; None where it is no storage
unfoldable pub dumped_storage_in : (name : List ℕ) → Data → Option DumpedStorage
dumped_storage_in name d = do
  members ← member_object (dumped_word (kind_in d)) d
  alone ← only_members 1 d
  known ← only_if (is_name name) name
  contents ← dumped_elements_in (kind_in d) members
  text ← exported_text (kind_in d) contents
  Some (record { name = known; text = text })

-- ---- an application

-- the storages have the names of those of this deployment, in its order; where there is no deployment
-- nothing is asked of them
abbrev pub said_by : Option DeploymentData → List DumpedStorage → Bool
said_by (Some d) storages = pointwise bytes_eq (dumped_names storages) (storage_names d)
said_by None storages = true

-- whether the storages are those of the manifest
unfoldable pub are_said : (manifest : List ℕ) → List DumpedStorage → Bool
are_said manifest storages = said_by (deployment_in manifest) storages

-- what a dump has of an application
pub record ApplicationData : Type 0 where
  pub number : ℕ
  pub manifest : List ℕ
  pub storages : List DumpedStorage

-- the data of an application of the code
abbrev pub application_data : DumpedApplication → ApplicationData
application_data d = record { number = d.application; manifest = d.manifest; storages = d.storages.items }

-- the number of an application, which is one digit from 0 to 7, in ASCII 48 to 55
abbrev pub application_number : (name : List ℕ) → Option ℕ
application_number [] = None
application_number (digit ∷ []) = only_if (nat_le 48 digit && nat_le digit 55) (digit - 48)
application_number (digit ∷ other ∷ more) = None

-- its manifest, and its storages by their names
unfoldable pub dumped_parts_in : Data → Option (List ℕ × List DumpedStorage)
dumped_parts_in d = do
  manifest ← member_text (codes "manifest") d
  members ← member_object (codes "storages") d
  storages ← read_members dumped_storage_in members
  alone ← only_members 2 d
  only_if (are_said manifest storages) (manifest, storages)

-- an application, whose member has its number as its name
unfoldable pub dumped_application_in : (name : List ℕ) → Data → Option ApplicationData
dumped_application_in name d = do
  number ← application_number name
  parts ← dumped_parts_in d
  Some (record { number = number; manifest = parts.0; storages = parts.1 })

-- ---- a dump

-- the applications by their numbers, in the order of the text
unfoldable pub dump_of : Data → Option (List ApplicationData)
dump_of d = do
  format ← member_text (codes "format") d
  marked ← only_if (bytes_eq format (codes "per dump 1")) d
  members ← member_object (codes "applications") marked
  alone ← only_members 2 d
  read_members dumped_application_in members

-- the JSON of a text, with or without a line feed at its end
unfoldable pub json_in : (text : List ℕ) → Option Data
json_in text = value_of (strip_last 10 text)

-- the applications that a text has as a dump, where it is one: each storage and each element that stands in it
unfoldable pub dump_in : (text : List ℕ) → Option (List ApplicationData)
dump_in text = do
  d ← json_in text
  dump_of d

-- ---- which applications are written, and so that they are read back

-- its manifest is UTF-8, and the text of each storage that of an export
pub record IsDumpable (d : DumpedApplication) : Type 0 where
  pub manifest : IsUtf8 d.manifest
  pub exports : AllByRecursion HasExport d.storages.items

-- its storages are named once and in order, and are those of its manifest
pub record IsInOrder (d : DumpedApplication) : Type 0 where
  pub ascend : NamesAscend (λ (s : DumpedStorage). s.name) d.storages.items
  pub said : AreSaid d.manifest d.storages.items

-- each application is there once, in the order of their numbers
pub record AreInOrder (applications : List DumpedApplication) : Type 0 where
  pub ascend : NamesAscend (λ (d : DumpedApplication). decimal d.application) applications
  pub each : AllByRecursion IsInOrder applications
