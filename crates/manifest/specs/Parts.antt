-- The parts of a manifest: its storages, their elements, and what is said of each, with the defaults.
use Rattle.std.specs.Prelude.{ℕ, List, [], ◌∷◌, ◌++◌, length, map, codes, Bool, ◌&&◌, ◌||◌, nat_le, Option, None, Some}
use Rattle.std.specs.Prelude.{option_and_then, unwrap_or, fold, if◌then◌else◌, Result, Ok, Err}
use Rattle.std.specs.List.{list_all, flat_map}
use Rattle.std.specs.Str.{bytes_eq}
use Rattle.std.specs.BTreeMap.{insert_entry}
use Rattle.per_base.specs.Names.{name_cmp}
use Rattle.serde_json.specs.Data.{Data}
use Rattle.serde_json.specs.Find.{get, as_bool}
use Rattle.hex.specs.Hex.{decode_of}
use Rattle.hex.specs.declared.error.FromHexError.{FromHexError}
use Rattle.per_base.specs.declared.elements.StoreKind.{StoreKind}
use Rattle.per_base.specs.declared.elements.StoreKind.TheVariants.{Keys, Files}
use Rattle.per_base.specs.declared.elements.Scope.{Scope}
use Rattle.per_base.specs.declared.elements.Scope.TheVariants as scope
use Rattle.per_base.specs.Maps.{first_row}
use Rattle.value_model.specs.Kinds.{Kind}
use Rattle.value_model.specs.Trees.{Tree, type_of}
use Rattle.value_model.specs.Encoding.{encoding}
use Rattle.value_text.specs.Parsing.{kind_in, value_in}
use Rattle.value_text.specs.Texts.{type_text}
use Rattle.deployment_model.specs.declared.configs.CollectionStrategy.{CollectionStrategy}
use Rattle.deployment_model.specs.declared.configs.CollectionStrategy.TheVariants as collection
use Rattle.deployment_model.specs.declared.configs.ElementStrategy.{ElementStrategy}
use Rattle.deployment_model.specs.declared.configs.ElementStrategy.TheVariants as element
use Rattle.manifest.specs.Values.{small_in, text_in, things_in, whole_in}

-- a storage as the manifest lists it, or one of its elements: whether the storage is of keys or of files, and the JSON
-- value that the storage or element is
abbrev pub ListedThing : Type 0
ListedThing = StoreKind × Data

-- these JSON values, each a storage or an element of this kind
abbrev pub things_of_kind : StoreKind → List Data → List ListedThing
things_of_kind kind things = map (λ d. (kind, d)) things

-- the storages that a manifest lists: those of keys, and then those of files
unfoldable pub storages : Data → List ListedThing
storages d = things_of_kind Keys (things_in (get (codes "keyValueStorages") d))
    ++ things_of_kind Files (things_in (get (codes "fileStorages") d))

-- the member in which a storage of this kind lists its elements
abbrev pub elements_word : StoreKind → List ℕ
elements_word Keys = codes "keyValuePairs"
elements_word Files = codes "files"

-- the elements that a storage lists
unfoldable pub elements : ListedThing → List ListedThing
elements s = things_of_kind s.0 (things_in (get (elements_word s.0) s.1))

-- the elements of all these storages, one storage after another
abbrev pub all_elements : List ListedThing → List ListedThing
all_elements ss = flat_map elements ss

-- the name of a storage or an element; one that is missing is the empty text, which is no name
unfoldable pub name_in : Data → List ℕ
name_in d = unwrap_or (text_in (get (codes "name") d)) []

-- storages or elements by their names, in the order of the names
abbrev pub NamedParts : Type 0
NamedParts = List (List ℕ × ListedThing)

-- with this storage or element put in by its name, in the place of an earlier one with the same name
abbrev pub with_named : NamedParts → ListedThing → NamedParts
with_named found l = insert_entry name_cmp found (name_in l.1) l

-- storages or elements by their names, in the order of the names; of those with one name the last
unfoldable pub named : List ListedThing → NamedParts
named ls = fold with_named [] ls

-- storages or elements in the order of their names; of those with one name the last
abbrev pub by_name : List ListedThing → List ListedThing
by_name ls = map (λ (e : List ℕ × ListedThing). e.1) (named ls)

-- ---- what is said of the manifest as a whole

-- the version, where it is a whole number below 2 ^ 32
unfoldable pub version_in : Data → Option ℕ
version_in d = small_in (get (codes "version") d)

-- ---- what is said of a storage

-- the bytes that the storage needs at least, 0 where nothing is said
unfoldable pub minimum_in : Data → ℕ
minimum_in d = unwrap_or (whole_in (get (codes "minimumSustainedSize") d)) 0

-- the most bytes of its names and contents together, 1 MiB where nothing is said
unfoldable pub maximum_in : Data → ℕ
maximum_in d = unwrap_or (whole_in (get (codes "maximumAllowedSize") d)) 1048576

-- the update strategy of a storage that this word says
unfoldable pub collection_said : List ℕ → Option CollectionStrategy
collection_said word = first_row ((codes "keepExisting", collection.KeepExisting) ∷ (codes "delete", collection.Delete)
    ∷ []) word

-- what must agree in m copies, by this word: each element by itself, or the whole storage
unfoldable pub scope_said : List ℕ → Option Scope
scope_said word = first_row ((codes "element", scope.Element) ∷ (codes "storage", scope.Storage) ∷ []) word

-- the update strategy of an element that this word says
unfoldable pub strategy_said : List ℕ → Option ElementStrategy
strategy_said word = first_row ((codes "keepExisting", element.KeepExisting) ∷ (codes "overwrite", element.Overwrite)
    ∷ (codes "delete", element.Delete) ∷ []) word

-- the update strategy of a storage, where one is said
unfoldable pub collection_in : Data → Option CollectionStrategy
collection_in d = option_and_then collection_said (text_in (get (codes "updateStrategy") d))

-- whether the storage is read-only, where it is said
unfoldable pub read_only_in : Data → Option Bool
read_only_in d = option_and_then as_bool (get (codes "readOnly") d)

-- the member that says how many of how many copies must agree
abbrev pub redundancy_in : Data → Option Data
redundancy_in d = get (codes "redundancy") d

-- of a redundancy, how many copies must agree
unfoldable pub agreeing_in : Data → Option ℕ
agreeing_in r = small_in (get (codes "m") r)

-- of a redundancy, how many copies there are
unfoldable pub copies_in : Data → Option ℕ
copies_in r = small_in (get (codes "n") r)

-- of a redundancy, what must agree
unfoldable pub scope_in : Data → Option Scope
scope_in r = option_and_then scope_said (text_in (get (codes "scope") r))

-- ---- what is said of an element

-- the update strategy of an element, where one is said
unfoldable pub strategy_in : Data → Option ElementStrategy
strategy_in d = option_and_then strategy_said (text_in (get (codes "updateStrategy") d))

-- the type of a key, where it is a type text
unfoldable pub type_in : Data → Option Kind
type_in d = option_and_then kind_in (text_in (get (codes "type") d))

-- the type of an element: of a key what is said, of a file none
abbrev pub type_for : ListedThing → Option Kind
type_for (Keys, d) = type_in d
type_for (Files, d) = None

-- the tree has this type: the two types have one text
abbrev pub is_of_type : Kind → Tree → Bool
is_of_type kind t = bytes_eq (type_text (type_of t)) (type_text kind)

-- the encoding of the tree, where it has this type
abbrev pub encoding_as : Kind → Tree → Option (List ℕ)
encoding_as kind t = if is_of_type kind t then Some (encoding t) else None

-- the encoding of the value of this type that the text spells
unfoldable pub key_bytes : Option Kind → List ℕ → Option (List ℕ)
key_bytes None text = None
key_bytes (Some kind) text = option_and_then (encoding_as kind) (value_in text)

-- a decimal digit (48 to 57), or one of the letters a to f (97 to 102)
abbrev pub is_lower_digit : ℕ → Bool
is_lower_digit b = (nat_le 48 b && nat_le b 57) || (nat_le 97 b && nat_le b 102)

-- the result without its error
abbrev pub ok_of : {A : Type 0} → Result A FromHexError → Option A
ok_of (Ok a) = Some a
ok_of (Err e) = None

-- the most bytes of a file, 1 MiB; no manifest is long enough to say more
abbrev pub file_limit : ℕ
file_limit = 1048576

-- the bytes, where a file may have as many
abbrev pub if_short : List ℕ → Option (List ℕ)
if_short bytes = if nat_le (length bytes) file_limit then Some bytes else None

-- the bytes that lower-case hexadecimal digits spell, two for each
unfoldable pub file_bytes : List ℕ → Option (List ℕ)
file_bytes text = if list_all is_lower_digit text then option_and_then if_short (ok_of (decode_of text)) else None

-- the initial content of the element that this text says: of a key by a value text of its type, of a file by
-- hexadecimal digits
abbrev pub bytes_said : ListedThing → List ℕ → Option (List ℕ)
bytes_said (Keys, d) text = key_bytes (type_in d) text
bytes_said (Files, d) text = file_bytes text

-- what the element starts with: the encoding of a value, or the content of a file; none where nothing that can be read
-- is said
unfoldable pub initial_in : ListedThing → Option (List ℕ)
initial_in e = option_and_then (bytes_said e) (text_in (get (codes "initial") e.1))
