-- A key: an element without an info. What is on the disk is judged: bytes that encode no value are unreadable, and no
-- salvage.
use Rattle.std.specs.Prelude.{◌≡◌, ℕ, ◌≤◌, List, length, map, cond, Option, None, Some, IsTrue}
use Rattle.per_base.specs.declared.elements.Content.{Content}
use Rattle.per_base.specs.declared.elements.Content.TheVariants.{Good, Bad}
use Rattle.per_base.specs.declared.elements.Element.{Element}
use Rattle.per_base.specs.declared.elements.Entry.{Entry}
use Rattle.per_base.specs.Maps.{Map}
use Rattle.per_base.specs.Contents.{HasLength}
use Rattle.value_model.specs.Encoding.{encoding}
use Rattle.value_model.specs.Trees.{Tree}
use Rattle.value_model.specs.Validity.{IsValue}
use Rattle.value_code.specs.Reading.{decoded}
pub use Rattle.value_code.specs.Reading.{is_encoding}

-- these bytes and this value are of each other: the bytes decode to it, it encodes to them, and it is a valid value
pub record IsStoredValue (bytes : List ℕ) (value : Tree) : Type 0 where
  pub reads : decoded bytes ≡ Some value
  pub writes : bytes ≡ encoding value
  pub valid : IsValue value

-- the readable key with this encoding
abbrev pub key_of : List ℕ → Element
key_of bytes = record { info = None; len = length bytes; content = Good bytes }

-- the bytes of a readable content, or the salvage of an unreadable one, encode a value and are this many; nothing is
-- said of a content without a salvage
abbrev pub Encodes : Content → ℕ → Type 0
Encodes (Good bytes) len = IsTrue (is_encoding bytes) × (length bytes ≡ len)
Encodes (Bad None) len = Unit {0}
Encodes (Bad (Some salvage)) len = IsTrue (is_encoding salvage) × (length salvage ≡ len)

-- an element that is a key: it has no info, and `len` is its length in bytes, that of its encoding or salvage where
-- it has one, at most 65,536
pub record IsKey (key : Element) : Type 0 where
  pub plain : key.info ≡ None
  pub measured : Encodes key.content key.len
  pub small : key.len ≤ 65536

-- ---- what is on the disk

-- what an entry of a storage is beside its name
abbrev pub entry_element : Entry → Element
entry_element entry = record { info = entry.info; len = entry.len; content = entry.content }

-- a salvage that encodes a value; any other is none
abbrev pub judged_salvage : Option (List ℕ) → Option (List ℕ)
judged_salvage None = None
judged_salvage (Some salvage) = cond (is_encoding salvage) (Some salvage) None

-- a content as a session of keys takes it: readable bytes that encode no value are unreadable, and a salvage that
-- encodes none is none
abbrev pub judged_key_content : Content → Content
judged_key_content (Good bytes) = cond (is_encoding bytes) (Good bytes) (Bad None)
judged_key_content (Bad salvage) = Bad (judged_salvage salvage)

-- the element with its content judged so
abbrev pub key_judged : Element → Element
key_judged element = record element { content = judged_key_content element.content }

-- an entry of a storage of keys, not yet judged: it has no info, and its length is that of its bytes or salvage, at
-- most 65,536
pub record IsKeyEntry (entry : Entry) : Type 0 where
  pub plain : entry.info ≡ None
  pub measured : HasLength entry.content entry.len
  pub small : entry.len ≤ 65536

-- the map from the name of each entry to its key, judged
abbrev pub judged_map : List Entry → Map
judged_map entries = map (λ (e : Entry). (e.name, key_judged (entry_element e))) entries

-- the names of entries, in their order
abbrev pub entry_names : List Entry → List (List ℕ)
entry_names entries = map (λ (e : Entry). e.name) entries
