-- An export: which ones there are, the one text of each, and the export that a text spells.
use Rattle.std.specs.Prelude.{◌≤◌, ◌-◌, ◌==◌, ◌&&◌, ℕ, List, [], ◌∷◌, ◌++◌, length, map, Option, Some}
use Rattle.std.specs.Prelude.{nat_le, codes, IsTrue}
use Rattle.std.specs.Int.{w16, w32, to_le_bytes}
use Rattle.std.specs.List.{AllByRecursion, flat_map}
use Rattle.std.specs.List.Sorted.{IsStrictlySortedBy}
use Rattle.std.specs.Str.{bytes_eq}
use Rattle.sha2.specs.Sha256.{sha256}
use Rattle.per_base.specs.declared.elements.Fresh.{Fresh}
use Rattle.per_base.specs.declared.elements.StoreKind.{StoreKind}
use Rattle.per_base.specs.Fields.{◌>>=◌, byte_at, bytes_at, many, number_at, only_if}
use Rattle.per_base.specs.Names.{IsName, name_cmp}
use Rattle.index_text.specs.Reading.{ascends, coded_kind, info_at, len_at, name_at}
use Rattle.index_text.specs.Rules.{InfoIsInRange, has_info, max_len}
use Rattle.index_text.specs.Spelling.{info_text, name_text, store_kind_code}
use Rattle.value_code.specs.Reading.{is_content}
use Rattle.export_text.specs.declared.exports.Export.{Export}
use Rattle.export_text.specs.declared.reading.Header.{Header}
pub use Rattle.export_text.specs.declared.exports.Export.{Export}

-- ---- which exports there are

-- an info exactly for files, no more bytes than the kind allows, and bytes that are a content of it
pub record IsExportable (kind : StoreKind) (f : Fresh) : Type 0 where
  pub info : IsTrue (has_info kind f.info)
  pub len : length f.bytes ≤ max_len kind
  pub content : IsTrue (is_content kind f.bytes)

abbrev pub names_of : List Fresh → List (List ℕ)
names_of contents = map (λ (f : Fresh). f.name) contents

-- elements that can be exported: at most 1024, each as the kind asks, with names that ascend
pub record AreExportable (kind : StoreKind) (contents : List Fresh) : Type 0 where
  pub few : length contents ≤ 1024
  pub each : AllByRecursion (IsExportable kind) contents
  pub ascend : IsStrictlySortedBy name_cmp (names_of contents)

-- a name (1 to 255 ASCII letters, digits or _ - . /) and moments below 2 ^ 64, as every element of the program has them
pub record IsExportedElement (f : Fresh) : Type 0 where
  pub name : IsName f.name
  pub info : InfoIsInRange f.info

pub record IsExport (x : Export) : Type 0 where
  pub rules : AreExportable x.kind x.contents
  pub elements : AllByRecursion IsExportedElement x.contents

-- ---- the text

-- the name, the info of a file, and the bytes under their length
unfoldable pub fresh_text : Fresh → List ℕ
fresh_text f = name_text f.name ++ (info_text f.info ++ (to_le_bytes w32 (length f.bytes) ++ f.bytes))

-- what every export begins with: four letters and the format
abbrev pub mark : List ℕ
mark = codes "PERB" ++ 1 ∷ []

-- the mark, the kind and the number of elements
abbrev pub header_text : StoreKind → ℕ → List ℕ
header_text kind count = mark ++ store_kind_code kind ∷ to_le_bytes w16 count

-- all that the hash is taken of
abbrev pub export_body : Export → List ℕ
export_body x = header_text x.kind (length x.contents) ++ flat_map fresh_text x.contents

-- the text of an export: its body, and the hash of that
unfoldable pub export_text : Export → List ℕ
export_text x = export_body x ++ sha256 (export_body x)

-- ---- the export that a text spells, read from the left

-- that many bytes, which are a content of this kind
unfoldable pub content_at : StoreKind → ℕ → List ℕ → Option (List ℕ × List ℕ)
content_at kind len bytes = do
  content ← bytes_at len bytes
  only_if (is_content kind content.0) content

unfoldable pub fresh_at : StoreKind → List ℕ → Option (Fresh × List ℕ)
fresh_at kind bytes = do
  name ← name_at bytes
  info ← info_at kind name.1
  len ← len_at kind info.1
  content ← content_at kind len.0 len.1
  Some (record { name = name.0; info = info.0; bytes = content.0 }, content.1)

-- what follows the mark
unfoldable pub marked_at : List ℕ → Option (List ℕ)
marked_at bytes = do
  first ← bytes_at 5 bytes
  only_if (bytes_eq first.0 mark) first.1

unfoldable pub header_at : List ℕ → Option (Header × List ℕ)
header_at bytes = do
  marked ← marked_at bytes
  code ← byte_at marked
  kind ← coded_kind code.0
  count ← number_at w16 code.1
  only_if (nat_le count.0 1024) (record { kind = kind; count = count.0 }, count.1)

-- the export of these elements, where their names ascend and nothing follows them
abbrev pub export_by : StoreKind → List Fresh → (rest : List ℕ) → Option Export
export_by kind contents rest = only_if (length rest == 0 && ascends (names_of contents))
    (record { kind = kind; contents = contents })

unfoldable pub body_read : List ℕ → Option Export
body_read body = do
  header ← header_at body
  contents ← many (fresh_at header.0.kind) header.0.count header.1
  export_by header.0.kind contents.0 contents.1

-- what stands before the last 32 bytes, where these are the hash of it
unfoldable pub body_hashed : List ℕ → Option (List ℕ)
body_hashed text = do
  parts ← bytes_at (length text - 32) text
  only_if (bytes_eq parts.1 (sha256 parts.0)) parts.0

unfoldable pub export_of : List ℕ → Option Export
export_of text = do
  body ← body_hashed text
  body_read body

-- what stands before the elements of a text that ends in the hash of the rest
unfoldable pub header_in : List ℕ → Option (Header × List ℕ)
header_in text = do
  body ← body_hashed text
  header_at body
