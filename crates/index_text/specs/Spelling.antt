-- The one text of each index. Numbers stand with their lowest byte first.
use Rattle.std.specs.Prelude.{ℕ, List, [], ◌∷◌, ◌++◌, length, Option, Some, None, ◌==◌, if◌then◌else◌}
use Rattle.std.specs.List.{flat_map}
use Rattle.std.specs.Int.{w16, w32, w64, to_le_bytes}
use Rattle.per_base.specs.declared.elements.Cause.{Cause}
use Rattle.per_base.specs.declared.elements.Cause.TheVariants.{Installation, Update, Reset, Recovery, Application}
use Rattle.per_base.specs.declared.elements.StoreKind.{StoreKind}
use Rattle.per_base.specs.declared.elements.StoreKind.TheVariants.{Keys, Files}
use Rattle.per_base.specs.declared.elements.FileInfo.{FileInfo}
use Rattle.index_text.specs.declared.entries.IndexEntry.{IndexEntry}
use Rattle.index_text.specs.declared.entries.Index.{Index}

-- the byte that denotes a kind of storage
abbrev pub store_kind_code : StoreKind → ℕ
store_kind_code Keys = 1
store_kind_code Files = 2

-- the byte that denotes what caused the creation or last modification of a file
abbrev pub cause_code : Cause → ℕ
cause_code Installation = 1
cause_code Update = 2
cause_code Reset = 3
cause_code Recovery = 4
cause_code Application = 5

-- one byte of length, and the name
abbrev pub name_text : List ℕ → List ℕ
name_text name = length name ∷ name

-- three moments in eight bytes each, and two causes in one byte each
abbrev pub file_info_text : FileInfo → List ℕ
file_info_text i = to_le_bytes w64 i.created ++ (to_le_bytes w64 i.modified
    ++ (to_le_bytes w64 i.accessed ++ cause_code i.creation ∷ cause_code i.modification ∷ []))

-- an info, and nothing for a key
abbrev pub info_text : Option FileInfo → List ℕ
info_text None = []
info_text (Some i) = file_info_text i

-- format 2 has the generation of the last change, in eight bytes; format 1 has none
abbrev pub changed_text : ℕ → ℕ → List ℕ
changed_text format changed = if format == 2 then to_le_bytes w64 changed else []

-- an entry in this format: name, info, last change, length of the content in four bytes, its hash, and the number of
-- each of its blocks in four bytes
unfoldable pub entry_text : ℕ → IndexEntry → List ℕ
entry_text format e = name_text e.name ++ (info_text e.info
    ++ (changed_text format e.changed ++ (to_le_bytes w32 e.len ++ (e.hash ++ flat_map (to_le_bytes w32) e.blocks))))

-- format and kind in one byte each, and the number of entries in two
abbrev pub header_text : ℕ → StoreKind → ℕ → List ℕ
header_text format kind count = format ∷ store_kind_code kind ∷ to_le_bytes w16 count

-- the text of an index: what stands before the entries, and the entries in their order
unfoldable pub index_text : Index → List ℕ
index_text i = header_text i.format i.kind (length i.entries) ++ flat_map (entry_text i.format) i.entries
