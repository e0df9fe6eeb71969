-- How long a text is, and the index of a storage of a given size.
use Rattle.std.specs.Prelude.{ℕ, ◌+◌, ◌*◌, ◌/◌, List, length, sum_by, Bool, IsTrue, ◌&&◌, ◌==◌, nat_le, nat_lt}
use Rattle.std.specs.Prelude.{if◌then◌else◌}
use Rattle.std.specs.List.{list_all}
use Rattle.per_base.specs.declared.elements.StoreKind.{StoreKind}
use Rattle.per_base.specs.declared.elements.StoreKind.TheVariants.{Keys, Files}
use Rattle.index_text.specs.declared.entries.IndexEntry.{IndexEntry}
use Rattle.index_text.specs.declared.entries.Index.{Index}
use Rattle.index_text.specs.Rules.{blocks_of}
use Rattle.index_text.specs.Spelling.{store_kind_code}

-- the size of a storage with these entries: names and contents, in bytes
abbrev pub size_of : List IndexEntry → ℕ
size_of es = sum_by (λ (e : IndexEntry). length e.name + e.len) es

-- the bytes of an info in a text: three moments of 8 and two causes of 1; a key has none
abbrev pub info_length : StoreKind → ℕ
info_length Keys = 0
info_length Files = 26

-- the bytes of a last change in a text of this format
abbrev pub changed_length : ℕ → ℕ
changed_length format = if format == 2 then 8 else 0

-- the bytes of an entry in a text of this format and kind. The 37 are the length of its name (1), the length of its
-- content (4) and the hash (32); a block number takes 4.
abbrev pub entry_length : ℕ → StoreKind → IndexEntry → ℕ
entry_length format kind e = 37 + info_length kind + changed_length format + length e.name + 4 * length e.blocks

-- the bytes of an index's text; 4 of them stand before the entries
abbrev pub text_length : Index → ℕ
text_length i = 4 + sum_by (entry_length i.format i.kind) i.entries

-- how many blocks of 256 bytes the area of a storage has that allows this many bytes: twice what 1024 contents
-- within this size can take, so that new contents have room beside those that stand
abbrev pub area_blocks : ℕ → ℕ
area_blocks allowed = 2 * (allowed / 256 + 1024)

-- an index of this kind whose names and contents are within the allowed bytes and whose blocks are in the area
abbrev pub fits : StoreKind → ℕ → Index → Bool
fits kind allowed i = store_kind_code i.kind == store_kind_code kind && nat_le (size_of i.entries) allowed
    && list_all (λ b. nat_lt b (area_blocks allowed)) (blocks_of i.entries)

-- `fits`, as a proposition
abbrev pub Fits : StoreKind → ℕ → Index → Type 0
Fits kind allowed i = IsTrue (fits kind allowed i)
