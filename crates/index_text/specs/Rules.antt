-- The rules that an index keeps.
use Rattle.std.specs.Prelude.{◌≡◌, ◌≤◌, ◌<◌, ℕ, ◌^◌, List, length, map, Bool, ◌||◌, ◌==◌, nat_eq, Option}
use Rattle.std.specs.Prelude.{None, Some, is_none, is_some, ⊤, IsTrue}
use Rattle.std.specs.List.{flat_map, AllByRecursion, IsDistinct}
use Rattle.std.specs.List.Sorted.{IsStrictlySortedBy}
use Rattle.per_base.specs.declared.elements.StoreKind.{StoreKind}
use Rattle.per_base.specs.declared.elements.StoreKind.TheVariants.{Keys, Files}
use Rattle.per_base.specs.declared.elements.FileInfo.{FileInfo}
use Rattle.per_base.specs.Names.{IsName, name_cmp}
use Rattle.per_base.specs.Contents.{blocks_for}
use Rattle.index_text.specs.declared.entries.IndexEntry.{IndexEntry}
use Rattle.index_text.specs.declared.entries.Index.{Index}

-- the most bytes of a content: 64 KiB for the value of a key, 1 MiB for a file
abbrev pub max_len : StoreKind → ℕ
max_len Keys = 65536
max_len Files = 1048576

-- an info exactly for files
abbrev pub has_info : StoreKind → Option FileInfo → Bool
has_info Keys info = is_none info
has_info Files info = is_some info

-- the formats are 1 and 2
abbrev pub is_format : ℕ → Bool
is_format format = format == 1 || format == 2

-- in format 1 no element has the generation of its last change: it stands as 0
abbrev pub has_changed : ℕ → ℕ → Bool
has_changed format changed = format == 2 || changed == 0

-- an entry that an index of this format and kind may have: a name (1 to 255 ASCII letters, digits or _ - . /), a
-- content within the limit of the kind, its hash of 32 bytes, and a block for each 256 bytes of it, the last of which
-- it may fill in part
pub record IsEntry (format : ℕ) (kind : StoreKind) (e : IndexEntry) : Type 0 where
  pub name : IsName e.name
  pub info : IsTrue (has_info kind e.info)
  pub changed : IsTrue (has_changed format e.changed)
  pub len : e.len ≤ max_len kind
  pub hash : length e.hash ≡ 32
  pub blocks : length e.blocks ≡ blocks_for e.len

-- the names, in the order of the entries
abbrev pub names_of : List IndexEntry → List (List ℕ)
names_of es = map (λ (e : IndexEntry). e.name) es

-- the blocks of all contents, one after another
abbrev pub blocks_of : List IndexEntry → List ℕ
blocks_of es = flat_map (λ (e : IndexEntry). e.blocks) es

-- format 1 or 2, at most 1024 entries, each as its kind asks, names that ascend, and no block twice
pub record IsIndex (i : Index) : Type 0 where
  pub known_format : IsTrue (is_format i.format)
  pub few : length i.entries ≤ 1024
  pub each : AllByRecursion (IsEntry i.format i.kind) i.entries
  pub names_ascend : IsStrictlySortedBy name_cmp (names_of i.entries)
  pub blocks_apart : IsDistinct nat_eq (blocks_of i.entries)

-- ---- numbers within their types, as those of every index of the program are

-- the three moments of a file are numbers of 64 bits
pub record InfoInRange (i : FileInfo) : Type 0 where
  pub created : i.created < 2 ^ 64
  pub modified : i.modified < 2 ^ 64
  pub accessed : i.accessed < 2 ^ 64

-- so they are where there is an info
abbrev pub InfoIsInRange : Option FileInfo → Type 0
InfoIsInRange None = ⊤
InfoIsInRange (Some i) = InfoInRange i

-- moments and last change are numbers of 64 bits, and block numbers of 32
pub record EntryInRange (e : IndexEntry) : Type 0 where
  pub info : InfoIsInRange e.info
  pub changed : e.changed < 2 ^ 64
  pub blocks : AllByRecursion (λ b. b < 2 ^ 32) e.blocks

-- so they are in each entry of an index
abbrev pub EntriesInRange : Index → Type 0
EntriesInRange i = AllByRecursion EntryInRange i.entries
