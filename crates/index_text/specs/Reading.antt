-- The index that a text spells, read field by field from the left.
use Rattle.std.specs.Prelude.{◌≡◌, ℕ, List, [], ◌∷◌, length, Bool, true, ◌&&◌, Option, Some, None, Result, Ok, Err}
use Rattle.std.specs.Prelude.{nat_le, nat_eq, ◌==◌, if◌then◌else◌}
use Rattle.std.specs.Int.{w16, w32, w64}
use Rattle.std.specs.Ordering.{is_lt}
use Rattle.std.specs.Set.{distinct_count}
use Rattle.per_base.specs.declared.elements.Cause.{Cause}
use Rattle.per_base.specs.declared.elements.Cause.TheVariants.{Installation, Update, Reset, Recovery, Application}
use Rattle.per_base.specs.declared.elements.StoreKind.{StoreKind}
use Rattle.per_base.specs.declared.elements.StoreKind.TheVariants.{Keys, Files}
use Rattle.per_base.specs.declared.elements.FileInfo.{FileInfo}
use Rattle.per_base.specs.Fields.{◌>>=◌, byte_at, bytes_at, number_at, only_if, many}
use Rattle.per_base.specs.Names.{is_name, name_cmp}
use Rattle.per_base.specs.Contents.{blocks_for}
use Rattle.index_text.specs.declared.entries.IndexEntry.{IndexEntry}
use Rattle.index_text.specs.declared.entries.Index.{Index}
use Rattle.index_text.specs.declared.reading.Header.{Header}
use Rattle.index_text.specs.declared.errors.IndexError.{IndexError}
use Rattle.index_text.specs.declared.errors.IndexError.TheVariants as errors
use Rattle.index_text.specs.Rules.{max_len, is_format, names_of, blocks_of}

-- what an error says of a reading: memory that ran out says nothing
abbrev pub FailsToRead : {Y : Type 0} → IndexError → Option Y → Type 0
FailsToRead errors.NotAnIndex read = read ≡ None
FailsToRead errors.OutOfMemory read = Unit {0}

-- what a function returned, seen by view, is what reading gives, unless memory ran out
abbrev pub Gives : {X Y : Type 0} → (X → Y) → Result X IndexError → Option Y → Type 0
Gives view (Ok x) read = read ≡ Some (view x)
Gives view (Err e) read = FailsToRead e read

-- ---- the fields of an entry

-- A reader takes bytes, and gives what stands at their start with the bytes after it; or None where no such thing
-- stands there.

-- one byte of length, and that many bytes, which are a name: 1 to 255 ASCII letters, digits or _ - . /
unfoldable pub name_at : List ℕ → Option (List ℕ × List ℕ)
name_at bytes = do
  len ← byte_at bytes
  name ← bytes_at len.0 len.1
  only_if (is_name name.0) name

-- the kind of storage of which a byte is the code
abbrev pub coded_kind : ℕ → Option StoreKind
coded_kind code = if code == 1 then Some Keys else (if code == 2 then Some Files else None)

-- the cause of which a byte is the code, of the creation or last change of a file
abbrev pub coded_cause : ℕ → Option Cause
coded_cause code = if code == 1 then Some Installation else
    (if code == 2 then Some Update else (if code == 3 then Some Reset else
    (if code == 4 then Some Recovery else (if code == 5 then Some Application else None))))

-- a cause, in one byte
unfoldable pub cause_at : List ℕ → Option (Cause × List ℕ)
cause_at bytes = do
  code ← byte_at bytes
  cause ← coded_cause code.0
  Some (cause, code.1)

-- when a file was created, last modified and last accessed, in eight bytes each; then what caused its creation and
-- its last modification, in one byte each
unfoldable pub file_info_at : List ℕ → Option (FileInfo × List ℕ)
file_info_at bytes = do
  created ← number_at w64 bytes
  modified ← number_at w64 created.1
  accessed ← number_at w64 modified.1
  creation ← cause_at accessed.1
  modification ← cause_at creation.1
  Some (
    record {
      created = created.0;
      modified = modified.0;
      accessed = accessed.0;
      creation =
          creation.0;
      modification = modification.0;
    },
    modification.1,
  )

-- the info of a file; a key has none, and no bytes for it
unfoldable pub info_at : StoreKind → List ℕ → Option (Option FileInfo × List ℕ)
info_at Keys bytes = Some (None, bytes)
info_at Files bytes = do
  info ← file_info_at bytes
  Some (Some info.0, info.1)

-- the generation of an element's last change, in eight bytes; format 1 has none, which is read as 0
unfoldable pub changed_at : ℕ → List ℕ → Option (ℕ × List ℕ)
changed_at format bytes = if format == 2 then number_at w64 bytes else Some (0, bytes)

-- the length of a content in bytes, in four bytes: no more than the kind allows
unfoldable pub len_at : StoreKind → List ℕ → Option (ℕ × List ℕ)
len_at kind bytes = do
  len ← number_at w32 bytes
  only_if (nat_le len.0 (max_len kind)) len

-- an entry, in an index of this format and kind: name, info, last change, length, SHA-256 of 32 bytes, and the numbers
-- of its blocks in four bytes each
unfoldable pub entry_at : ℕ → StoreKind → List ℕ → Option (IndexEntry × List ℕ)
entry_at format kind bytes = do
  name ← name_at bytes
  info ← info_at kind name.1
  changed ← changed_at format info.1
  len ← len_at kind changed.1
  hash ← bytes_at 32 len.1
  blocks ← many (number_at w32) (blocks_for len.0) hash.1
  Some (
    record { name = name.0; info = info.0; changed = changed.0; len = len.0; hash = hash.0; blocks = blocks.0 },
    blocks.1,
  )

-- ---- the whole text

-- what stands before the entries: format and kind in one byte each, and in two bytes how many entries follow, at most
-- 1024
unfoldable pub header_at : List ℕ → Option (Header × List ℕ)
header_at bytes = do
  format ← byte_at bytes
  code ← byte_at format.1
  kind ← coded_kind code.0
  count ← number_at w16 code.1
  only_if (is_format format.0 && nat_le count.0 1024) (
    record { format = format.0; kind = kind; count = count.0 },
    count.1,
  )

-- each name is below the next
abbrev pub ascends : List (List ℕ) → Bool
ascends [] = true
ascends (a ∷ []) = true
ascends (a ∷ b ∷ names) = is_lt (name_cmp a b) && ascends (b ∷ names)

-- no number occurs twice: there are as many different numbers as numbers
abbrev pub are_distinct : List ℕ → Bool
are_distinct xs = distinct_count nat_eq xs == length xs

-- the index that the text spells, where one does
unfoldable pub index_of : List ℕ → Option Index
index_of text = do
  header ← header_at text
  entries ← many (entry_at header.0.format header.0.kind) header.0.count header.1
  only_if (length entries.1 == 0 && ascends (names_of entries.0) && are_distinct (blocks_of entries.0))
      (record { format = header.0.format; kind = header.0.kind; entries = entries.0 })
