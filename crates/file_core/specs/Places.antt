-- A position in a content: what reading gives there, where writing goes, and where moving leads. A `cursor` has the
-- kind of its opening (`kind`), whether each write goes to the end (`append`), and its position in bytes from the
-- beginning (`position`); `bytes` is the content, `size` its length in bytes. A call that moves gives the cursor
-- after it.
use Rattle.std.specs.Prelude.{ℕ, ◌+◌, min, List, length, take, drop, ◌++◌, Bool, true, false, cond, not, ◌&&◌, ◌||◌}
use Rattle.std.specs.Prelude.{◌==◌, nat_lt, nat_le, position, Option, Some, None, Result, Ok, ℤ, pos, ◌+ℤ◌, int_le}
use Rattle.std.specs.Prelude.{unsigned_abs, slice_index}
use Rattle.per_base.specs.declared.errors.PerError.{PerError}
use Rattle.per_base.specs.declared.errors.PerError.TheVariants.{IllegalReadAccess, IsEof, InvalidPosition}
use Rattle.per_base.specs.declared.opening.OpenKind.{OpenKind}
use Rattle.per_base.specs.declared.opening.OpenKind.TheVariants.{Read, Write, ReadWrite}
use Rattle.per_base.specs.declared.opening.OpenMode.{OpenMode}
use Rattle.per_base.specs.declared.opening.Origin.{Origin}
use Rattle.per_base.specs.declared.opening.Origin.TheVariants.{Beginning, Current, End}
use Rattle.per_base.specs.Modes.{at_beginning, at_end, truncates, appends}
use Rattle.per_base.specs.Refusals.{refuse}
use Rattle.file_core.specs.declared.cursor.Cursor.{Cursor}

-- whether a handle of this kind may read
abbrev pub reads : OpenKind → Bool
reads Read = true
reads Write = false
reads ReadWrite = true

-- whether a handle of this kind may write
abbrev pub writes : OpenKind → Bool
writes Read = false
writes Write = true
writes ReadWrite = true

-- flags that contradict one another (at the beginning and at the end), or that ask a kind which only reads to change
-- the file (to truncate it, or to append)
abbrev pub is_bad_mode : OpenKind → OpenMode → Bool
is_bad_mode kind mode = (at_beginning mode && at_end mode) || (not (writes kind) && (truncates mode || appends mode))

-- the cursor of a new opening of a content of this size: its position is the size where the flags say at the end,
-- else 0
abbrev pub opening_place : OpenKind → OpenMode → ℕ → Cursor
opening_place kind mode size = record { kind = kind; append = appends mode; position = cond (at_end mode) size 0 }

-- the cursor at this position
abbrev pub moved : Cursor → ℕ → Cursor
moved cursor at = record cursor { position = at }

-- the cursor that many bytes further on
abbrev pub advanced : Cursor → ℕ → Cursor
advanced cursor by = moved cursor (cursor.position + by)

-- whether nothing is left to read: the position is the length of the content, or above
abbrev pub is_eof : Cursor → List ℕ → Bool
is_eof cursor bytes = nat_le (length bytes) cursor.position

-- what a call gives for the bytes from the position on: `IllegalReadAccess` for a kind that only writes, then `IsEof`
-- where no byte is left
abbrev pub reading : {A : Type 0} → Cursor → List ℕ → (List ℕ → A) → Result A PerError
reading cursor bytes use_rest =
    refuse (not (reads cursor.kind)) IllegalReadAccess
    (refuse (is_eof cursor bytes) IsEof
    (Ok (use_rest (drop cursor.position bytes))))

-- the next byte; the position stays
abbrev pub peek_byte : Cursor → List ℕ → Result ℕ PerError
peek_byte cursor bytes = reading cursor bytes (λ rest. slice_index rest 0)

-- the next byte, which the position passes
abbrev pub get_byte : Cursor → List ℕ → Result (ℕ × Cursor) PerError
get_byte cursor bytes = reading cursor bytes (λ rest. (slice_index rest 0, advanced cursor 1))

-- that many bytes from the position on, or the rest where fewer are left; the position passes them
abbrev pub read : Cursor → List ℕ → ℕ → Result (List ℕ × Cursor) PerError
read cursor bytes count = reading cursor bytes (λ rest. (take count rest, advanced cursor (min count (length rest))))

-- the bytes from the position on; the position is then at the end
abbrev pub read_all : Cursor → List ℕ → Result (List ℕ × Cursor) PerError
read_all cursor bytes = reading cursor bytes (λ rest. (rest, advanced cursor (length rest)))

-- the bytes before this index, which is that of a delimiter, or all where there is none
abbrev pub before : Option ℕ → List ℕ → List ℕ
before None rest = rest
before (Some at) rest = take at rest

-- how many bytes those are with their delimiter
abbrev pub past : Option ℕ → List ℕ → ℕ
past None rest = length rest
past (Some at) rest = at + 1

-- the index of the first byte that is the delimiter
abbrev pub next_delimiter : ℕ → List ℕ → Option ℕ
next_delimiter delimiter rest = position (λ byte. byte == delimiter) rest

-- the bytes from the position on before the next delimiter, or the rest where there is none; the position passes them
-- and the delimiter
abbrev pub read_line : Cursor → List ℕ → ℕ → Result (List ℕ × Cursor) PerError
read_line cursor bytes delimiter = reading cursor bytes
    (λ rest. (before (next_delimiter delimiter rest) rest, advanced cursor (past (next_delimiter delimiter rest) rest)))

-- the position at which the next byte that is written goes: the end where the cursor appends, else the position of
-- the cursor, or the end where that is above it
abbrev pub write_place : Cursor → List ℕ → ℕ
write_place cursor bytes = cond cursor.append (length bytes) (min cursor.position (length bytes))

-- the bytes with this piece from the position `from` on: it overwrites what stands there, and extends the bytes where
-- it reaches past their end
abbrev pub overwritten : ℕ → List ℕ → List ℕ → List ℕ
overwritten from piece bytes = take from bytes ++ piece ++ drop (from + length piece) bytes

-- the cursor in a content of this size: a position above the size becomes the size
abbrev pub moved_within : Cursor → ℕ → Cursor
moved_within cursor size = moved cursor (min cursor.position size)

-- the cursor at the position `at`; `InvalidPosition` where that is above the size
abbrev pub set_position : Cursor → ℕ → ℕ → Result Cursor PerError
set_position cursor size at = refuse (nat_lt size at) InvalidPosition (Ok (moved cursor at))

-- the position from which a move counts
abbrev pub origin_place : Origin → Cursor → ℕ → ℕ
origin_place Beginning cursor size = 0
origin_place Current cursor size = cursor.position
origin_place End cursor size = size

-- the position that is `offset` bytes, which may be negative, from its origin, and the cursor there;
-- `InvalidPosition` where it is below 0 or above the size
abbrev pub move_position : Cursor → ℕ → Origin → ℤ → Result (ℕ × Cursor) PerError
move_position cursor size origin offset =
    let target : ℤ = pos (origin_place origin cursor size) +ℤ offset in
    refuse (not (int_le (pos 0) target && int_le target (pos size))) InvalidPosition
    (Ok (unsigned_abs target, moved cursor (unsigned_abs target)))
