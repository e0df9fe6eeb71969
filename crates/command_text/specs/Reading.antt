-- Reading a line: its words at the spaces, the call of its word, and each argument from the whole of its text.
use Rattle.std.specs.Prelude.{◌≡◌, ◌-◌, ◌^◌, ⊤, ℕ, ℤ, List, [], ◌∷◌, length, ◌&&◌, nat_le, nat_eq, if◌then◌else◌}
use Rattle.std.specs.Prelude.{Bool, Option, Some, None, Result, Ok, Err, codes}
use Rattle.std.specs.Str.{bytes_eq}
use Rattle.per_base.specs.declared.opening.OpenKind.{OpenKind}
use Rattle.per_base.specs.declared.opening.OpenKind.TheVariants as kind
use Rattle.per_base.specs.declared.opening.Origin.{Origin}
use Rattle.per_base.specs.declared.opening.Origin.TheVariants as origin
use Rattle.per_base.specs.declared.opening.OpenMode.{OpenMode}
use Rattle.per_base.specs.Names.{is_name}
use Rattle.per_base.specs.Fields.{◌>>=◌}
use Rattle.per_base.specs.FieldLoops.{with_front}
use Rattle.per_base.specs.Maps.{first_row}
use Rattle.value_text.specs.Readers.{branch}
use Rattle.value_text.specs.Parsing.{kind_in, value_in}
use Rattle.value_text.specs.Whole.{unsigned_in, signed_in, bytes_in}
use Rattle.command_text.specs.Grammar.{has_feed}
use Rattle.command_text.specs.declared.calls.Call.{Call}
use Rattle.command_text.specs.declared.calls.Call.TheVariants as call
use Rattle.command_text.specs.declared.calls.Event.{Event}
use Rattle.command_text.specs.declared.calls.Event.TheVariants as event
use Rattle.command_text.specs.declared.errors.LineError.{LineError}
use Rattle.command_text.specs.declared.errors.LineError.TheVariants as error
use Rattle.command_text.specs.declared.lines.Line.{Line}
use Rattle.command_text.specs.declared.lines.Line.TheVariants as line

-- an error says that nothing can be read, unless memory ran out
abbrev pub FailsToRead : {Y : Type 0} → LineError → Option Y → Type 0
FailsToRead error.NotALine read = read ≡ None
FailsToRead error.OutOfMemory read = ⊤

-- what a function returned, seen by view, is what reading gives; its error says that reading gives none, or that memory
-- ran out
abbrev pub ReadsLine : {X Y : Type 0} → (X → Y) → Result X LineError → Option Y → Type 0
ReadsLine view (Ok x) read = read ≡ Some (view x)
ReadsLine view (Err e) read = FailsToRead e read

-- ---- words

-- what stands before the first space, and after it
abbrev pub split : List ℕ → Option (List ℕ × List ℕ)
split [] = None
split (b ∷ bytes) = if nat_eq b 32 then Some ([], bytes) else with_front (b ∷ []) (split bytes)

-- what the row of the word in this table gives, or else the other
abbrev pub pick : {A : Type 0} → List (List ℕ × A) → List ℕ → (A → Option Call) → Option Call → Option Call
pick [] word use_row other = other
pick (row ∷ rows) word use_row other = if bytes_eq word row.0 then use_row row.1 else pick rows word use_row other

-- ---- arguments, each the whole of its text

-- the name that a text is, if it is one
abbrev pub name_in : List ℕ → Option (List ℕ)
name_in text = if is_name text then Some text else None

-- the byte, where there is one alone
abbrev pub the_one : List ℕ → Option ℕ
the_one (b ∷ []) = Some b
the_one other = None

-- the one byte that two digits spell
abbrev pub octet_in : List ℕ → Option ℕ
octet_in text = bytes_in text >>= the_one

-- the text of a manifest: some text without a line feed
abbrev pub manifest_in : List ℕ → Option (List ℕ)
manifest_in text = if nat_eq (length text) 0 then None else (if has_feed text then None else Some text)

-- the words of what a file is opened for
abbrev pub kind_words : List (List ℕ × OpenKind)
kind_words = (codes "r", kind.Read) ∷ (codes "w", kind.Write) ∷ (codes "rw", kind.ReadWrite) ∷ []

unfoldable pub kind_word_in : List ℕ → Option OpenKind
kind_word_in text = first_row kind_words text

-- the words of where an offset counts from
abbrev pub origin_words : List (List ℕ × Origin)
origin_words = (codes "begin", origin.Beginning) ∷ (codes "current", origin.Current) ∷ (codes "end", origin.End) ∷ []

unfoldable pub origin_in : List ℕ → Option Origin
origin_in text = first_row origin_words text

-- the mode with these flags
abbrev pub mode_of : ℕ → OpenMode
mode_of bits = record { 0 = bits }

-- the words of the modes that append, by the bits of their flags: begin 1, end 2, truncate 4, append 8
abbrev pub appending_modes : List (List ℕ × OpenMode)
appending_modes = (codes "append", mode_of 8)
    ∷ (codes "begin+append", mode_of 9)
    ∷ (codes "end+append", mode_of 10)
    ∷ (codes "begin+end+append", mode_of 11)
    ∷ (codes "truncate+append", mode_of 12)
    ∷ (codes "begin+truncate+append", mode_of 13)
    ∷ (codes "end+truncate+append", mode_of 14)
    ∷ (codes "begin+end+truncate+append", mode_of 15) ∷ []

unfoldable pub mode_end_in : List ℕ → Option OpenMode
mode_end_in text = first_row appending_modes text

-- the words of the modes that do not append
abbrev pub other_modes : List (List ℕ × OpenMode)
other_modes = (codes "none", mode_of 0)
    ∷ (codes "begin", mode_of 1)
    ∷ (codes "end", mode_of 2)
    ∷ (codes "begin+end", mode_of 3)
    ∷ (codes "truncate", mode_of 4)
    ∷ (codes "begin+truncate", mode_of 5)
    ∷ (codes "end+truncate", mode_of 6)
    ∷ (codes "begin+end+truncate", mode_of 7) ∷ []

unfoldable pub mode_in : List ℕ → Option OpenMode
mode_in text = branch (first_row other_modes text) (λ mode. Some mode) (mode_end_in text)

-- two names: a storage's, and a key's or a file's
unfoldable pub element_in : List ℕ → Option (List ℕ × List ℕ)
element_in text = do
  words ← split text
  storage ← name_in words.0
  name ← name_in words.1
  Some (storage, name)

-- the name of a storage, and the number of a handle, of 32 bits
unfoldable pub handle_in : List ℕ → Option (List ℕ × ℕ)
handle_in text = do
  words ← split text
  storage ← name_in words.0
  handle ← unsigned_in (2 ^ 32) words.1
  Some (storage, handle)

-- two names, and what follows them
unfoldable pub element_front : List ℕ → Option (List ℕ × List ℕ × List ℕ)
element_front text = do
  words ← split text
  storage ← name_in words.0
  more ← split words.1
  name ← name_in more.0
  Some (storage, name, more.1)

-- the name of a storage, the number of a handle, and what follows them
unfoldable pub handle_front : List ℕ → Option (List ℕ × ℕ × List ℕ)
handle_front text = do
  words ← split text
  storage ← name_in words.0
  more ← split words.1
  handle ← unsigned_in (2 ^ 32) more.0
  Some (storage, handle, more.1)

-- how a file is opened: its kind and its mode
unfoldable pub opening_in : List ℕ → Option (OpenKind × OpenMode)
opening_in text = do
  words ← split text
  kind ← kind_word_in words.0
  mode ← mode_in words.1
  Some (kind, mode)

-- from where a position moves, and how far
unfoldable pub distance_in : List ℕ → Option (Origin × ℤ)
distance_in text = do
  words ← split text
  origin ← origin_in words.0
  offset ← signed_in (2 ^ 63) words.1
  Some (origin, offset)

-- ---- calls, by what follows their word

-- no argument
abbrev pub bare_calls : List (List ℕ × Call)
bare_calls = (codes "status", call.Status)
    ∷ (codes "finish", call.Finish)
    ∷ (codes "rollback", call.Rollback)
    ∷ (codes "wipe", call.Wipe)
    ∷ (codes "update-next", call.UpdateNext)
    ∷ (codes "update-commit", call.UpdateCommit)
    ∷ (codes "update-abort", call.UpdateAbort)
    ∷ []

unfoldable pub bare_call : List ℕ → Option Call
bare_call word = first_row bare_calls word

-- from where a position moves, and how far
unfoldable pub move_call : List ℕ → List ℕ → Option Call
move_call word text = if bytes_eq word (codes "move") then (do
  x ← handle_front text
  distance ← distance_in x.2
  Some (call.Move x.0 x.1 distance.0 distance.1)) else None

-- a storage, a handle, and a byte or bytes
unfoldable pub handle_bytes_call : List ℕ → List ℕ → Option Call
handle_bytes_call word text =
    if bytes_eq word (codes "line") then (do
      x ← handle_front text
      delimiter ← octet_in x.2
      Some (call.Line x.0 x.1 delimiter)) else (
    if bytes_eq word (codes "write") then (do
      x ← handle_front text
      bytes ← bytes_in x.2
      Some (call.Write x.0 x.1 bytes)) else
    move_call word text)

-- a storage, a handle and a number
abbrev pub handle_number_calls : List (List ℕ × (List ℕ → ℕ → ℕ → Call))
handle_number_calls = (codes "read", call.Read)
    ∷ (codes "set-size", call.SetSize)
    ∷ (codes "seek", call.Seek)
    ∷ []

unfoldable pub handle_number_call : List ℕ → List ℕ → Option Call
handle_number_call word text =
    pick handle_number_calls word (λ make. do
      x ← handle_front text
      number ← unsigned_in (2 ^ 64) x.2
      Some (make x.0 x.1 number))
    (handle_bytes_call word text)

-- a storage and a handle
abbrev pub handle_calls : List (List ℕ × (List ℕ → ℕ → Call))
handle_calls = (codes "close-file", call.CloseFile)
    ∷ (codes "peek", call.Peek)
    ∷ (codes "byte", call.Byte)
    ∷ (codes "read-all", call.ReadAll)
    ∷ (codes "handle-size", call.HandleSize)
    ∷ (codes "position", call.Position)
    ∷ (codes "eof", call.Eof)
    ∷ (codes "flush", call.Flush)
    ∷ []

unfoldable pub handle_call : List ℕ → List ℕ → Option Call
handle_call word text =
    pick handle_calls word (λ make. handle_in text >>= λ x. Some (make x.0 x.1))
    (handle_number_call word text)

-- a storage, a name, and more
unfoldable pub detail_call : List ℕ → List ℕ → Option Call
detail_call word text =
    if bytes_eq word (codes "get-as") then (do
      x ← element_front text
      asked ← kind_in x.2
      Some (call.GetAs x.0 x.1 asked)) else (
    if bytes_eq word (codes "set") then (do
      x ← element_front text
      value ← value_in x.2
      Some (call.Set x.0 x.1 value)) else (
    if bytes_eq word (codes "open-file") then (do
      x ← element_front text
      opening ← opening_in x.2
      Some (call.OpenFile x.0 x.1 opening.0 opening.1)) else (
    if bytes_eq word (codes "put") then (do
      x ← element_front text
      bytes ← bytes_in x.2
      Some (call.Put x.0 x.1 bytes)) else
    handle_call word text)))

-- a storage and a name
abbrev pub element_calls : List (List ℕ × (List ℕ → List ℕ → Call))
element_calls = (codes "exists", call.Exists)
    ∷ (codes "get", call.Get)
    ∷ (codes "remove", call.Remove)
    ∷ (codes "recover-key", call.RecoverKey)
    ∷ (codes "reset-key", call.ResetKey)
    ∷ (codes "file-exists", call.FileExists)
    ∷ (codes "size-of", call.SizeOf)
    ∷ (codes "info", call.Info)
    ∷ (codes "delete", call.Delete)
    ∷ (codes "recover-file", call.RecoverFile)
    ∷ (codes "reset-file", call.ResetFile)
    ∷ (codes "cat", call.Cat)
    ∷ []

unfoldable pub element_call : List ℕ → List ℕ → Option Call
element_call word text =
    pick element_calls word (λ make. element_in text >>= λ x. Some (make x.0 x.1))
    (detail_call word text)

-- a storage
abbrev pub storage_calls : List (List ℕ × (List ℕ → Call))
storage_calls = (codes "open-kvs", call.OpenKvs)
    ∷ (codes "open-files", call.OpenFiles)
    ∷ (codes "close", call.Close)
    ∷ (codes "size", call.Size)
    ∷ (codes "recover-storage", call.RecoverStorage)
    ∷ (codes "reset-storage", call.ResetStorage)
    ∷ (codes "keys", call.Keys)
    ∷ (codes "remove-all", call.RemoveAll)
    ∷ (codes "sync", call.Sync)
    ∷ (codes "discard", call.Discard)
    ∷ (codes "files", call.Files)
    ∷ []

unfoldable pub storage_call : List ℕ → List ℕ → Option Call
storage_call word text =
    pick storage_calls word (λ make. name_in text >>= λ s. Some (make s))
    (element_call word text)

-- the text of a manifest
abbrev pub manifest_calls : List (List ℕ × (List ℕ → Call))
manifest_calls = (codes "install", call.Install)
    ∷ (codes "update", call.Update)
    ∷ (codes "update-begin", call.UpdateBegin)
    ∷ []

unfoldable pub manifest_call : List ℕ → List ℕ → Option Call
manifest_call word text =
    pick manifest_calls word (λ make. manifest_in text >>= λ j. Some (make j))
    (storage_call word text)

-- a word, and what follows its space where it has one
unfoldable pub call_in : List ℕ → Option Call
call_in text = branch (split text) (λ parts. manifest_call parts.0 parts.1) (bare_call text)

-- ---- events and lines

-- the digits of the eight applications
abbrev pub is_application_digit : ℕ → Bool
is_application_digit digit = nat_le 48 digit && nat_le digit 55

-- one digit, 0 to 7
abbrev pub application_in : List ℕ → Option ℕ
application_in (d ∷ []) = if is_application_digit d then Some (d - 48) else None
application_in other = None

-- the application of a line, the word of its call, and the text of the arguments
unfoldable pub parts_in : List ℕ → Option (ℕ × List ℕ × List ℕ)
parts_in text = do
  words ← split text
  application ← application_in words.0
  call ← split words.1
  Some (application, call.0, call.1)

-- the event that a text spells: a moment after the word `now`, or an application's digit and a call
unfoldable pub event_in : List ℕ → Option Event
event_in text = do
  words ← split text
  if bytes_eq words.0 (codes "now") then (unsigned_in (2 ^ 64) words.1 >>= λ t. Some (event.Now t)) else (do
    a ← application_in words.0
    c ← call_in words.1
    Some (event.App a c))

-- what a text says: nothing where it is empty or begins with `#` (35), the end, or an event
unfoldable pub line_in : List ℕ → Option Line
line_in [] = Some line.Nothing
line_in (b ∷ rest) =
    if nat_eq b 35 then (if has_feed rest then None else Some line.Nothing) else (
    if bytes_eq (b ∷ rest) (codes "end") then Some line.End else (
    event_in (b ∷ rest) >>= λ e. Some (line.Event e)))
