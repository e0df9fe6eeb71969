-- One call from a shell: the lines that make it.
use Rattle.std.specs.Prelude.{◌≡◌, ℕ, List, [], ◌∷◌, ◌++◌, map, codes, Bool, true, false}
use Rattle.std.specs.Prelude.{◌&&◌, nat_eq, if◌then◌else◌, Option, Some, None, option_map, Result, OnOk}
use Rattle.std.specs.Prelude.{IsErrOf, ◌≤◌, ◌<◌, length, slice_index}
use Rattle.std.specs.List.{AllByRecursion, flat_map, list_any}
use Rattle.std.specs.Str.{bytes_eq}
use Rattle.per_base.specs.Fields.{◌>>=◌}
use Rattle.value_text.specs.Texts.{hex_text}
use Rattle.command_text.specs.Grammar.{IsEventLine, has_feed}
use Rattle.command_text.specs.declared.errors.LineError.{LineError}
use Rattle.command_text.specs.declared.errors.LineError.TheVariants as error
use Rattle.command_text.specs.declared.lines.Line.{Line}
use Rattle.command_text.specs.declared.lines.Line.TheVariants as line
use Rattle.command_text.specs.Reading.{is_application_digit}
use Rattle.per_words.specs.declared.kinds.CallKind.{CallKind}
use Rattle.per_words.specs.declared.kinds.CallKind.TheVariants as kind

-- ---- lines

-- the digit of an application, in ASCII, and each word after a space, which is 32
abbrev pub line_with : ℕ → List (List ℕ) → List ℕ
line_with digit words = digit ∷ flat_map (λ word. 32 ∷ word) words

-- lines as they are read: each with a line feed, which is 10
abbrev pub fed_lines : List (List ℕ) → List ℕ
fed_lines lines = flat_map (λ line. line ++ 10 ∷ []) lines

-- the line has a command
abbrev pub is_event : Line → Bool
is_event line.Nothing = false
is_event line.End = false
is_event (line.Event e) = true

-- the text is the line of an event, and one line: no word in it begins another
pub record IsOneLine (text : List ℕ) : Type 0 where
  pub event : IsEventLine text
  pub whole : has_feed text ≡ false

-- the text has these lines and no others, each of which is one of an event
pub record AreFed (lines : List (List ℕ)) (text : List ℕ) : Type 0 where
  pub spelled : text ≡ fed_lines lines
  pub events : AllByRecursion IsOneLine lines

-- a call adds these lines to a text, or refuses one of them
pub record Adds {T : Type 0} (result : Result T LineError) (old new : List ℕ) (lines : List (List ℕ)) : Type 0 where
  pub text : OnOk result (new ≡ old ++ fed_lines lines)
  pub events : OnOk result (AllByRecursion IsOneLine lines)
  pub refused : IsErrOf result error.NotALine → ¬ (AllByRecursion IsOneLine lines)

-- ---- what a call needs

-- the word is one of these
abbrev pub is_among : List (List ℕ) → List ℕ → Bool
is_among words word = list_any (λ other. bytes_eq word other) words

-- calls that take a manifest
abbrev pub takes_manifest : List ℕ → Bool
takes_manifest = is_among (codes "install" ∷ codes "update" ∷ [])

-- calls of an application alone
abbrev pub is_of_application : List ℕ → Bool
is_of_application = is_among (codes "status" ∷ codes "finish" ∷ codes "rollback" ∷ codes "wipe" ∷ [])

-- calls of a storage that is closed; that read keys; that change them; that read files; that change them
abbrev pub is_of_closed : List ℕ → Bool
is_of_closed = is_among (codes "recover-storage" ∷ codes "reset-storage" ∷ [])

abbrev pub reads_keys : List ℕ → Bool
reads_keys = is_among (codes "keys" ∷ codes "exists" ∷ codes "get" ∷ codes "get-as" ∷ [])

abbrev pub changes_keys : List ℕ → Bool
changes_keys = is_among (codes "set" ∷ codes "remove" ∷ codes "remove-all" ∷ codes "recover-key" ∷ codes "reset-key"
    ∷ [])

abbrev pub reads_files : List ℕ → Bool
reads_files = is_among (codes "ls" ∷ codes "files" ∷ codes "file-exists" ∷ codes "size-of" ∷ codes "info" ∷ codes "cat"
    ∷ [])

abbrev pub changes_files : List ℕ → Bool
changes_files = is_among (codes "put" ∷ codes "delete" ∷ codes "recover-file" ∷ codes "reset-file" ∷ [])

-- what is done around a call of a storage
abbrev pub call_kind : List ℕ → Option CallKind
call_kind call =
    if is_of_closed call then Some kind.Closed else (
    if reads_keys call then Some kind.ReadsKeys else (
    if changes_keys call then Some kind.ChangesKeys else (
    if reads_files call then Some kind.ReadsFiles else (
    if changes_files call then Some kind.ChangesFiles else None))))

-- the word of the call in a line: `ls` is `files` there
abbrev pub call_word : List ℕ → List ℕ
call_word call = if bytes_eq call (codes "ls") then codes "files" else call

-- ---- to what it is made

-- the digit of an application, alone
abbrev pub application_digit : List ℕ → Option ℕ
application_digit (digit ∷ []) = if is_application_digit digit then Some digit else None
application_digit other = None

-- the digit of an application and a storage, with a colon, which is 58, between them
abbrev pub place_in : List ℕ → Option (ℕ × List ℕ)
place_in (digit ∷ colon ∷ storage) =
    if is_application_digit digit && nat_eq colon 58 then Some (digit, storage) else None
place_in other = None

-- ---- the lines of a call

-- the storage is opened, where it is to be open
abbrev pub opening_lines : CallKind → ℕ → List ℕ → List (List ℕ)
opening_lines kind.Closed digit storage = []
opening_lines kind.ReadsKeys digit storage = line_with digit (codes "open-kvs" ∷ storage ∷ []) ∷ []
opening_lines kind.ChangesKeys digit storage = line_with digit (codes "open-kvs" ∷ storage ∷ []) ∷ []
opening_lines kind.ReadsFiles digit storage = line_with digit (codes "open-files" ∷ storage ∷ []) ∷ []
opening_lines kind.ChangesFiles digit storage = line_with digit (codes "open-files" ∷ storage ∷ []) ∷ []

-- what the call changed is made durable
abbrev pub durable_lines : CallKind → ℕ → List ℕ → List (List ℕ)
durable_lines kind.Closed digit storage = []
durable_lines kind.ReadsKeys digit storage = []
durable_lines kind.ChangesKeys digit storage = line_with digit (codes "sync" ∷ storage ∷ []) ∷ []
durable_lines kind.ReadsFiles digit storage = []
durable_lines kind.ChangesFiles digit storage = line_with digit (codes "close" ∷ storage ∷ []) ∷ []

-- all lines of a call on a storage
abbrev pub storage_lines : CallKind → ℕ → List ℕ → (call : List ℕ) → List (List ℕ) → List (List ℕ)
storage_lines k digit storage call arguments = opening_lines k digit storage
    ++ line_with digit (call_word call ∷ storage ∷ arguments) ∷ durable_lines k digit storage

-- all lines of the call with this word, to what it is made, and its arguments; none where it cannot be made alone
abbrev pub call_lines : List ℕ → List ℕ → List (List ℕ) → Option (List (List ℕ))
call_lines call target arguments =
    if is_of_application call
    then option_map (λ digit. line_with digit (call ∷ arguments) ∷ []) (application_digit target)
    else (call_kind call >>= λ k. place_in target >>= λ place. Some (storage_lines k place.0 place.1 call arguments))

-- a byte of a manifest, whose line feeds become tabs: as they, white space between its words and not allowed within one
abbrev pub tabbed : ℕ → ℕ
tabbed byte = if nat_eq byte 10 then 9 else byte

-- the line of a call with this manifest
abbrev pub manifest_lines : List ℕ → List ℕ → List ℕ → Option (List (List ℕ))
manifest_lines call target manifest =
    if takes_manifest call
    then option_map (λ digit. line_with digit (call ∷ map tabbed manifest ∷ []) ∷ []) (application_digit target)
    else None

-- ---- the lines that write a content, which is cut into pieces

-- a content of one piece is put at once
abbrev pub put_line : ℕ → List ℕ → List ℕ → List ℕ → List ℕ
put_line digit storage file piece = line_with digit (codes "put" ∷ storage ∷ file ∷ hex_text piece ∷ [])

-- for others the file is opened and made empty
abbrev pub opened_line : ℕ → List ℕ → List ℕ → List ℕ
opened_line digit storage file =
    line_with digit (codes "open-file" ∷ storage ∷ file ∷ codes "w" ∷ codes "truncate" ∷ [])

-- bytes that are written by one line
pub record FitsLine (piece : List ℕ) : Type 0 where
  pub short : length piece ≤ 65536
  pub bytes : (i : ℕ) → slice_index piece i < 256

-- each piece is written to the first handle
abbrev pub piece_line : ℕ → List ℕ → List ℕ → List ℕ
piece_line digit storage piece = line_with digit (codes "write" ∷ storage ∷ codes "1" ∷ hex_text piece ∷ [])

-- which is then closed
abbrev pub closed_line : ℕ → List ℕ → List ℕ
closed_line digit storage = line_with digit (codes "close-file" ∷ storage ∷ codes "1" ∷ [])

-- the joined pieces become the content of the file
abbrev pub writing_lines : ℕ → List ℕ → List ℕ → List (List ℕ) → List (List ℕ)
writing_lines digit storage file [] = put_line digit storage file [] ∷ []
writing_lines digit storage file (piece ∷ []) = put_line digit storage file piece ∷ []
writing_lines digit storage file (piece ∷ next ∷ pieces) = opened_line digit storage file
    ∷ (map (piece_line digit storage) (piece ∷ next ∷ pieces) ++ closed_line digit storage ∷ [])

-- all lines of the call that makes them the content of the file
unfoldable pub file_lines : ℕ → List ℕ → List ℕ → List (List ℕ) → List (List ℕ)
file_lines digit storage file pieces = opening_lines kind.ChangesFiles digit storage
    ++ (writing_lines digit storage file pieces ++ durable_lines kind.ChangesFiles digit storage)

-- the same, to an application and a storage as the shell names them; None where they are no such words
abbrev pub content_lines : List ℕ → List ℕ → List (List ℕ) → Option (List (List ℕ))
content_lines target file pieces = place_in target >>= λ place. Some (file_lines place.0 place.1 file pieces)
