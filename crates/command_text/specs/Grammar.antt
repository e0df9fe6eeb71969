-- The lines: of each call its word and its arguments, and the one line that spells an event.
use Rattle.std.specs.Prelude.{◌≡◌, ◌⊎◌, ◌≤◌, ◌<◌, ◌+◌, ◌^◌, ⊤, ℕ, ℤ, List, [], ◌∷◌, ◌++◌, length, map}
use Rattle.std.specs.Prelude.{codes, Bool, true, false, nat_eq}
use Rattle.std.specs.List.{AllByRecursion, join_with_byte, list_any}
use Rattle.std.specs.Fmt.{decimal, signed_decimal}
use lib.Signed.{mag}
use Rattle.per_base.specs.declared.opening.OpenKind.{OpenKind}
use Rattle.per_base.specs.declared.opening.OpenKind.TheVariants as kind
use Rattle.per_base.specs.declared.opening.Origin.{Origin}
use Rattle.per_base.specs.declared.opening.Origin.TheVariants as origin
use Rattle.per_base.specs.declared.opening.OpenMode.{OpenMode}
use Rattle.per_base.specs.Modes.{bits_of, at_beginning, at_end, truncates, appends}
use Rattle.per_base.specs.Names.{IsName}
use Rattle.per_base.specs.Fields.{AreBytes}
use Rattle.value_model.specs.Kinds.{Kind}
use Rattle.value_model.specs.Trees.{Tree}
use Rattle.value_model.specs.Validity.{IsValue}
use Rattle.value_text.specs.Texts.{type_text, value_text, hex_byte_text, hex_text}
use Rattle.value_text.specs.Types.{IsType}
use Rattle.command_text.specs.declared.calls.Call.{Call}
use Rattle.command_text.specs.declared.calls.Call.TheVariants as call
use Rattle.command_text.specs.declared.calls.Event.{Event}
use Rattle.command_text.specs.declared.calls.Event.TheVariants as event
use Rattle.command_text.specs.declared.lines.Line.{Line}
use Rattle.command_text.specs.declared.lines.Line.TheVariants as line

-- ---- words of arguments

-- the word of what a file is opened for: reading, writing, or both
abbrev pub kind_text : OpenKind → List ℕ
kind_text kind.Read = codes "r"
kind_text kind.Write = codes "w"
kind_text kind.ReadWrite = codes "rw"

-- the word of where an offset counts from
abbrev pub origin_text : Origin → List ℕ
origin_text origin.Beginning = codes "begin"
origin_text origin.Current = codes "current"
origin_text origin.End = codes "end"

-- the word of a flag that is set
abbrev pub flag : Bool → List ℕ → List (List ℕ)
flag true word = word ∷ []
flag false word = []

-- the words joined by plus signs (43), or the word for none
abbrev pub joined_words : List (List ℕ) → List ℕ
joined_words [] = codes "none"
joined_words (w ∷ ws) = join_with_byte 43 (w ∷ ws)

-- the word of a mode: its flags joined, or `none`
abbrev pub mode_text : OpenMode → List ℕ
mode_text mode = joined_words (flag (at_beginning mode) (codes "begin") ++ flag (at_end mode) (codes "end")
    ++ flag (truncates mode) (codes "truncate") ++ flag (appends mode) (codes "append"))

-- ---- arguments

-- an argument of a call, by what it is
pub data Argument : Type 0 where
  -- of a storage, a key or a file
  name : List ℕ → Argument
  handle : ℕ → Argument
  number : ℕ → Argument
  type : Kind → Argument
  value : Tree → Argument
  -- bytes in two digits each
  octets : List ℕ → Argument
  one_byte : ℕ → Argument
  -- the text of a manifest
  manifest : List ℕ → Argument
  open_kind : OpenKind → Argument
  open_mode : OpenMode → Argument
  counted_from : Origin → Argument
  offset : ℤ → Argument

-- the text of an argument: numbers in decimal digits, bytes in two hexadecimal digits each
abbrev pub spelling : Argument → List ℕ
spelling (name text) = text
spelling (handle h) = decimal h
spelling (number n) = decimal n
spelling (type k) = type_text k
spelling (value v) = value_text v
spelling (octets bytes) = hex_text bytes
spelling (one_byte b) = hex_byte_text b
spelling (manifest text) = text
spelling (open_kind k) = kind_text k
spelling (open_mode m) = mode_text m
spelling (counted_from o) = origin_text o
spelling (offset z) = signed_decimal z

-- whether a text has a line feed (10)
abbrev pub has_feed : List ℕ → Bool
has_feed text = list_any (λ byte. nat_eq byte 10) text

-- what an argument may be: a handle has 32 bits, a number 64, an offset is between -2^63 and 2^63, a mode has 4 flags,
-- and a manifest is some text without a line feed
abbrev pub IsArgument : Argument → Type 0
IsArgument (name text) = IsName text
IsArgument (handle h) = h < 2 ^ 32
IsArgument (number n) = n < 2 ^ 64
IsArgument (type k) = IsType k
IsArgument (value v) = IsValue v
IsArgument (octets bytes) = AreBytes bytes
IsArgument (one_byte b) = b < 256
IsArgument (manifest text) = (1 ≤ length text) × (has_feed text ≡ false)
IsArgument (open_kind k) = ⊤
IsArgument (open_mode m) = bits_of m < 16
IsArgument (counted_from o) = ⊤
IsArgument (offset z) = mag z < 2 ^ 63

-- ---- calls

-- the word of a call, and its arguments in order
abbrev pub form : Call → List ℕ × List Argument
form call.Status = (codes "status", [])
form (call.Install j) = (codes "install", manifest j ∷ [])
form (call.Update j) = (codes "update", manifest j ∷ [])
form call.Finish = (codes "finish", [])
form call.Rollback = (codes "rollback", [])
form call.Wipe = (codes "wipe", [])
form (call.UpdateBegin j) = (codes "update-begin", manifest j ∷ [])
form call.UpdateNext = (codes "update-next", [])
form call.UpdateCommit = (codes "update-commit", [])
form call.UpdateAbort = (codes "update-abort", [])
form (call.OpenKvs s) = (codes "open-kvs", name s ∷ [])
form (call.OpenFiles s) = (codes "open-files", name s ∷ [])
form (call.Close s) = (codes "close", name s ∷ [])
form (call.Size s) = (codes "size", name s ∷ [])
form (call.RecoverStorage s) = (codes "recover-storage", name s ∷ [])
form (call.ResetStorage s) = (codes "reset-storage", name s ∷ [])
form (call.Keys s) = (codes "keys", name s ∷ [])
form (call.Exists s k) = (codes "exists", name s ∷ name k ∷ [])
form (call.Get s k) = (codes "get", name s ∷ name k ∷ [])
form (call.GetAs s k t) = (codes "get-as", name s ∷ name k ∷ type t ∷ [])
form (call.Set s k v) = (codes "set", name s ∷ name k ∷ value v ∷ [])
form (call.Remove s k) = (codes "remove", name s ∷ name k ∷ [])
form (call.RemoveAll s) = (codes "remove-all", name s ∷ [])
form (call.RecoverKey s k) = (codes "recover-key", name s ∷ name k ∷ [])
form (call.ResetKey s k) = (codes "reset-key", name s ∷ name k ∷ [])
form (call.Sync s) = (codes "sync", name s ∷ [])
form (call.Discard s) = (codes "discard", name s ∷ [])
form (call.Files s) = (codes "files", name s ∷ [])
form (call.FileExists s f) = (codes "file-exists", name s ∷ name f ∷ [])
form (call.OpenFile s f k m) = (codes "open-file", name s ∷ name f ∷ open_kind k ∷ open_mode m ∷ [])
form (call.CloseFile s h) = (codes "close-file", name s ∷ handle h ∷ [])
form (call.Peek s h) = (codes "peek", name s ∷ handle h ∷ [])
form (call.Byte s h) = (codes "byte", name s ∷ handle h ∷ [])
form (call.Read s h n) = (codes "read", name s ∷ handle h ∷ number n ∷ [])
form (call.ReadAll s h) = (codes "read-all", name s ∷ handle h ∷ [])
form (call.Line s h d) = (codes "line", name s ∷ handle h ∷ one_byte d ∷ [])
form (call.Write s h b) = (codes "write", name s ∷ handle h ∷ octets b ∷ [])
form (call.SetSize s h n) = (codes "set-size", name s ∷ handle h ∷ number n ∷ [])
form (call.HandleSize s h) = (codes "handle-size", name s ∷ handle h ∷ [])
form (call.Position s h) = (codes "position", name s ∷ handle h ∷ [])
form (call.Seek s h n) = (codes "seek", name s ∷ handle h ∷ number n ∷ [])
form (call.Move s h o z) = (codes "move", name s ∷ handle h ∷ counted_from o ∷ offset z ∷ [])
form (call.Eof s h) = (codes "eof", name s ∷ handle h ∷ [])
form (call.Flush s h) = (codes "flush", name s ∷ handle h ∷ [])
form (call.SizeOf s f) = (codes "size-of", name s ∷ name f ∷ [])
form (call.Info s f) = (codes "info", name s ∷ name f ∷ [])
form (call.Delete s f) = (codes "delete", name s ∷ name f ∷ [])
form (call.RecoverFile s f) = (codes "recover-file", name s ∷ name f ∷ [])
form (call.ResetFile s f) = (codes "reset-file", name s ∷ name f ∷ [])
form (call.Cat s f) = (codes "cat", name s ∷ name f ∷ [])
form (call.Put s f b) = (codes "put", name s ∷ name f ∷ octets b ∷ [])

-- words with one space (32) between them
abbrev pub spaced : List (List ℕ) → List ℕ
spaced words = join_with_byte 32 words

-- the word and the arguments as a text
abbrev pub form_text : List ℕ × List Argument → List ℕ
form_text f = spaced (f.0 ∷ map spelling f.1)

-- ---- lines

-- the one line that spells an event, without its line feed; an application is one digit, whose code is 48 more than its
-- number
abbrev pub line_of : Event → List ℕ
line_of (event.Now t) = spaced (codes "now" ∷ decimal t ∷ [])
line_of (event.App a c) = spaced (((48 + a) ∷ []) ∷ form_text (form c) ∷ [])

-- the moment has 64 bits; the application is below 8 and the arguments are right
abbrev pub IsEvent : Event → Type 0
IsEvent (event.Now t) = t < 2 ^ 64
IsEvent (event.App a c) = (a < 8) × AllByRecursion IsArgument (form c).1

-- an empty line, or a comment, which begins with `#`; a line holds no line feed
abbrev pub IsNothing : List ℕ → Type 0
IsNothing text = (text ≡ []) ⊎ ((rest : List ℕ) × (text ≡ codes "#" ++ rest) × (has_feed rest ≡ false))

-- the text spells the line: it is nothing, the word `end`, or the one line of an event whose parts are in their bounds
abbrev pub Spells : List ℕ → Line → Type 0
Spells text line.Nothing = IsNothing text
Spells text line.End = text ≡ codes "end"
Spells text (line.Event e) = (text ≡ line_of e) × IsEvent e

-- the text spells this line, and has at most 262,144 bytes, the most of a line
pub record IsLine (text : List ℕ) (line : Line) : Type 0 where
  pub short : length text ≤ 262144
  pub spelled : Spells text line

-- the text is a line that spells an event
abbrev pub IsEventLine : List ℕ → Type 0
IsEventLine text = (e : Event) × IsLine text (line.Event e)
