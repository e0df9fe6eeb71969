-- Where a text stops being a line, and what a line has there.
use Rattle.std.specs.Prelude.{◌-◌, ◌^◌, ℕ, suc, List, [], ◌∷◌, length, map, take, drop, codes, Bool, not, ◌&&◌, ◌||◌}
use Rattle.std.specs.Prelude.{nat_eq, nat_lt, if◌then◌else◌, Option, Some, None, is_some, option_map}
use Rattle.std.specs.List.{position_or_len}
use Rattle.std.specs.Str.{bytes_eq}
use Rattle.per_base.specs.Names.{is_name}
use Rattle.value_text.specs.Parsing.{kind_in, value_in}
use Rattle.value_text.specs.Whole.{bytes_in, signed_in, unsigned_in}
use Rattle.command_text.specs.Grammar.{has_feed}
use Rattle.command_text.specs.Reading.{appending_modes, kind_words, octet_in, origin_words, other_modes}
use Rattle.per_words.specs.declared.flaws.Flaw.{Flaw}
use Rattle.per_words.specs.Numbers.{is_typed_number, wrong_number}
use Rattle.per_words.specs.declared.needs.Needed.{Needed}
use Rattle.per_words.specs.declared.needs.Needed.TheVariants as needed
use Rattle.per_words.specs.declared.numbers.ValuePlace.TheVariants as value_place
use Rattle.per_words.specs.Words.{application_digit, is_among}

-- ---- words

-- how many bytes stand before the first space
abbrev pub leading_length : List ℕ → ℕ
leading_length text = position_or_len (λ byte. nat_eq byte 32) text

-- the bytes before the first space, all where there is none; and whether there is one
abbrev pub leading_word : List ℕ → List ℕ
leading_word text = take (leading_length text) text

abbrev pub has_space : List ℕ → Bool
has_space text = nat_lt (leading_length text) (length text)

-- what stands after the first space
abbrev pub after_space : List ℕ → List ℕ
after_space text = drop (suc (leading_length text)) text

-- ---- what a call takes

-- calls that take nothing; a manifest; a storage; a storage and an element; a storage and a handle; these and a number
abbrev pub takes_nothing : List ℕ → Bool
takes_nothing = is_among (codes "status" ∷ codes "finish" ∷ codes "rollback" ∷ codes "wipe" ∷ codes "update-next"
    ∷ codes "update-commit" ∷ codes "update-abort" ∷ [])

abbrev pub takes_text : List ℕ → Bool
takes_text = is_among (codes "install" ∷ codes "update" ∷ codes "update-begin" ∷ [])

abbrev pub takes_storage : List ℕ → Bool
takes_storage = is_among (codes "open-kvs" ∷ codes "open-files" ∷ codes "close" ∷ codes "size" ∷ codes "recover-storage"
    ∷ codes "reset-storage" ∷ codes "keys" ∷ codes "remove-all" ∷ codes "sync" ∷ codes "discard" ∷ codes "files" ∷ [])

abbrev pub takes_element : List ℕ → Bool
takes_element = is_among (codes "exists" ∷ codes "get" ∷ codes "remove" ∷ codes "recover-key" ∷ codes "reset-key"
    ∷ codes "file-exists" ∷ codes "size-of" ∷ codes "info" ∷ codes "delete" ∷ codes "recover-file"
    ∷ codes "reset-file" ∷ codes "cat" ∷ [])

abbrev pub takes_handle : List ℕ → Bool
takes_handle = is_among (codes "close-file" ∷ codes "peek" ∷ codes "byte" ∷ codes "read-all" ∷ codes "handle-size"
    ∷ codes "position" ∷ codes "eof" ∷ codes "flush" ∷ [])

abbrev pub takes_number : List ℕ → Bool
takes_number = is_among (codes "read" ∷ codes "set-size" ∷ codes "seek" ∷ [])

-- of a call that takes what no other does
abbrev pub needed_once : List ℕ → Option (List Needed)
needed_once call =
    if bytes_eq call (codes "get-as") then Some (needed.Name ∷ needed.Name ∷ needed.TypeText ∷ []) else (
    if bytes_eq call (codes "set") then Some (needed.Name ∷ needed.Name ∷ needed.ValueText ∷ []) else (
    if bytes_eq call (codes "put") then Some (needed.Name ∷ needed.Name ∷ needed.Octets ∷ []) else (
    if bytes_eq call (codes "open-file") then Some
    (needed.Name ∷ needed.Name ∷ needed.OpenKind ∷ needed.OpenMode ∷ []) else (
    if bytes_eq call (codes "line") then Some (needed.Name ∷ needed.Handle ∷ needed.Octet ∷ []) else (
    if bytes_eq call (codes "write") then Some (needed.Name ∷ needed.Handle ∷ needed.Octets ∷ []) else (
    if bytes_eq call (codes "move") then Some
    (needed.Name ∷ needed.Handle ∷ needed.Origin ∷ needed.Offset ∷ []) else None))))))

-- what is needed after the word of a call; none where the word is that of no call
abbrev pub needed_after : List ℕ → Option (List Needed)
needed_after call =
    if takes_nothing call then Some [] else (
    if takes_text call then Some (needed.Manifest ∷ []) else (
    if takes_storage call then Some (needed.Name ∷ []) else (
    if takes_element call then Some (needed.Name ∷ needed.Name ∷ []) else (
    if takes_handle call then Some (needed.Name ∷ needed.Handle ∷ []) else (
    if takes_number call then Some (needed.Name ∷ needed.Handle ∷ needed.Number ∷ []) else needed_once call)))))

-- ---- where the text has something else

-- the words of rows
abbrev pub words_of : {A : Type 0} → List (List ℕ × A) → List (List ℕ)
words_of rows = map (λ row. row.0) rows

-- the text is what is needed, and all of it
abbrev pub meets : Needed → List ℕ → Bool
meets needed.Application text = is_some (application_digit text)
meets needed.CallWord text = is_some (needed_after text)
meets needed.Name text = is_name text
meets needed.Handle text = is_some (unsigned_in (2 ^ 32) text)
meets needed.Number text = is_some (unsigned_in (2 ^ 64) text)
meets needed.TypeText text = is_some (kind_in text)
meets needed.ValueText text = is_some (value_in text)
meets needed.TypedNumber text = is_typed_number text
meets needed.Octets text = is_some (bytes_in text)
meets needed.Octet text = is_some (octet_in text)
meets needed.Manifest text = not (nat_eq (length text) 0) && not (has_feed text)
meets needed.OpenKind text = is_among (words_of kind_words) text
meets needed.OpenMode text = is_among (words_of other_modes) text || is_among (words_of appending_modes) text
meets needed.Origin text = is_among (words_of origin_words) text
meets needed.Offset text = is_some (signed_in (2 ^ 63) text)
meets needed.End text = nat_eq (length text) 0

-- A place of a text is what is needed there, and how many bytes the text has from there on.

-- where the text of a value is none: the first number in it that is none of its type, else all of it
abbrev pub unmet_value : Option ℕ → List ℕ → Needed × ℕ
unmet_value None text = (needed.ValueText, length text)
unmet_value (Some left) text = (needed.TypedNumber, left)

abbrev pub unmet_place : Needed → List ℕ → Needed × ℕ
unmet_place needed.ValueText text = unmet_value (wrong_number value_place.Front text) text
unmet_place n text = (n, length text)

-- what is needed last takes all that is left; where the first word of that would do, the text is to end after it
abbrev pub unmet_last : Needed → List ℕ → Option (Needed × ℕ)
unmet_last n text =
    if meets n text then None else (
    if has_space text && meets n (leading_word text)
    then Some (needed.End, length text - leading_length text) else Some (unmet_place n text))

-- the first place with something else, where these are needed, with one space between them
abbrev pub unmet : List Needed → List ℕ → Option (Needed × ℕ)
unmet [] text = None
unmet (n ∷ []) text = unmet_last n text
unmet (n ∷ next ∷ others) text =
    if not (meets n (leading_word text)) then Some (n, length text) else (
    if has_space text then unmet (next ∷ others) (after_space text) else Some (next, 0))

-- after the word of a call
abbrev pub unmet_after : Option (List Needed) → List ℕ → Option (Needed × ℕ)
unmet_after None text = Some (needed.CallWord, length text)
unmet_after (Some []) text = if has_space text then Some (needed.End, length text - leading_length text) else None
unmet_after (Some (n ∷ others)) text = if has_space text then unmet (n ∷ others) (after_space text) else Some (n, 0)

-- the same, of the text of a call from its word on, and of a whole line
abbrev pub unmet_in_call : List ℕ → Option (Needed × ℕ)
unmet_in_call text = unmet_after (needed_after (leading_word text)) text

abbrev pub unmet_in_line : List ℕ → Option (Needed × ℕ)
unmet_in_line text =
    if bytes_eq (leading_word text) (codes "now") then unmet_after (Some (needed.Number ∷ [])) text else (
    if bytes_eq (leading_word text) (codes "end") then unmet_after (Some []) text else (
    if not (meets needed.Application (leading_word text)) then Some (needed.Application, length text) else (
    if has_space text then unmet_in_call (after_space text) else Some (needed.CallWord, 0))))

-- the flaw at a place of a text of this size; its column is counted from 1
abbrev pub flaw_at : ℕ → Needed × ℕ → Flaw
flaw_at size place = record { needed = place.0; column = suc size - place.1 }

-- where a text that is no line stops being one; one that is too long after as many bytes as a line may have, 262144
abbrev pub flaw_in : List ℕ → Option Flaw
flaw_in line = option_map (flaw_at (length line)) (if nat_lt 262144 (length line)
    then Some (needed.End, length line - 262144) else unmet_in_line line)
