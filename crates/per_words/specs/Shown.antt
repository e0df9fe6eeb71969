-- What a person is shown of a line of a reply.
use Rattle.std.specs.Prelude.{◌≡◌, ◌<◌, ℕ, List, [], ◌∷◌, ◌++◌, map, codes, Bool, ◌||◌, nat_eq, slice_index}
use Rattle.std.specs.Prelude.{if◌then◌else◌, Option, Some, None, is_some, unwrap_or}
use Rattle.std.specs.Str.{bytes_eq}
use Rattle.value_text.specs.Readers.{branch, literal_at}
use Rattle.value_text.specs.Texts.{hex_text}
use Rattle.per_words.specs.declared.showing.Shown.{Shown}
use Rattle.per_words.specs.declared.showing.Shown.TheVariants as shown

-- the line begins with the word
abbrev pub begins : List ℕ → List ℕ → Bool
begins word line = is_some (literal_at word line)

-- it says that something was done, that there are no names or bytes, or a handle that only this run has
abbrev pub says_nothing : List ℕ → Bool
says_nothing line = bytes_eq line (codes "ok") || (bytes_eq line (codes "names") || (bytes_eq line (codes "bytes")
    || begins (codes "handle ") line))

-- what follows the word of an answer that is one text
abbrev pub text_after_word : List ℕ → Option (List ℕ)
text_after_word line = branch (literal_at (codes "value ") line) (λ rest. Some rest)
    (branch (literal_at (codes "number ") line) (λ rest. Some rest)
    (branch (literal_at (codes "byte ") line) (λ rest. Some rest)
    (branch (literal_at (codes "info ") line) (λ rest. Some rest)
    (literal_at (codes "status ") line))))

-- what was found is shown so, or else the other
abbrev pub shown_as : Shown → Option (List ℕ) → Shown × List ℕ → Shown × List ℕ
shown_as s None other = other
shown_as s (Some text) other = (s, text)

-- the text of an answer that was given: names, bytes, or one text, which is the whole line where no word is before it
abbrev pub given_in : List ℕ → Shown × List ℕ
given_in line = shown_as shown.Names (literal_at (codes "names ") line)
    (shown_as shown.Octets (literal_at (codes "bytes ") line) (shown.Text, unwrap_or (text_after_word line) line))

-- what a line is to a person, and its text
abbrev pub shown_in : List ℕ → Shown × List ℕ
shown_in line =
    if begins (codes "error 4 ") line then (shown.Failed, line) else (
    if begins (codes "error ") line || begins (codes "bad-line ") line then (shown.Refused, line) else (
    if begins (codes "report ") line then (shown.Report, line) else (
    if says_nothing line then (shown.Nothing, line) else given_in line)))

-- a byte of names, each of which ends its line
abbrev pub ended : ℕ → ℕ
ended byte = if nat_eq byte 32 then 10 else byte

-- what is written of it: names on lines of their own, bytes as they are, and another text as a line
abbrev pub IsWritten : Shown → List ℕ → List ℕ → Type 0
IsWritten shown.Text text out = out ≡ text ++ 10 ∷ []
IsWritten shown.Names text out = out ≡ map ended text ++ 10 ∷ []
IsWritten shown.Octets text out = (bytes : List ℕ) → ((i : ℕ) → slice_index bytes i < 256) → text ≡ hex_text bytes
    → text ≡ hex_text out
IsWritten other text out = out ≡ []
