-- Why a line was refused, in words.
use Rattle.std.specs.Prelude.{◌≡◌, ◌-◌, ⊤, ℕ, List, [], ◌∷◌, ◌++◌, codes, drop, take, true, ◌&&◌, nat_eq, nat_lt}
use Rattle.std.specs.Prelude.{if◌then◌else◌, Option, Some, None, option_map}
use Rattle.std.specs.List.{ends_with}
use Rattle.std.specs.Fmt.{decimal}
use Rattle.std.specs.Str.{IsUtf8}
use Rattle.per_words.specs.Flaws.{after_space, flaw_in, has_space, leading_length, leading_word, takes_text}
use Rattle.per_words.specs.declared.flaws.Flaw.{Flaw}
use Rattle.per_words.specs.declared.needs.Needed.{Needed}
use Rattle.per_words.specs.declared.needs.Needed.TheVariants as needed
use Rattle.per_words.specs.Numbers.{leading_number}
use Rattle.per_words.specs.Screens.{are_visible}
use Rattle.per_reasons.specs.Numbers.{needed_digits, needed_number, needed_value}

-- ---- a text that is no line

-- what a line has at a place, in the place of this text; none where it has nothing more
abbrev pub needed_text : Needed → (text : List ℕ) → Option (List ℕ)
needed_text needed.Application text = Some (codes "an application, 0 to 7, or now or end")
needed_text needed.CallWord text = Some (codes "the word of a call")
needed_text needed.Name text = Some (codes "a name of 1 to 255 ASCII letters, digits, _, -, . or /")
needed_text needed.Handle text = Some (needed_digits text (codes "the number of a handle, 0 to 4294967295"))
needed_text needed.Number text = Some (needed_digits text (codes "a number from 0 to 18446744073709551615"))
needed_text needed.TypeText text = Some (codes "a type, as u8")
needed_text needed.ValueText text = Some (needed_value text)
needed_text needed.TypedNumber text = Some (needed_number text)
needed_text needed.Octets text = Some (codes "bytes in two hexadecimal digits each, as 00ff")
needed_text needed.Octet text = Some (codes "a byte in two hexadecimal digits, as 0a")
needed_text needed.Manifest text = Some (codes "a manifest")
needed_text needed.OpenKind text = Some (codes "r, w or rw")
needed_text needed.OpenMode text =
    Some (codes "none, or some of begin, end, truncate, append in this order, joined by +")
needed_text needed.Origin text = Some (codes "begin, current or end")
needed_text needed.Offset text =
    Some (needed_digits text (codes "a number from -9223372036854775808 to 9223372036854775807"))
needed_text needed.End text = None

-- what is said of a line that ends with a carriage return
abbrev pub ending_text : List ℕ → List ℕ
ending_text line =
    if ends_with nat_eq line (13 ∷ []) then codes ", and the line ends with a carriage return" else []

-- what is needed at the column
abbrev pub column_text : Option (List ℕ) → (column : ℕ) → (ending : List ℕ) → List ℕ
column_text None column ending = codes "it is to end before column " ++ (decimal column ++ ending)
column_text (Some needed) column ending =
    codes "column " ++ (decimal column ++ (codes " is to be " ++ (needed ++ ending)))

-- what is said of a text that is no line: where it stops being one, and what is needed there
abbrev pub no_line_text : List ℕ → Option (List ℕ)
no_line_text line = option_map
    (λ (flaw : Flaw).
    column_text (needed_text flaw.needed (drop (flaw.column - 1) line)) flaw.column (ending_text line))
    (flaw_in line)

-- ---- words that are no call

-- how much of the first word is shown: at most 60 bytes
abbrev pub shown_length : List ℕ → ℕ
shown_length text = if nat_lt 60 (leading_length text) then 60 else leading_length text

-- that much of it
abbrev pub word_shown : List ℕ → List ℕ
word_shown text = take (shown_length text) text

-- what follows where not all of it is
abbrev pub dots_after : List ℕ → List ℕ
dots_after text = if nat_lt 60 (leading_length text) then codes ".." else []

-- the word is shown: a text without characters that would begin a row or move the cursor
abbrev pub IsShown : List ℕ → Type 0
IsShown word = IsUtf8 word × (are_visible word ≡ true)

-- what is needed in place of this word, of which no more is shown
abbrev pub IsNeededText : (word dots needed text : List ℕ) → Type 0
IsNeededText [] dots needed text = text ≡ codes "what is missing is " ++ needed
IsNeededText (byte ∷ word) dots needed text =
    (IsShown (byte ∷ word) → text ≡ (byte ∷ word) ++ (dots ++ (codes " is to be " ++ needed)))
    × (¬ (IsShown (byte ∷ word)) → text ≡ codes "what is wrong is to be " ++ needed)

-- what is needed in place of these bytes, with which the first wrong word begins
abbrev pub IsWordText : Option (List ℕ) → (rest text : List ℕ) → Type 0
IsWordText None rest text = text ≡ codes "it takes fewer words"
IsWordText (Some needed) rest text = IsNeededText (word_shown rest) (dots_after rest) needed text

-- the part of a text that is wrong, where this is needed at its beginning: of a value a number alone
abbrev pub wrong_part : Needed → List ℕ → List ℕ
wrong_part needed.TypedNumber text = leading_number text
wrong_part other text = text

-- what is said of this part, where this is needed in its place
abbrev pub IsFlawText : Needed → (part text : List ℕ) → Type 0
IsFlawText n part text = IsWordText (needed_text n part) part text

-- which word is none of the call with this line, where it has a flaw: it says so exactly then
abbrev pub SaysNoCall : List ℕ → Option Flaw → Option (List ℕ) → Type 0
SaysNoCall line None None = ⊤
SaysNoCall line (Some flaw) (Some text) =
    IsFlawText flaw.needed (wrong_part flaw.needed (drop (flaw.column - 1) line)) text
SaysNoCall line flaw why = ⊥

-- ---- a line that was answered

-- the manifest in a line that has one
abbrev pub manifest_of_line : List ℕ → Option (List ℕ)
manifest_of_line line =
    if has_space line && (has_space (after_space line) && takes_text (leading_word (after_space line)))
    then Some (after_space (after_space line)) else None

-- the answer to a bad line, and where the line stops being one
abbrev pub explained_text : (answer line : List ℕ) → Option (List ℕ)
explained_text answer line = option_map (λ why. answer ++ (codes ": " ++ why)) (no_line_text line)
