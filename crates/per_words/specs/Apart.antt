-- The words of a shell, told apart: options with their values, what is named, and the operands after the word `--`. How
-- a word is read depends on those before it: a definition that takes a role takes that of the (first) word.
use Rattle.std.specs.Prelude.{ℕ, List, [], ◌∷◌, codes, Bool, true, false, not, ◌&&◌, ◌||◌, nat_eq, if◌then◌else◌}
use Rattle.std.specs.Prelude.{Option, Some, None}
use Rattle.std.specs.List.{list_any, starts_with}
use Rattle.std.specs.Str.{bytes_eq}
use Rattle.per_words.specs.Words.{is_among}
use Rattle.per_words.specs.declared.words.WordRole.{WordRole}
use Rattle.per_words.specs.declared.words.WordRole.TheVariants as reading

-- the word begins with two dashes
abbrev pub is_option : List ℕ → Bool
is_option word = starts_with nat_eq word (codes "--")

-- the next word belongs to this one, as the value of an option
abbrev pub takes_value : List ℕ → Bool
takes_value = is_among (codes "--dir" ∷ codes "--flash" ∷ codes "--generate" ∷ codes "--export" ∷ codes "--import"
    ∷ codes "--list" ∷ codes "--recover-root" ∷ [])

-- how a word is read: as an option or what is named, as the value of an option, or as an operand, whatever it is
abbrev pub reading_after : WordRole → List ℕ → WordRole
reading_after reading.Word word =
    if bytes_eq word (codes "--") then reading.Operand else (
    if takes_value word then reading.Value else reading.Word)
reading_after reading.Value word = reading.Word
reading_after reading.Operand word = reading.Operand

-- the word is an option, or the value of one
abbrev pub is_of_options : WordRole → List ℕ → Bool
is_of_options reading.Word word = is_option word && not (bytes_eq word (codes "--"))
is_of_options reading.Value word = true
is_of_options reading.Operand word = false

-- options and their values
abbrev pub options_in : WordRole → List (List ℕ) → List (List ℕ)
options_in r [] = []
options_in r (w ∷ ws) =
    if is_of_options r w then w ∷ options_in (reading_after r w) ws else options_in (reading_after r w) ws

-- the word is one of the call: it is an operand, or no option
abbrev pub is_call_word : WordRole → List ℕ → Bool
is_call_word reading.Word word = not (is_option word)
is_call_word reading.Value word = false
is_call_word reading.Operand word = true

-- all words of the call
abbrev pub named_words : WordRole → List (List ℕ) → List (List ℕ)
named_words r [] = []
named_words r (w ∷ ws) =
    if is_call_word r w then w ∷ named_words (reading_after r w) ws else named_words (reading_after r w) ws

-- the word is this option, and no operand
abbrev pub is_asked : (option : List ℕ) → WordRole → List ℕ → Bool
is_asked option reading.Word word = bytes_eq word option
is_asked option reading.Value word = bytes_eq word option
is_asked option reading.Operand word = false

-- some word before the operands is this option
abbrev pub asks_for : (option : List ℕ) → WordRole → List (List ℕ) → Bool
asks_for option r [] = false
asks_for option r (w ∷ ws) = if is_asked option r w then true else asks_for option (reading_after r w) ws

-- an option of a run without a value
abbrev pub is_flag : List ℕ → Bool
is_flag = is_among (codes "--format" ∷ codes "--audit" ∷ codes "--serve" ∷ [])

-- an option of a run with its value after an equals sign
abbrev pub has_value : List ℕ → Bool
has_value word = list_any (λ front. starts_with nat_eq word front)
    (codes "--dir=" ∷ codes "--flash=" ∷ codes "--generate=" ∷ codes "--export=" ∷ codes "--import="
    ∷ codes "--list=" ∷ codes "--recover-root=" ∷ [])

-- the word is an option of a run, with its value after an equals sign or not
abbrev pub is_known : List ℕ → Bool
is_known word = takes_value word || (is_flag word || has_value word)

-- a run does not know the word: it is no option of one and no value, or an operand
abbrev pub is_unknown : WordRole → List ℕ → Bool
is_unknown reading.Word word = not (is_known word) && not (bytes_eq word (codes "--"))
is_unknown reading.Value word = false
is_unknown reading.Operand word = true

-- the first such word
abbrev pub unknown_in : WordRole → List (List ℕ) → Option (List ℕ)
unknown_in r [] = None
unknown_in r (w ∷ ws) = if is_unknown r w then Some w else unknown_in (reading_after r w) ws
