-- What a prompt shows, and which rows of a help a person asks for.
use Rattle.std.specs.Prelude.{◌+◌, ℕ, suc, List, [], ◌∷◌, length, take, codes, Bool, ◌&&◌, ◌||◌, nat_le, if◌then◌else◌}
use Rattle.std.specs.Prelude.{Option, Some, None, is_some, option_map, unwrap_or, false}
use Rattle.std.specs.Str.{bytes_eq}
use Rattle.value_text.specs.Readers.{branch, literal_at}
use Rattle.per_words.specs.Flaws.{after_space, has_space, leading_length, leading_word, needed_after}
use Rattle.per_words.specs.Shown.{begins}
use Rattle.per_words.specs.Words.{application_digit, is_among}

-- an application and the word after it
abbrev pub call_shown : List ℕ → Option (List ℕ)
call_shown line =
    if is_some (application_digit (leading_word line)) && has_space line
    then Some (take (suc (leading_length line) + leading_length (after_space line)) line) else None

-- what stands after help
abbrev pub help_asked : List ℕ → Option (List ℕ)
help_asked line = if bytes_eq line (codes "help") then Some [] else literal_at (codes "help ") line

-- a line begins with the word, or it is that of a call
abbrev pub is_line_word : List ℕ → Bool
is_line_word word = is_among (codes "now" ∷ codes "end" ∷ []) word || is_some (needed_after word)

-- the word of a row of a help: two spaces stand before it, or two spaces and an application, which is 0 there
abbrev pub row_word : List ℕ → Option (List ℕ)
row_word row = branch (literal_at (codes "  0 ") row) (λ rest. Some (leading_word rest))
    (option_map leading_word (literal_at (codes "  ") row))

-- the row is one of this word: a row that is set in further goes on with the one before it, which was (`is_inside`)
abbrev pub belongs : List ℕ → Bool → List ℕ → Bool
belongs word is_inside row =
    if begins (codes "   ") row then is_inside else
    unwrap_or (option_map (λ other. bytes_eq other word) (row_word row)) false

-- the rows of this word; `is_inside` says that the row before them was one
abbrev pub rows_of : List ℕ → Bool → List (List ℕ) → List (List ℕ)
rows_of word is_inside [] = []
rows_of word is_inside (row ∷ rows) =
    if belongs word is_inside row then row ∷ rows_of word (belongs word is_inside row) rows
    else rows_of word (belongs word is_inside row) rows

-- the column after a space and the word, where a screen of 80 columns has room for them
abbrev pub column_after : ℕ → List ℕ → Option ℕ
column_after column word =
    if nat_le (column + suc (length word)) 80 then Some (column + suc (length word)) else None
