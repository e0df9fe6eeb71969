-- What is wrong with an argument.
use Rattle.std.specs.Prelude.{ℕ, List, [], ◌∷◌, ◌++◌, codes, Bool, ◌&&◌, ◌||◌, false, nat_eq, if◌then◌else◌}
use Rattle.std.specs.Prelude.{Option, Some, None}
use Rattle.std.specs.List.{starts_with}
use Rattle.std.specs.Str.{bytes_eq}
use Rattle.per_words.specs.Prompts.{is_line_word}
use Rattle.per_reasons.specs.Reasons.{dots_after}

-- one of these words begins with a dash and stands after --dir, or first where that one stands before them
abbrev pub has_dashed_folder : (is_after : Bool) → List (List ℕ) → Bool
has_dashed_folder is_after [] = false
has_dashed_folder is_after (word ∷ words) =
    (is_after && starts_with nat_eq word (codes "-")) || has_dashed_folder (bytes_eq word (codes "--dir")) words

-- what is said of a word of which this is shown: that it is a call of a line, or none of the arguments
abbrev pub said_of_other : (word shown : List ℕ) → List ℕ
said_of_other word shown =
    if is_line_word word then shown ++ codes " is a call of a line: ./per --dir DIR handles lines" else
    shown ++ (dots_after word ++ codes " is none of these")

-- what is said of a word that is none of the arguments, and of which this is shown; nothing of an empty one
abbrev pub said_of_word : (word shown : List ℕ) → Option (List ℕ)
said_of_word word shown =
    if bytes_eq shown [] then None else (
    if bytes_eq shown (codes "--demo") then Some (codes "--demo stands alone") else (
    if bytes_eq shown (codes "--json") then Some (codes "--json stands beside ls alone") else (
    Some (said_of_other word shown))))
