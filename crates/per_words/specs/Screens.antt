-- A text on a screen of 80 columns.
use Rattle.std.specs.Prelude.{◌+◌, ℕ, suc, List, [], ◌∷◌, ◌++◌, chars, codes, encode_utf8, flat_map, Bool, false, not}
use Rattle.std.specs.Prelude.{◌&&◌, ◌||◌, nat_eq, nat_lt, if◌then◌else◌}
use Rattle.std.specs.Char.{is_control}
use Rattle.std.specs.Fmt.{digits}
use Rattle.std.specs.List.{list_all}
use Rattle.per_words.specs.Flaws.{leading_length}

-- a row ends at this byte, before this text: it is a space, and with it the word after it passes the last column
abbrev pub breaks : (column byte : ℕ) → List ℕ → Bool
breaks column byte text = nat_eq byte 32 && nat_lt 80 (suc column + leading_length text)

-- in its place a row begins, set in
abbrev pub piece : Bool → ℕ → List ℕ
piece is_break byte = if is_break then codes "\n     " else byte ∷ []

-- where what follows begins; past the last column all are one
abbrev pub next_column : ℕ → Bool → ℕ
next_column column is_break = if is_break then 5 else (if nat_lt column 80 then suc column else column)

-- a text from this column on, with a row for each word that would pass the last column of the one before, so that only
-- a row of a single word is longer than the screen is wide
abbrev pub broken : (column : ℕ) → List ℕ → List ℕ
broken column [] = []
broken column (byte ∷ text) = piece (breaks column byte text) byte
    ++ broken (next_column column (breaks column byte text)) text

-- the character would neither begin a row nor move the cursor: it is no control character, of ASCII or from U+0080 to
-- U+009F, and separates neither lines nor paragraphs (U+2028, U+2029)
abbrev pub is_visible : ℕ → Bool
is_visible c = not (is_control c || (nat_eq c 0x2028 || nat_eq c 0x2029))

-- no character of the text would begin a row or move the cursor
abbrev pub are_visible : List ℕ → Bool
are_visible text = list_all is_visible (chars text)

-- what stands for a character: itself, or its number in hexadecimal digits
abbrev pub visible_char : ℕ → List ℕ
visible_char c = if is_visible c then encode_utf8 c else codes "\\u{" ++ (digits 16 false c ++ codes "}")

-- the text with the number of each character that would begin a row or move the cursor in its place
abbrev pub visible : List ℕ → List ℕ
visible text = flat_map visible_char (chars text)
