-- A text is broken byte by byte.
use Rattle.std.proofs.Common.{◌≡◌, ◌∷◌, ◌++◌, ◌∙◌, ℕ, List, Bool, append_assoc}
use Rattle.per_words.specs.Screens.{breaks, broken, next_column, piece}

-- after the rows so far comes the next byte, or a row begins in its place
pub more_rows : (rows new text rest all : List ℕ) (column next byte : ℕ) (is_break : Bool)
    → rows ++ broken column text ≡ all → text ≡ byte ∷ rest → is_break ≡ breaks column byte rest
    → new ≡ rows ++ piece is_break byte → next ≡ next_column column is_break → new ++ broken next rest ≡ all
more_rows rows new text rest all column next byte is_break before begins is grown moved =
    rw grown (rw moved (rw is (append_assoc rows (piece (breaks column byte rest) byte)
    (broken (next_column column (breaks column byte rest)) rest) ∙ (rw begins at before))))
