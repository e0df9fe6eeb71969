-- The lines of an input, and the commands that they give.
use Rattle.std.specs.Prelude.{◌≡◌, ◌⊎◌, ◌≤◌, ◌<◌, ℕ, List, [], ◌∷◌, ◌++◌, length, Bool, true, false, codes, ◌==◌}
use Rattle.std.specs.Prelude.{if◌then◌else◌}
use Rattle.command_text.specs.declared.calls.Event.{Event}
use Rattle.command_text.specs.declared.lines.Line.{Line}
use Rattle.command_text.specs.declared.lines.Line.TheVariants as line
use Rattle.command_text.specs.Grammar.{IsLine}

-- a byte in front of the first line, or of the rest where no line has ended
abbrev pub onto_first : ℕ → List (List ℕ) × List ℕ → List (List ℕ) × List ℕ
onto_first byte ([], rest) = ([], byte ∷ rest)
onto_first byte ((l ∷ ls), rest) = ((byte ∷ l) ∷ ls, rest)

-- the lines that end with a line feed, and what stands after the last of them
abbrev pub split_lines : List ℕ → List (List ℕ) × List ℕ
split_lines [] = ([], [])
split_lines (byte ∷ bytes) = if byte == 10 then ([] ∷ (split_lines bytes).0, (split_lines bytes).1) else onto_first byte
    (split_lines bytes)

-- what stands after the last line feed, as a line of its own where it is not empty
abbrev pub last_line : List ℕ → List (List ℕ)
last_line [] = []
last_line (byte ∷ bytes) = (byte ∷ bytes) ∷ []

-- the lines of the input so far; a last one without its line feed counts where the end was seen
abbrev pub lines_of : (ended : Bool) → List ℕ → List (List ℕ)
lines_of ended bytes = (split_lines bytes).0 ++ (if ended then last_line (split_lines bytes).1 else [])

-- the text is outside the grammar
abbrev pub IsBad : List ℕ → Type 0
IsBad text = (l : Line) → IsLine text l → ⊥

-- the lines give these commands in order: each line is nothing or the next of them
abbrev pub Give : List (List ℕ) → List Event → Type 0
Give [] events = events ≡ []
Give (text ∷ texts) events = (IsLine text line.Nothing × Give texts events)
    ⊎ ((first : Event) × (rest : List Event) × IsLine text (line.Event first) × (events ≡ first ∷ rest)
    × Give texts rest)

-- a whole input in the grammar: every line is, up to the end of the input or to `end`, and that comes before as many
-- bytes as are allowed, 67108864 (64 MiB)
pub data IsWellFormed (left : List ℕ) : Type 0 where
  all_read : (events : List Event) → length left < 67108864 → Give (lines_of true left) events → IsWellFormed left
  end_last : (lines : List (List ℕ)) (events : List Event) → length left < 67108864
      → lines_of true left ≡ lines ++ codes "end" ∷ [] → Give lines events
      → IsWellFormed left
  end_line : (front rest : List ℕ) (lines others : List (List ℕ)) (events : List Event) → left ≡ front ++ rest
      → length front ≤ 67108864
      → lines_of false front ≡ lines ++ codes "end" ∷ others → Give lines events → IsWellFormed left
