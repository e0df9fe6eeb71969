-- What the words of a call say.
use Rattle.std.specs.Prelude.{◌≡◌, ℕ, List, [], ◌∷◌, true, codes, Option, Some, None}
use Rattle.std.specs.Str.{bytes_eq}
use Rattle.per_words.specs.Words.{AreFed, call_lines, takes_manifest}
use Rattle.shell_calls.specs.declared.accepting.Accepted.{Accepted}
use Rattle.shell_calls.specs.declared.accepting.Accepted.TheVariants as accepted

-- the lines of a call that takes nothing
abbrev pub lines_of : Accepted → Option (List ℕ)
lines_of (accepted.Lines text) = Some text.items
lines_of other = None

-- the words of a call say so: its lines, or to what it is made and the one file that it takes
abbrev pub IsAcceptedOf : (call target : List ℕ) → (arguments : List (List ℕ)) → Accepted → Type 0
IsAcceptedOf call target arguments (accepted.Lines text) =
    (lines : List (List ℕ)) × (call_lines call target arguments ≡ Some lines) × AreFed lines text.items
IsAcceptedOf call target arguments (accepted.Manifest its_call its_target file) =
    (takes_manifest call ≡ true)
    × ((its_call.now ≡ call) × ((its_target.now ≡ target) × (arguments ≡ file.now ∷ [])))
IsAcceptedOf call target arguments (accepted.Content its_target file) =
    (bytes_eq call (codes "put") ≡ true) × ((its_target.now ≡ target) × (arguments ≡ file.now ∷ []))
