-- What is said of a wrong word that is not shown.
use Rattle.std.proofs.Common.{◌≡◌, List, ℕ, [], ◌∷◌, ◌++◌, codes, ap}
use Rattle.std.proofs.lemmas.Str.{IsUtf8-nil, chars-nil}
use Rattle.std.specs.List.{list_all}
use Rattle.per_words.specs.Screens.{is_visible}
use Rattle.per_reasons.specs.Reasons.{IsNeededText, IsShown}

pub wrong : (word dots needed text : List ℕ) → (IsShown word → ⊥) → text ≡ codes "what is wrong is to be " ++ needed
    → IsNeededText word dots needed text
wrong [] dots needed text lacks is = absurd (lacks (IsUtf8-nil, ap (list_all is_visible) chars-nil))
wrong (byte ∷ word) dots needed text lacks is = (λ shown. absurd (lacks shown), λ none. is)
