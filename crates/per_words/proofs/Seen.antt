-- Whether a text is visible, character by character.
use Rattle.std.proofs.Common.{◌≡◌, ℕ, Bool, true, false, List, [], ◌∷◌, ◌++◌, length, ◌&&◌, IsUtf8, encode_utf8}
use Rattle.std.proofs.Common.{ap, sym, ◌∙◌}
use Rattle.std.specs.List.{list_all}
use Rattle.std.proofs.lemmas.Str.{chars-nil, chars_past_char}
use Rattle.per_words.specs.Screens.{are_visible, is_visible}

-- nothing is left
pub all_seen : (text : List ℕ) (whole : Bool) → length text ≡ 0 → are_visible text ≡ whole → true ≡ whole
all_seen [] whole empty so = ap (list_all is_visible) (sym chars-nil) ∙ so
all_seen (byte ∷ text) whole empty so = absurd cc

visible_step : (text rest : List ℕ) (c : ℕ) → IsUtf8 text → text ≡ encode_utf8 c ++ rest
    → (is_visible c && are_visible rest) ≡ are_visible text
visible_step text rest c utf8 is = sym (ap (list_all is_visible) (chars_past_char text rest c utf8 is))

-- the next character is visible, and what follows is left; or it is not
pub one_seen : (text rest : List ℕ) (c : ℕ) (whole : Bool) → IsUtf8 text → text ≡ encode_utf8 c ++ rest
    → is_visible c ≡ true → are_visible text ≡ whole → are_visible rest ≡ whole
one_seen text rest c whole utf8 is seen so =
    ap (λ v. v && are_visible rest) (sym seen) ∙ (visible_step text rest c utf8 is ∙ so)

pub one_unseen : (text rest : List ℕ) (c : ℕ) (whole : Bool) → IsUtf8 text → text ≡ encode_utf8 c ++ rest
    → is_visible c ≡ false → are_visible text ≡ whole → false ≡ whole
one_unseen text rest c whole utf8 is unseen so =
    ap (λ v. v && are_visible rest) (sym unseen) ∙ (visible_step text rest c utf8 is ∙ so)
