-- Characters and bytes as they are written.
use Rattle.std.proofs.Common.{◌≡◌, ℕ, ◌≤◌, nat_lt, List, [], ◌∷◌, refl, arith}
use Rattle.std.specs.Prelude.{encode_utf8}
use Rattle.std.proofs.lemmas.Bool.{ne_eqb, cond_both}
use lib.Utf8.{encode}
use Rattle.value_text.specs.Texts.{escaped_byte, escaped}

plain_byte : (b : ℕ) → (b ≡ 34 → ⊥) → (b ≡ 92 → ⊥) → (b ≡ 10 → ⊥) → escaped_byte b ≡ b ∷ []
plain_byte b quote backslash feed = rw (ne_eqb b 34 quote, ne_eqb b 92 backslash, ne_eqb b 10 feed) refl

high_byte : (b : ℕ) → 128 ≤ b → escaped_byte b ≡ b ∷ []
high_byte b high = plain_byte b (λ e. omega arith) (λ e. omega arith) (λ e. omega arith)

abbrev Plain : List ℕ → Type 0
Plain bytes = escaped bytes ≡ bytes

two : (a b : ℕ) → 128 ≤ a → 128 ≤ b → Plain (a ∷ b ∷ [])
two a b ha hb = rw (high_byte a ha, high_byte b hb) refl

three : (a b c : ℕ) → 128 ≤ a → 128 ≤ b → 128 ≤ c → Plain (a ∷ b ∷ c ∷ [])
three a b c ha hb hc = rw (high_byte a ha, high_byte b hb, high_byte c hc) refl

four : (a b c d : ℕ) → 128 ≤ a → 128 ≤ b → 128 ≤ c → 128 ≤ d → Plain (a ∷ b ∷ c ∷ d ∷ [])
four a b c d ha hb hc hd = rw (high_byte a ha, high_byte b hb, high_byte c hc, high_byte d hd) refl

-- a character that is not escaped stands as it is
pub plain_char : (c : ℕ) → (c ≡ 34 → ⊥) → (c ≡ 92 → ⊥) → (c ≡ 10 → ⊥) → escaped (encode_utf8 c) ≡ encode_utf8 c
unfolding encode
plain_char c quote backslash feed =
    cond_both (nat_lt c 128) _ _ Plain
    (λ _. rw (plain_byte c quote backslash feed) refl)
    (λ _. cond_both (nat_lt c 2048) _ _ Plain
    (λ _. two _ _ (omega arith) (omega arith))
    (λ _. cond_both (nat_lt c 65536) _ _ Plain
    (λ _. three _ _ _ (omega arith) (omega arith) (omega arith))
    (λ _. four _ _ _ _ (omega arith) (omega arith) (omega arith) (omega arith))))
