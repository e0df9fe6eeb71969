-- The laws of texts in quotes and of hexadecimal digits.
use Rattle.std.proofs.Common.{◌≡◌, ℕ, zero, suc, ◌+◌, ◌-◌, ◌*◌, ◌/◌, ◌%◌, ◌≤◌, ◌<◌, Bool, true, false, cond, nat_eq}
use Rattle.std.proofs.Common.{nat_le, nat_lt, ◌&&◌, List, [], ◌∷◌, ◌++◌, length, slice_index, Option, Some, None, inl}
use Rattle.std.proofs.Common.{inr, refl, sym, ap, subst, ◌∙◌, append_assoc, arith}
use Rattle.std.specs.Prelude.{codes}
use Rattle.std.specs.Str.{IsUtf8, is_utf8}
use Rattle.std.proofs.lemmas.Bool.{and_parts, cases_Bool, eqb-true, lt-ltb, le-ltb, leb-true, le-leb, lt-leb, cases_lt}
use Rattle.std.proofs.lemmas.Str.{is_utf8-from_IsUtf8, IsUtf8-from_is_utf8}
use Rattle.per_base.specs.Fields.{◌>>=◌, AreBytes}
use Rattle.per_base.specs.FieldLoops.{with_front}
use Rattle.value_text.specs.Texts.{escaped_byte, escaped, hex_digit, hex_byte_text, hex_text}
use Rattle.value_text.specs.Readers.{literal_at, hex_value, hex_byte_at, hex_bytes_at, meant_by, quoted_at}
use Rattle.value_text.specs.Parsing.{text_at}
use Rattle.value_text.specs.lemmas.Steps.{bind_some, if_some, else_some, chosen, branch_some, some_is}
use Rattle.value_text.specs.lemmas.Words.{literal_takes}
use Rattle.value_text.specs.lemmas.Lists.{Ends}

-- ---- texts in quotes

meant_is : (b m : ℕ) → meant_by b ≡ Some m → escaped_byte m ≡ 92 ∷ b ∷ []
meant_is b m e =
    elim (chosen (nat_eq b 34) (Some 34) (cond (nat_eq b 92) (Some 92) (cond (nat_eq b 110) (Some 10) None)) (Some m)
    e) [
      | inl p ↦ ap escaped_byte (sym (some_is 34 m p.1)) ∙ ap (λ (c : ℕ). 92 ∷ c ∷ []) (sym (eqb-true b 34 p.0))
      | inr p ↦
          elim (chosen (nat_eq b 92) (Some 92) (cond (nat_eq b 110) (Some 10) None) (Some m) p.1) [
            | inl q ↦ ap escaped_byte (sym (some_is 92 m q.1)) ∙ ap (λ (c : ℕ). 92 ∷ c ∷ []) (sym (eqb-true b 92 q.0))
            | inr q ↦
                let r = if_some (nat_eq b 110) (Some 10) m q.1 in
                ap escaped_byte (sym (some_is 10 m r.1)) ∙ ap (λ (c : ℕ). 92 ∷ c ∷ []) (sym (eqb-true b 110 r.0))
          ]
    ]

-- the bytes with the backslash that was read before them
abbrev whole : Bool → List ℕ → List ℕ
whole true bytes = 92 ∷ bytes
whole false bytes = bytes

abbrev Spelled : Bool → List ℕ → List ℕ × List ℕ → Type 0
Spelled behind bytes x = whole behind bytes ≡ escaped x.0 ++ 34 ∷ x.1

one_more : (front bytes : List ℕ) (m : ℕ) (x : List ℕ × List ℕ) → escaped_byte m ≡ front
    → bytes ≡ escaped x.0 ++ 34 ∷ x.1 → front ++ bytes ≡ escaped (m ∷ x.0) ++ 34 ∷ x.1
one_more front bytes m x e others = ap (λ (t : List ℕ). front ++ t) others
    ∙ ap (λ (t : List ℕ). t ++ (escaped x.0 ++ 34 ∷ x.1)) (sym e)
    ∙ sym (append_assoc (escaped_byte m) (escaped x.0) (34 ∷ x.1))

quoted_takes : (behind : Bool) (bytes : List ℕ) (x : List ℕ × List ℕ) → quoted_at behind bytes ≡ Some x
    → Spelled behind bytes x
unfolding quoted_at
quoted_takes true [] x e = absurd cc
quoted_takes false [] x e = absurd cc
quoted_takes true (b ∷ bytes) x e =
    let a = bind_some (meant_by b) (λ m. with_front (m ∷ []) (quoted_at false bytes)) x e in
    let d = bind_some (quoted_at false bytes) (λ y. Some ((a.0 ∷ []) ++ y.0, y.1)) x a.2 in
    subst (λ (y : List ℕ × List ℕ). Spelled true (b ∷ bytes) y) (some_is (a.0 ∷ d.0.0, d.0.1) x d.2)
    (one_more (92 ∷ b ∷ []) bytes a.0 d.0 (meant_is b a.0 a.1) (quoted_takes false bytes d.0 d.1))
quoted_takes false (b ∷ bytes) x e =
    elim (chosen (nat_eq b 34) (Some ([], bytes)) (cond (nat_eq b 92) (quoted_at true bytes)
    (cond (nat_eq b 10) None (with_front (b ∷ []) (quoted_at false bytes)))) (Some x) e) [
      | inl p ↦ subst (λ (y : List ℕ × List ℕ). Spelled false (b ∷ bytes) y) (some_is ([], bytes) x p.1)
          (ap (λ (c : ℕ). c ∷ bytes) (eqb-true b 34 p.0))
      | inr p ↦
          elim (chosen (nat_eq b 92) (quoted_at true bytes)
          (cond (nat_eq b 10) None (with_front (b ∷ []) (quoted_at false bytes))) (Some x) p.1) [
            | inl q ↦ ap (λ (c : ℕ). c ∷ bytes) (eqb-true b 92 q.0) ∙ quoted_takes true bytes x q.1
            | inr q ↦
                let r = else_some (nat_eq b 10) (with_front (b ∷ []) (quoted_at false bytes)) x q.1 in
                let d = bind_some (quoted_at false bytes) (λ y. Some ((b ∷ []) ++ y.0, y.1)) x r.1 in
                let plain : escaped_byte b ≡ b ∷ [] = rw (p.0, q.0, r.0) refl in
                subst (λ (y : List ℕ × List ℕ). Spelled false (b ∷ bytes) y) (some_is (b ∷ d.0.0, d.0.1) x d.2)
                (one_more (b ∷ []) bytes b d.0 plain (quoted_takes false bytes d.0 d.1))
          ]
    ]

quoted_step : (b : ℕ) (bytes t rest : List ℕ) → quoted_at false bytes ≡ Some (t, rest)
    → quoted_at false (escaped_byte b ++ bytes) ≡ Some (b ∷ t, rest)
unfolding quoted_at
quoted_step b bytes t rest others =
    let quote : quoted_at false (escaped_byte 34 ++ bytes) ≡ Some (34 ∷ t, rest) = rw others refl in
    let backslash : quoted_at false (escaped_byte 92 ++ bytes) ≡ Some (92 ∷ t, rest) = rw others refl in
    let feed : quoted_at false (escaped_byte 10 ++ bytes) ≡ Some (10 ∷ t, rest) = rw others refl in
    elim (cases_Bool (nat_eq b 34)) [
      | inl e ↦ subst (λ (c : ℕ). quoted_at false (escaped_byte c ++ bytes) ≡ Some (c ∷ t, rest))
          (sym (eqb-true b 34 e)) quote
      | inr no_quote ↦ elim (cases_Bool (nat_eq b 92)) [
        | inl e ↦ subst (λ (c : ℕ). quoted_at false (escaped_byte c ++ bytes) ≡ Some (c ∷ t, rest))
            (sym (eqb-true b 92 e)) backslash
        | inr no_backslash ↦ elim (cases_Bool (nat_eq b 10)) [
          | inl e ↦ subst (λ (c : ℕ). quoted_at false (escaped_byte c ++ bytes) ≡ Some (c ∷ t, rest))
              (sym (eqb-true b 10 e)) feed
          | inr no_feed ↦
              let plain : escaped_byte b ≡ b ∷ [] = rw (no_quote, no_backslash, no_feed) refl in
              ap (λ (f : List ℕ). quoted_at false (f ++ bytes)) plain
              ∙ rw (no_quote, no_backslash, no_feed, others) refl
        ]
      ]
    ]

quoted_again : (t rest : List ℕ) → quoted_at false (escaped t ++ 34 ∷ rest) ≡ Some (t, rest)
unfolding quoted_at
quoted_again [] rest = refl
quoted_again (b ∷ t) rest = ap (quoted_at false) (append_assoc (escaped_byte b) (escaped t) (34 ∷ rest))
    ∙ quoted_step b (escaped t ++ 34 ∷ rest) t rest (quoted_again t rest)

pub text_takes : (bytes : List ℕ) (x : List ℕ × List ℕ) → text_at bytes ≡ Some x
    → (bytes ≡ 34 ∷ (escaped x.0 ++ 34 ∷ x.1)) × IsUtf8 x.0
unfolding text_at
text_takes bytes x e =
    let a = bind_some (literal_at (codes "\"") bytes) (λ rest. quoted_at false rest >>= λ text.
    cond (is_utf8 text.0) (Some text) None) x e in
    let b = bind_some (quoted_at false a.0) (λ text. cond (is_utf8 text.0) (Some text) None) x a.2 in
    let d = if_some (is_utf8 b.0.0) (Some b.0) x b.2 in
    let open_quote : bytes ≡ 34 ∷ a.0 = literal_takes (codes "\"") bytes a.0 a.1 in
    subst (λ (y : List ℕ × List ℕ). (bytes ≡ 34 ∷ (escaped y.0 ++ 34 ∷ y.1)) × IsUtf8 y.0) (some_is b.0 x d.1)
    (open_quote ∙ ap (λ (t : List ℕ). 34 ∷ t) (quoted_takes false a.0 b.0 b.1), IsUtf8-from_is_utf8 b.0.0 d.0)

pub text_again : (t rest : List ℕ) → IsUtf8 t → text_at (34 ∷ ((escaped t ++ 34 ∷ []) ++ rest)) ≡ Some (t, rest)
unfolding text_at
text_again t rest u = rw (append_assoc (escaped t) (34 ∷ []) rest, quoted_again t rest, is_utf8-from_IsUtf8 t u) refl

-- ---- bytes in hexadecimal digits

record IsDigit (a h : ℕ) : Type 0 where
  small : h < 16
  glyph : hex_digit h ≡ a

hex_value_is : (a h : ℕ) → hex_value a ≡ Some h → IsDigit a h
hex_value_is a h e =
    elim (chosen (nat_le 48 a && nat_le a 57) (Some (a - 48)) (cond (nat_le 97 a && nat_le a 102) (Some (a - 87)) None)
    (Some h) e) [
      | inl p ↦
          let bounds = and_parts (nat_le 48 a) (nat_le a 57) p.0 in
          let low : 48 ≤ a = leb-true _ _ bounds.0 in
          let high : a ≤ 57 = leb-true _ _ bounds.1 in
          let below : nat_lt (a - 48) 10 ≡ true = lt-ltb _ _ (omega arith) in
          let glyph : hex_digit (a - 48) ≡ a = rw below (omega arith) in
          subst (λ (n : ℕ). IsDigit a n) (some_is (a - 48) h p.1) (record { small = omega arith; glyph = glyph })
      | inr p ↦
          let q = if_some (nat_le 97 a && nat_le a 102) (Some (a - 87)) h p.1 in
          let bounds = and_parts (nat_le 97 a) (nat_le a 102) q.0 in
          let low : 97 ≤ a = leb-true _ _ bounds.0 in
          let high : a ≤ 102 = leb-true _ _ bounds.1 in
          let above : nat_lt (a - 87) 10 ≡ false = le-ltb _ _ (omega arith) in
          let glyph : hex_digit (a - 87) ≡ a = rw above (omega arith) in
          subst (λ (n : ℕ). IsDigit a n) (some_is (a - 87) h q.1) (record { small = omega arith; glyph = glyph })
    ]

hex_value-hex_digit : (h : ℕ) → h < 16 → hex_value (hex_digit h) ≡ Some h
hex_value-hex_digit h lt =
    elim (cases_lt h 10) [
      | inl below ↦
          let test : nat_lt h 10 ≡ true = lt-ltb _ _ below in
          let digit : hex_digit h ≡ 48 + h = rw test refl in
          let low : nat_le 48 (48 + h) ≡ true = le-leb _ _ (omega arith) in
          let high : nat_le (48 + h) 57 ≡ true = le-leb _ _ (omega arith) in
          let back : 48 + h - 48 ≡ h = omega arith in
          ap hex_value digit ∙ rw (low, high, back) refl
      | inr above ↦
          let test : nat_lt h 10 ≡ false = le-ltb _ _ above in
          let letter : hex_digit h ≡ 87 + h = rw test refl in
          let first_low : nat_le 48 (87 + h) ≡ true = le-leb _ _ (omega arith) in
          let first_high : nat_le (87 + h) 57 ≡ false = lt-leb _ _ (omega arith) in
          let low : nat_le 97 (87 + h) ≡ true = le-leb _ _ (omega arith) in
          let high : nat_le (87 + h) 102 ≡ true = le-leb _ _ (omega arith) in
          let back : 87 + h - 87 ≡ h = omega arith in
          ap hex_value letter ∙ rw (first_low, first_high, low, high, back) refl
    ]

byte_takes : (bytes : List ℕ) (x : ℕ × List ℕ) → hex_byte_at bytes ≡ Some x
    → (bytes ≡ hex_byte_text x.0 ++ x.1) × (x.0 < 256)
byte_takes [] x e = absurd cc
byte_takes (a ∷ []) x e = absurd cc
byte_takes (a ∷ b ∷ rest) x e =
    let h = bind_some (hex_value a) (λ high. hex_value b >>= λ low. Some (16 * high + low, rest)) x e in
    let l = bind_some (hex_value b) (λ low. Some (16 * h.0 + low, rest)) x h.2 in
    let first = hex_value_is a h.0 h.1 in
    let second = hex_value_is b l.0 l.1 in
    let quotient : (16 * h.0 + l.0) / 16 ≡ h.0 = omega (arith, second.small) in
    let remainder : (16 * h.0 + l.0) % 16 ≡ l.0 = omega (arith, second.small) in
    let spelled : hex_byte_text (16 * h.0 + l.0) ≡ a ∷ b ∷ [] =
    rw (quotient, remainder, first.glyph, second.glyph) refl in
    subst (λ (y : ℕ × List ℕ). (a ∷ b ∷ rest ≡ hex_byte_text y.0 ++ y.1) × (y.0 < 256))
    (some_is (16 * h.0 + l.0, rest) x l.2) (
      ap (λ (t : List ℕ). t ++ rest) (sym spelled),
      omega (arith, first.small, second.small),
    )

AreBytes-nil : AreBytes []
AreBytes-nil i = omega arith

AreBytes-cons : (x : ℕ) (b : List ℕ) → x < 256 → AreBytes b → AreBytes (x ∷ b)
AreBytes-cons x b small others zero = small
AreBytes-cons x b small others (suc i) = others i

abbrev Hexed : List ℕ → List ℕ × List ℕ → Type 0
Hexed bytes x = (bytes ≡ hex_text x.0 ++ x.1) × AreBytes x.0

pub bytes_takes : (n : ℕ) (bytes : List ℕ) (x : List ℕ × List ℕ) → hex_bytes_at n bytes ≡ Some x
    → (bytes ≡ hex_text x.0 ++ x.1) × ((i : ℕ) → slice_index x.0 i < 256)
unfolding hex_bytes_at
bytes_takes zero bytes x e = subst (λ (y : List ℕ × List ℕ). Hexed bytes y) (some_is ([], bytes) x e)
    (refl, AreBytes-nil)
bytes_takes (suc n) bytes x e =
    elim (branch_some (hex_byte_at bytes) (λ b. with_front (b.0 ∷ []) (hex_bytes_at n b.1)) (Some ([], bytes)) x e) [
      | inl p ↦
          let d = bind_some (hex_bytes_at n p.0.1) (λ y. Some ((p.0.0 ∷ []) ++ y.0, y.1)) x p.2 in
          let first = byte_takes bytes p.0 p.1 in
          let others = bytes_takes n p.0.1 d.0 d.1 in
          subst (λ (y : List ℕ × List ℕ). Hexed bytes y) (some_is (p.0.0 ∷ d.0.0, d.0.1) x d.2) (
            first.0 ∙ ap (λ (t : List ℕ). hex_byte_text p.0.0 ++ t) others.0
                ∙ sym (append_assoc (hex_byte_text p.0.0) (hex_text d.0.0) d.0.1),
            AreBytes-cons p.0.0 d.0.0 first.1 others.1,
          )
      | inr p ↦ subst (λ (y : List ℕ × List ℕ). Hexed bytes y) (some_is ([], bytes) x p.1) (refl, AreBytes-nil)
    ]

byte_again : (b : ℕ) (rest : List ℕ) → b < 256 → hex_byte_at (hex_byte_text b ++ rest) ≡ Some (b, rest)
byte_again b rest lt =
    let high : hex_value (hex_digit (b / 16)) ≡ Some (b / 16) = hex_value-hex_digit (b / 16) (omega arith) in
    let low : hex_value (hex_digit (b % 16)) ≡ Some (b % 16) = hex_value-hex_digit (b % 16) (omega arith) in
    let back : 16 * (b / 16) + b % 16 ≡ b = omega arith in
    with_digits (hex_digit (b / 16)) (hex_digit (b % 16)) (b / 16) (b % 16) b rest high low back
  where
    with_digits : (a c h l n : ℕ) (rest : List ℕ) → hex_value a ≡ Some h → hex_value c ≡ Some l → 16 * h + l ≡ n
        → hex_byte_at (a ∷ c ∷ rest) ≡ Some (n, rest)
    with_digits a c h l n rest e f g = rw (e, f) (ap (λ (m : ℕ). Some (m, rest)) g)

no_byte_at_end : (rest : List ℕ) → Ends rest → hex_byte_at rest ≡ None
no_byte_at_end [] ends = refl
no_byte_at_end (a ∷ []) ends = refl
no_byte_at_end (a ∷ b ∷ rest) ends = ap (λ (o : Option ℕ). o >>= λ high. hex_value b >>= λ low.
    Some (16 * high + low, rest)) ends

bytes_at_end : (n : ℕ) (rest : List ℕ) → Ends rest → hex_bytes_at n rest ≡ Some ([], rest)
unfolding hex_bytes_at
bytes_at_end zero rest ends = refl
bytes_at_end (suc n) rest ends = rw (no_byte_at_end rest ends) refl

bytes_again_within : (n : ℕ) (b rest : List ℕ) → length b ≤ n → ((i : ℕ) → slice_index b i < 256) → Ends rest
    → hex_bytes_at n (hex_text b ++ rest) ≡ Some (b, rest)
unfolding hex_bytes_at
bytes_again_within n [] rest short fits ends = bytes_at_end n rest ends
bytes_again_within zero (x ∷ b) rest short fits ends = absurd (omega arith)
bytes_again_within (suc n) (x ∷ b) rest short fits ends =
    let others : hex_bytes_at n (hex_text b ++ rest) ≡ Some (b, rest) =
    bytes_again_within n b rest (omega arith) (λ i. fits (suc i)) ends in
    let one : hex_byte_at ((hex_byte_text x ++ hex_text b) ++ rest) ≡ Some (x, hex_text b ++ rest) =
    ap hex_byte_at (append_assoc (hex_byte_text x) (hex_text b) rest) ∙ byte_again x (hex_text b ++ rest) (fits 0) in
    rw (one, others) refl

length-hex_text : (b rest : List ℕ) → length b ≤ length (hex_text b ++ rest)
length-hex_text [] rest = omega arith
length-hex_text (x ∷ b) rest = let others = length-hex_text b rest in omega arith

pub bytes_again : (b rest : List ℕ) → ((i : ℕ) → slice_index b i < 256) → Ends rest
    → hex_bytes_at (length (hex_text b ++ rest)) (hex_text b ++ rest) ≡ Some (b, rest)
bytes_again b rest fits ends = bytes_again_within (length (hex_text b ++ rest)) b rest (length-hex_text b rest) fits
    ends
