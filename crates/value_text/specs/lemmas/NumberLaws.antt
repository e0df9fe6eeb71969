-- The laws of numbers: what is read is spelled so, and what is spelled so is read.
use Rattle.std.proofs.Common.{◌≡◌, ℕ, zero, suc, ◌-◌, ◌≤◌, ◌<◌, ◌^◌, ℤ, pos, negsuc, Bool, true, false, cond, not}
use Rattle.std.proofs.Common.{nat_eq, nat_le, nat_lt, ◌&&◌, List, [], ◌∷◌, ◌++◌, length, get_or, take, drop, Some, None}
use Rattle.std.proofs.Common.{inl, inr, refl, sym, ap, subst, ◌∙◌, arith}
use Rattle.std.specs.Prelude.{codes}
use Rattle.std.specs.List.{prefix_len}
use Rattle.std.specs.Char.{is_ascii_digit}
use Rattle.std.specs.Fmt.{decimal, signed_decimal}
use Rattle.std.specs.Str.{all_ascii_digits}
use Rattle.std.specs.Str.Parse.{digits_value}
use lib.Signed.{mag}
use Rattle.std.proofs.lemmas.Bool.{and_parts, eqb-true, eqb-false, ne_eqb, ltb-true, lt-ltb, leb-true, or_cases}
use Rattle.std.proofs.lemmas.Bool.{not-true}
use Rattle.std.proofs.lemmas.Fmt.{decimal_digit, decimal_nonempty, first_decimal, decimal-digits_value, digits_decimal}
use Rattle.std.proofs.lemmas.Fmt.{digits_value-decimal}
use Rattle.std.proofs.lemmas.List.{take_at, drop_at, take-append-drop}
use Rattle.value_text.specs.Readers.{literal_at, hex_value, digit_count, is_canonical, number_of, number_at}
use Rattle.value_text.specs.Readers.{unsigned_at, negative, signed_at}
use Rattle.value_text.specs.lemmas.Steps.{bind_some, if_some, branch_some, some_is}
use Rattle.value_text.specs.lemmas.Words.{literal_takes}
use Rattle.value_text.specs.lemmas.Lists.{Ends}
use Rattle.value_text.specs.lemmas.Digits.{IsDigits, own, digits_in_front}
use Rattle.per_base.specs.Fields.{◌>>=◌}

-- ---- what is read is spelled so

canonical_length : (ds : List ℕ) → is_canonical ds ≡ true → (0 < length ds) × (get_or ds 0 0 ≡ 48 → length ds ≡ 1)
canonical_length [] e = absurd cc
canonical_length (d ∷ ds) e = (
  omega arith,
  λ zero_first. elim (or_cases (not (nat_eq d 48)) (nat_eq (length ds) 0) e) [
    | inl p ↦ absurd (eqb-false d 48 (not-true (nat_eq d 48) p) zero_first)
    | inr p ↦ let none : length ds ≡ 0 = eqb-true _ _ p in omega arith
  ],
)

number_of_takes : (ds : List ℕ) (n : ℕ) → IsDigits ds → number_of ds ≡ Some n → (ds ≡ decimal n) × (n < 2 ^ 64)
unfolding number_of
number_of_takes ds n digits e =
    let a = if_some (is_canonical ds) (cond (nat_lt (digits_value 10 ds) (2 ^ 64)) (Some (digits_value 10 ds)) None) n e
    in
    let b = if_some (nat_lt (digits_value 10 ds) (2 ^ 64)) (Some (digits_value 10 ds)) n a.1 in
    let shape = canonical_length ds a.0 in
    let small : digits_value 10 ds < 2 ^ 64 = ltb-true _ _ b.0 in
    subst (λ (m : ℕ). (ds ≡ decimal m) × (m < 2 ^ 64)) (some_is (digits_value 10 ds) n b.1)
    (sym (decimal-digits_value own ds digits shape.0 shape.1 small), small)

pub number_takes : (bytes : List ℕ) (x : ℕ × List ℕ) → number_at bytes ≡ Some x → bytes ≡ decimal x.0 ++ x.1
unfolding number_at
number_takes bytes x e =
    let a = bind_some (number_of (take (digit_count bytes) bytes)) (λ n. Some (n, drop (digit_count bytes) bytes)) x e
    in
    let front = number_of_takes (take (digit_count bytes) bytes) a.0 (digits_in_front bytes) a.1 in
    subst (λ (y : ℕ × List ℕ). bytes ≡ decimal y.0 ++ y.1) (some_is (a.0, drop (digit_count bytes) bytes) x a.2)
    (sym (take-append-drop (digit_count bytes) bytes) ∙ ap (λ (t : List ℕ). t ++ drop (digit_count bytes) bytes)
    front.0)

pub unsigned_takes : (limit : ℕ) (bytes : List ℕ) (x : ℕ × List ℕ) → unsigned_at limit bytes ≡ Some x
    → (bytes ≡ decimal x.0 ++ x.1) × (x.0 < limit)
unfolding unsigned_at
unsigned_takes limit bytes x e =
    let a = bind_some (number_at bytes) (λ n. cond (nat_lt n.0 limit) (Some n) None) x e in
    let b = if_some (nat_lt a.0.0 limit) (Some a.0) x a.2 in
    subst (λ (y : ℕ × List ℕ). (bytes ≡ decimal y.0 ++ y.1) × (y.0 < limit)) (some_is a.0 x b.1)
    (number_takes bytes a.0 a.1, ltb-true _ _ b.0)

negative_is : (limit n : ℕ) (z : ℤ) → negative limit n ≡ Some z → (signed_decimal z ≡ 45 ∷ decimal n) × (mag z < limit)
negative_is limit zero z e = absurd cc
negative_is limit (suc n) z e =
    let a = if_some (nat_lt n limit) (Some (negsuc n)) z e in
    subst (λ (y : ℤ). (signed_decimal y ≡ 45 ∷ decimal (suc n)) × (mag y < limit)) (some_is (negsuc n) z a.1)
    (refl, ltb-true _ _ a.0)

pub signed_takes : (limit : ℕ) (bytes : List ℕ) (x : ℤ × List ℕ) → signed_at limit bytes ≡ Some x
    → (bytes ≡ signed_decimal x.0 ++ x.1) × (mag x.0 < limit)
unfolding signed_at
signed_takes limit bytes x e =
    elim (branch_some (literal_at (codes "-") bytes) (λ rest. number_at rest >>= λ n. negative limit n.0 >>= λ z.
    Some (z, n.1)) (unsigned_at limit bytes >>= λ n. Some (pos n.0, n.1)) x e) [
      | inl p ↦
          let a = bind_some (number_at p.0) (λ n. negative limit n.0 >>= λ z. Some (z, n.1)) x p.2 in
          let b = bind_some (negative limit a.0.0) (λ z. Some (z, a.0.1)) x a.2 in
          let minus : bytes ≡ 45 ∷ p.0 = literal_takes (codes "-") bytes p.0 p.1 in
          let sign = negative_is limit a.0.0 b.0 b.1 in
          subst (λ (y : ℤ × List ℕ). (bytes ≡ signed_decimal y.0 ++ y.1) × (mag y.0 < limit))
          (some_is (b.0, a.0.1) x b.2) (
            minus ∙ ap (λ (t : List ℕ). 45 ∷ t) (number_takes p.0 a.0 a.1)
                ∙ ap (λ (t : List ℕ). t ++ a.0.1) (sym sign.0),
            sign.1,
          )
      | inr p ↦
          let a = bind_some (unsigned_at limit bytes) (λ n. Some (pos n.0, n.1)) x p.1 in
          subst (λ (y : ℤ × List ℕ). (bytes ≡ signed_decimal y.0 ++ y.1) × (mag y.0 < limit))
          (some_is (pos a.0.0, a.0.1) x a.2) (unsigned_takes limit bytes a.0 a.1)
    ]

-- ---- what is spelled so is read

no_way : {A : Type 0} (t u : Bool) (x y : A) → cond t (Some x) (cond u (Some y) None) ≡ None → t ≡ false
no_way true u x y e = absurd cc
no_way false u x y e = refl

no_digit : (b : ℕ) → hex_value b ≡ None → is_ascii_digit b ≡ false
no_digit b e = no_way (nat_le 48 b && nat_le b 57) (nat_le 97 b && nat_le b 102) (b - 48) (b - 87) e

count_none : (rest : List ℕ) → Ends rest → prefix_len is_ascii_digit rest ≡ 0
count_none [] ends = refl
count_none (b ∷ rest) ends = rw (no_digit b ends) refl

count_front : (ds rest : List ℕ) → IsDigits ds → Ends rest → prefix_len is_ascii_digit (ds ++ rest) ≡ length ds
count_front [] rest digits ends = count_none rest ends
count_front (d ∷ ds) rest digits ends =
    let parts = and_parts (is_ascii_digit d) (all_ascii_digits ds) digits in
    let others : prefix_len is_ascii_digit (ds ++ rest) ≡ length ds = count_front ds rest parts.1 ends in
    rw parts.0 (omega arith)

canonical_from : (ds : List ℕ) → 0 < length ds → 48 < get_or ds 0 0 → is_canonical ds ≡ true
canonical_from [] some first = absurd (omega arith)
canonical_from (d ∷ ds) some first =
    let other : nat_eq d 48 ≡ false = ne_eqb d 48 (λ e. omega arith) in
    rw other refl

canonical_decimal : (n : ℕ) → n < 2 ^ 64 → is_canonical (decimal n) ≡ true
canonical_decimal zero lt = ap is_canonical (decimal_digit 0 (omega arith))
canonical_decimal (suc n) lt = canonical_from (decimal (suc n)) (decimal_nonempty (suc n) lt)
    (first_decimal (suc n) (omega arith) lt)

number_of_again : (n : ℕ) → n < 2 ^ 64 → number_of (decimal n) ≡ Some n
unfolding number_of
number_of_again n lt =
    let fits : nat_lt (digits_value 10 (decimal n)) (2 ^ 64) ≡ true =
    lt-ltb _ _ (omega (arith, digits_value-decimal own n lt)) in
    rw (canonical_decimal n lt, fits) (ap (λ (m : ℕ). Some m) (digits_value-decimal own n lt))

pub number_again : (n : ℕ) (rest : List ℕ) → n < 2 ^ 64 → Ends rest → number_at (decimal n ++ rest) ≡ Some (n, rest)
unfolding number_at
number_again n rest lt ends =
    let count : digit_count (decimal n ++ rest) ≡ length (decimal n) =
    count_front (decimal n) rest (digits_decimal own n lt) ends in
    rw (
      count,
      take_at (decimal n) rest (length (decimal n)) refl,
      drop_at (decimal n) rest (length (decimal n)) refl,
      number_of_again n lt,
    ) refl

pub unsigned_again : (limit n : ℕ) (rest : List ℕ) → limit ≤ 2 ^ 64 → n < limit → Ends rest
    → unsigned_at limit (decimal n ++ rest) ≡ Some (n, rest)
unfolding unsigned_at
unsigned_again limit n rest small lt ends =
    let test : nat_lt n limit ≡ true = lt-ltb _ _ lt in
    rw (number_again n rest (omega arith) ends, test) refl

digits_no_minus : (ds rest : List ℕ) → IsDigits ds → 0 < length ds → literal_at (codes "-") (ds ++ rest) ≡ None
digits_no_minus [] rest digits some = absurd (omega arith)
digits_no_minus (d ∷ ds) rest digits some =
    let parts = and_parts (is_ascii_digit d) (all_ascii_digits ds) digits in
    let bounds = and_parts (nat_le 48 d) (nat_le d 57) parts.0 in
    let low : 48 ≤ d = leb-true _ _ bounds.0 in
    let other : nat_eq d 45 ≡ false = ne_eqb d 45 (λ e. omega arith) in
    rw other refl

pub signed_again : (limit : ℕ) (z : ℤ) (rest : List ℕ) → limit ≤ 2 ^ 63 → mag z < limit → Ends rest
    → signed_at limit (signed_decimal z ++ rest) ≡ Some (z, rest)
unfolding signed_at
signed_again limit (pos n) rest small lt ends =
    let wide : n < 2 ^ 64 = omega arith in
    rw (
      digits_no_minus (decimal n) rest (digits_decimal own n wide) (decimal_nonempty n wide),
      unsigned_again limit n rest (omega arith) lt ends,
    ) refl
signed_again limit (negsuc n) rest small lt ends =
    let test : nat_lt n limit ≡ true = lt-ltb _ _ lt in
    rw (number_again (suc n) rest (omega arith) ends, test) refl
