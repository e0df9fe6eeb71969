-- The digits of a library are those of a text.
use Rattle.std.proofs.Common.{◌≡◌, ◌<◌, ◌≤◌, ◌/◌, ◌%◌, ◌&&◌, ℕ, zero, suc, List, [], ◌∷◌, Bool, true, Result, Ok, Err, IsOk}
use Rattle.std.proofs.Common.{OnOk, arith, inl, inr, nat_eq, refl, slice_index}
use Rattle.std.proofs.lemmas.Bool.{and_parts, cases_lt, eqb-true}
use Rattle.hex.specs.Hex.{encode_lower, encode_with, lower_digits}
use Rattle.value_text.specs.Texts.{hex_digit, hex_text}

abbrev is_same : ℕ → Bool
is_same n = nat_eq (slice_index lower_digits n) (hex_digit n)

abbrev are_same : ℕ → Bool
are_same zero = true
are_same (suc n) = is_same n && are_same n

same_below : (n k : ℕ) → are_same n ≡ true → k < n → is_same k ≡ true
same_below zero k h lt = absurd (omega arith)
same_below (suc n) k h lt =
    let parts = and_parts (is_same n) (are_same n) h in
    elim (cases_lt k n) [
      | inl below ↦ same_below n k parts.1 below
      | inr top ↦
          let e : k ≡ n = omega arith in
          rw e parts.0
    ]

same_digit : (n : ℕ) → n < 16 → slice_index lower_digits n ≡ hex_digit n
same_digit n lt = eqb-true (slice_index lower_digits n) (hex_digit n) (same_below 16 n refl lt)

-- the digits of a library are those of a text
pub same_digits : (bytes : List ℕ) → ((i : ℕ) → slice_index bytes i < 256) → encode_lower bytes ≡ hex_text bytes
unfolding encode_with
same_digits [] few = refl
same_digits (b ∷ bytes) few =
    let small : b < 256 = few 0 in
    rw (
      same_digit (b / 16) (omega (arith, small)),
      same_digit (b % 16) (omega arith),
      same_digits bytes (λ i. few (suc i)),
    ) refl

pub where_ok : {T E P : Type 0} (r : Result T E) → IsOk r → OnOk r P → P
where_ok (Ok x) is then = then
where_ok (Err e) is then = absurd cc
