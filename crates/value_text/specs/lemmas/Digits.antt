-- Decimal numbers: digits at the start of a text, and what `parse` makes of them.
use Rattle.std.proofs.Common.{◌≡◌, ℕ, suc, ◌+◌, ◌≤◌, ◌<◌, ◌^◌, true, false, nat_lt, List, [], ◌∷◌, length, take, Some}
use Rattle.std.proofs.Common.{None, Result, Ok, Err, inl, inr, refl, ap, arith}
use Rattle.std.specs.List.{prefix_len}
use Rattle.std.specs.Char.{is_ascii_digit}
use Rattle.std.specs.Result.{OkIff, result_ok}
use Rattle.std.specs.Str.{all_ascii_digits, IsUtf8}
use Rattle.std.specs.Str.Parse.{digits_value, ParsesUnsigned}
use Rattle.std.proofs.lemmas.Bool.{cases_lt, cases_Bool, and_from, lt-ltb, le-ltb}
use Rattle.std.proofs.lemmas.Fmt.{IsAscii-from_digits}
use Rattle.std.proofs.lemmas.Str.{IsUtf8-from_ascii}
use Rattle.std.proofs.lemmas.Str.Parse.{IsNumeralModel, numerals_by_value, tells_all_ascii_digits, parse_digits}
use Rattle.value_text.specs.Readers.{is_canonical, number_of}

abbrev pub IsDigits : List ℕ → Type 0
IsDigits ds = all_ascii_digits ds ≡ true

pub own : IsNumeralModel IsDigits (digits_value 10)
own = numerals_by_value IsDigits tells_all_ascii_digits

pub digits_in_front : (bytes : List ℕ) → IsDigits (take (prefix_len is_ascii_digit bytes) bytes)
digits_in_front [] = refl
digits_in_front (b ∷ bytes) =
    elim (cases_Bool (is_ascii_digit b)) [
      | inl e ↦ rw (e, length_one (prefix_len is_ascii_digit bytes))
          (and_from (is_ascii_digit b) (all_ascii_digits (take (prefix_len is_ascii_digit bytes) bytes)) e
          (digits_in_front bytes))
      | inr e ↦ rw e refl
    ]
  where
    length_one : (n : ℕ) → 1 + n ≡ suc n
    length_one n = omega arith

pub IsUtf8-digits : (ds : List ℕ) → IsDigits ds → IsUtf8 ds
IsUtf8-digits ds h = IsUtf8-from_ascii ds (IsAscii-from_digits ds (own.to ds h))

canonical_some : (ds : List ℕ) → is_canonical ds ≡ true → 0 < length ds
canonical_some [] e = absurd cc
canonical_some (d ∷ ds) e = omega arith

number_is : {E : Type 0} (ds : List ℕ) (r : Result ℕ E) → is_canonical ds ≡ true
    → OkIff r ((0 < length ds) × (digits_value 10 ds < 2 ^ 64)) (digits_value 10 ds) → result_ok r ≡ number_of ds
unfolding number_of
number_is ds (Ok x) can h =
    let fits : nat_lt (digits_value 10 ds) (2 ^ 64) ≡ true = lt-ltb _ _ h.0.1 in
    rw (can, fits) (ap (λ (n : ℕ). Some n) h.1)
number_is ds (Err e) can h =
    let le : 2 ^ 64 ≤ digits_value 10 ds = elim (cases_lt (digits_value 10 ds) (2 ^ 64))
    [ inl lt ↦ absurd (h (canonical_some ds can, lt)) | inr le ↦ le ] in
    let fits : nat_lt (digits_value 10 ds) (2 ^ 64) ≡ false = le-ltb _ _ le in
    rw (can, fits) refl

pub parsed : {E : Type 0} (ds text : List ℕ) (r : Result ℕ E) → text ≡ ds → IsDigits ds → is_canonical ds ≡ true
    → ParsesUnsigned 64 10 text r → result_ok r ≡ number_of ds
parsed {E} ds text r e digits can h = number_is ds r can (parse_digits own {E = E} 64 ds r (rw e at h) digits)

pub number_of-none : (ds : List ℕ) → is_canonical ds ≡ false → number_of ds ≡ None
unfolding number_of
number_of-none ds e = rw e refl
