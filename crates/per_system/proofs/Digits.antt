-- How the text of a number begins.
use Rattle.std.proofs.Common.{◌≡◌, ◌⊎◌, ℕ, ◌<◌, ◌≤◌, ◌^◌, List, length, get_or, sym, ap, subst, inl, inr, ⊎_elim, arith}
use Rattle.std.specs.Fmt.{decimal}
use Rattle.std.proofs.lemmas.Bool.{cases_eq}
use Rattle.std.proofs.lemmas.Fmt.{decimal_is_IsNumeral, decimal_digit, first_decimal}
use Rattle.std.proofs.lemmas.Str.Parse.{digit_at}

-- with a digit, and with 0 only where that is all
pub record Begins (bytes : List ℕ) : Type 0 where
  pub some : 0 < length bytes
  pub digit : get_or bytes 0 0 ≤ 57
  pub nonzero : (48 < get_or bytes 0 0) ⊎ ((get_or bytes 0 0 ≡ 48) × (length bytes ≡ 1))

pub begins : (n : ℕ) (bytes : List ℕ) → n < 2 ^ 32 → bytes ≡ decimal n → Begins bytes
begins n bytes small is =
    let short : n < 2 ^ 64 = omega arith in
    let numeral = decimal_is_IsNumeral n short in
    subst (λ bs. Begins bs) (sym is) (record {
      some = numeral.0.0;
      digit = (digit_at (decimal n) 0 numeral.0.1 numeral.0.0).1;
      nonzero = ⊎_elim
          (λ zero.
          let one = decimal_digit n (omega (arith, zero)) in
          let first = ap (λ bs. get_or bs 0 0) one in
          let long = ap length one in
          inr (omega (arith, first, zero), omega (arith, long)))
          (λ more. inl (first_decimal n (omega (arith, more)) short))
          (cases_eq n 0);
    })
