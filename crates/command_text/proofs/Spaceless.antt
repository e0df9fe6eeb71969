-- Texts without a space: names, numbers, and the words of kinds and origins.
use Rattle.std.proofs.Common.{◌≡◌, ℕ, ◌≤◌, ◌<◌, ◌^◌, true, false, nat_eq, nat_le, List, [], ◌∷◌, refl, arith}
use Rattle.std.specs.List.{list_all}
use Rattle.std.specs.Char.{is_ascii_digit}
use Rattle.std.specs.Str.{all_ascii_digits}
use Rattle.std.specs.Fmt.{decimal}
use Rattle.std.proofs.lemmas.Bool.{and_parts, leb-true, ne_eqb}
use Rattle.std.proofs.lemmas.Bool.Decides.{nat_tests}
use Rattle.std.proofs.lemmas.Fmt.{digits_decimal}
use Rattle.per_base.specs.declared.opening.OpenKind.{OpenKind}
use Rattle.per_base.specs.declared.opening.OpenKind.TheVariants as kind
use Rattle.per_base.specs.declared.opening.Origin.{Origin}
use Rattle.per_base.specs.declared.opening.Origin.TheVariants as origin
use Rattle.per_base.specs.Names.{IsName, in_name}
use Rattle.value_text.specs.lemmas.Digits.{IsDigits, own}
use Rattle.command_text.specs.Grammar.{kind_text, origin_text}
use Rattle.command_text.proofs.Splits.{has_space}

name_bytes : (bytes : List ℕ) → list_all in_name bytes ≡ true → has_space bytes ≡ false
name_bytes [] all = refl
name_bytes (b ∷ bytes) all =
    let here : in_name b ≡ true = grind arith in
    let there : list_all in_name bytes ≡ true = grind arith in
    let apart : nat_eq b 32 ≡ false = grind (arith, nat_tests) in
    rw (apart, name_bytes bytes there)

pub name_spaceless : (text : List ℕ) → IsName text → has_space text ≡ false
name_spaceless text is = let all : list_all in_name text ≡ true = grind arith in name_bytes text all

digits_spaceless : (ds : List ℕ) → IsDigits ds → has_space ds ≡ false
digits_spaceless [] digits = refl
digits_spaceless (d ∷ ds) digits =
    let parts = and_parts (is_ascii_digit d) (all_ascii_digits ds) digits in
    let bounds = and_parts (nat_le 48 d) (nat_le d 57) parts.0 in
    let low : 48 ≤ d = leb-true _ _ bounds.0 in
    let apart : nat_eq d 32 ≡ false = ne_eqb d 32 (λ e. omega arith) in
    rw (apart, digits_spaceless ds parts.1)

pub decimal_spaceless : (n : ℕ) → n < 2 ^ 64 → has_space (decimal n) ≡ false
decimal_spaceless n lt = digits_spaceless (decimal n) (digits_decimal own n lt)

pub kind_spaceless : (k : OpenKind) → has_space (kind_text k) ≡ false
kind_spaceless kind.Read = refl
kind_spaceless kind.Write = refl
kind_spaceless kind.ReadWrite = refl

pub origin_spaceless : (o : Origin) → has_space (origin_text o) ≡ false
origin_spaceless origin.Beginning = refl
origin_spaceless origin.Current = refl
origin_spaceless origin.End = refl
