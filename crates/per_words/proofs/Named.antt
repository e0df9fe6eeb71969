-- A name is ASCII, so bytes that are no text are no name.
use Rattle.std.proofs.Common.{◌≡◌, ℕ, zero, suc, ◌<◌, Bool, true, false, IsTrue, List, [], ◌∷◌, refl, arith}
use Rattle.std.specs.List.{list_all, slice_index}
use Rattle.std.specs.Str.{IsAscii, IsUtf8}
use Rattle.std.proofs.lemmas.Bool.Decides.{nat_tests}
use Rattle.std.proofs.lemmas.Str.{IsUtf8-from_ascii}
use Rattle.per_base.specs.Names.{IsName, in_name, is_name}

in_name_ascii : (b : ℕ) → in_name b ≡ true → b < 128
in_name_ascii b is = grind (arith, nat_tests)

all_ascii : (bytes : List ℕ) → list_all in_name bytes ≡ true → IsAscii bytes
all_ascii [] all = λ i. omega arith
all_ascii (b ∷ bytes) all =
    let here : in_name b ≡ true = grind arith in
    let there : list_all in_name bytes ≡ true = grind arith in
    λ i. elim i as (λ k. slice_index (b ∷ bytes) k < 128)
    [ zero ↦ in_name_ascii b here | suc k ↦ all_ascii bytes there k ]

name_utf8 : (bytes : List ℕ) → IsName bytes → IsUtf8 bytes
name_utf8 bytes is = let all : list_all in_name bytes ≡ true =
    grind arith in IsUtf8-from_ascii bytes (all_ascii bytes all)

not_if : (b : Bool) → (IsTrue b → ⊥) → false ≡ b
not_if true lacks = absurd (lacks refl)
not_if false lacks = refl

pub no_text_no_name : (text : List ℕ) → (IsUtf8 text → ⊥) → false ≡ is_name text
no_text_no_name text lacks = not_if (is_name text) (λ is. lacks (name_utf8 text is))
