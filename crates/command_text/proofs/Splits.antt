-- The parts of a text at its first space.
use Rattle.std.proofs.Common.{◌≡◌, ℕ, ◌+◌, ◌<◌, Bool, true, false, ◌||◌, nat_eq, List, [], ◌∷◌, ◌++◌, length, take}
use Rattle.std.proofs.Common.{drop, get_or, Option, Some, None, inl, inr, refl, sym, ap, subst, ◌∙◌, add-one}
use Rattle.std.specs.List.{list_any}
use Rattle.std.proofs.Math.Seq.{drop-cons, take-suc}
use Rattle.std.proofs.lemmas.Bool.{eq-eqb, eqb-true, ne_eqb}
use Rattle.std.proofs.lemmas.List.{append-nil}
use Rattle.per_base.specs.FieldLoops.{with_front}
use Rattle.value_text.specs.lemmas.Steps.{bind_some, chosen, some_is}
use Rattle.value_text.specs.lemmas.Loop.{with_front-with_front}
use Rattle.command_text.specs.Reading.{split}

abbrev pub has_space : List ℕ → Bool
has_space text = list_any (λ b. nat_eq b 32) text

-- ---- the loop that looks for the space

nothing_in_front : (read : Option (List ℕ × List ℕ)) → with_front [] read ≡ read
nothing_in_front None = refl
nothing_in_front (Some x) = refl

pub from_the_start : (bytes : List ℕ) → with_front [] (split bytes) ≡ split bytes
from_the_start bytes = nothing_in_front (split bytes)

here_and_behind : (bytes : List ℕ) (i : ℕ) → i < length bytes → drop i bytes ≡ get_or bytes i 0 ∷ drop (i + 1) bytes
here_and_behind bytes i lt = drop-cons bytes i 0 lt ∙ rw add-one refl

pub at_space : (bytes : List ℕ) (i : ℕ) (total : Option (List ℕ × List ℕ)) → i < length bytes → get_or bytes i 0 ≡ 32
    → with_front (take i bytes) (split (drop i bytes)) ≡ total → total ≡ Some (take i bytes, drop (i + 1) bytes)
at_space bytes i total lt here so_far =
    let found : split (drop i bytes) ≡ Some ([], drop (i + 1) bytes) =
    ap split (here_and_behind bytes i lt) ∙ rw (eq-eqb _ _ here) refl in
    sym so_far ∙ ap (with_front (take i bytes)) found ∙ ap (λ (front : List ℕ). Some (front, drop (i + 1) bytes))
    (append-nil (take i bytes))

pub at_byte : (bytes : List ℕ) (i : ℕ) (total : Option (List ℕ × List ℕ)) → i < length bytes
    → (get_or bytes i 0 ≡ 32 → ⊥) → with_front (take i bytes) (split (drop i bytes)) ≡ total
    → with_front (take (i + 1) bytes) (split (drop (i + 1) bytes)) ≡ total
at_byte bytes i total lt apart so_far =
    let here : split (drop i bytes) ≡ with_front (get_or bytes i 0 ∷ []) (split (drop (i + 1) bytes)) =
    ap split (here_and_behind bytes i lt) ∙ rw (ne_eqb _ _ apart) refl in
    let front : take (i + 1) bytes ≡ take i bytes ++ get_or bytes i 0 ∷ [] = rw (add-one, take-suc bytes i 0) refl in
    ap (λ (f : List ℕ). with_front f (split (drop (i + 1) bytes))) front
    ∙ sym (with_front-with_front (take i bytes) (get_or bytes i 0) (split (drop (i + 1) bytes)))
    ∙ sym (ap (with_front (take i bytes)) here) ∙ so_far

pub at_the_end : (front rest : List ℕ) (total : Option (List ℕ × List ℕ)) → rest ≡ []
    → with_front front (split rest) ≡ total → total ≡ None
at_the_end front rest total e so_far = sym so_far ∙ ap (λ (r : List ℕ). with_front front (split r)) e

-- ---- what the parts are

pub split_takes : (text : List ℕ) (parts : List ℕ × List ℕ) → split text ≡ Some parts → text ≡ parts.0 ++ 32 ∷ parts.1
split_takes [] parts e = absurd cc
split_takes (b ∷ bytes) parts e =
    elim (chosen (nat_eq b 32) (Some ([], bytes)) (with_front (b ∷ []) (split bytes)) (Some parts) e) [
      | inl p ↦ subst (λ (x : List ℕ × List ℕ). b ∷ bytes ≡ x.0 ++ 32 ∷ x.1) (some_is ([], bytes) parts p.1)
          (ap (λ (c : ℕ). c ∷ bytes) (eqb-true b 32 p.0))
      | inr p ↦
          let more = bind_some (split bytes) (λ x. Some ((b ∷ []) ++ x.0, x.1)) parts p.1 in
          subst (λ (x : List ℕ × List ℕ). b ∷ bytes ≡ x.0 ++ 32 ∷ x.1) (some_is (b ∷ more.0.0, more.0.1) parts more.2)
          (ap (λ (t : List ℕ). b ∷ t) (split_takes bytes more.0 more.1))
    ]

or_false : (a b : Bool) → (a || b) ≡ false → (a ≡ false) × (b ≡ false)
or_false true b e = absurd cc
or_false false b e = (refl, e)

pub split_again : (front back : List ℕ) → has_space front ≡ false → split (front ++ 32 ∷ back) ≡ Some (front, back)
split_again [] back clean = refl
split_again (b ∷ front) back clean =
    let parts = or_false (nat_eq b 32) (has_space front) clean in
    let others : split (front ++ 32 ∷ back) ≡ Some (front, back) = split_again front back parts.1 in
    rw (parts.0, others) refl
