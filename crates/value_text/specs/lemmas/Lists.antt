-- Lists with commas: what is read is spelled so, and what is spelled so is read.
use Rattle.std.proofs.Common.{◌≡◌, ℕ, zero, suc, ◌≤◌, Bool, true, false, cond, nat_eq, List, [], ◌∷◌, ◌++◌, length}
use Rattle.std.proofs.Common.{slice_index, Option, Some, None, ◌⊎◌, inl, inr, refl, sym, ap, subst, ◌∙◌, append_assoc}
use Rattle.std.proofs.Common.{arith}
use Rattle.std.specs.List.{AllByRecursion}
use Rattle.std.proofs.lemmas.Bool.{eqb-true, eq-eqb}
use Rattle.std.proofs.lemmas.List.{append-nil}
use Rattle.per_base.specs.Fields.{◌>>=◌}
use Rattle.per_base.specs.FieldLoops.{with_front}
use Rattle.value_text.specs.Readers.{hex_value, punctuation_at, separated}
use Rattle.value_text.specs.lemmas.Steps.{bind_some, if_some, chosen, some_is}

-- the texts of things, separated by commas, and those of the things after another one
abbrev pub further : {A : Type 0} → (A → List ℕ) → List A → List ℕ
further text [] = []
further text (x ∷ xs) = 44 ∷ (text x ++ further text xs)

abbrev pub listed : {A : Type 0} → (A → List ℕ) → List A → List ℕ
listed text [] = []
listed text (x ∷ xs) = text x ++ further text xs

further-is : {A : Type 0} (text : A → List ℕ) (xs : List A) → 1 ≤ length xs → further text xs ≡ 44 ∷ listed text xs
further-is text [] some = absurd (omega arith)
further-is text (x ∷ xs) some = refl

-- what follows a thing: nothing, or a byte that is no digit
abbrev pub Ends : List ℕ → Type 0
Ends bytes = hex_value (slice_index bytes 0) ≡ None

punctuation_is : (close : ℕ) (bytes : List ℕ) (x : Bool × List ℕ) → punctuation_at close bytes ≡ Some x
    → ((x.0 ≡ true) × (bytes ≡ close ∷ x.1)) ⊎ ((x.0 ≡ false) × (bytes ≡ 44 ∷ x.1))
punctuation_is close [] x e = absurd cc
punctuation_is close (b ∷ rest) x e =
    elim (chosen (nat_eq b close) (Some (true, rest)) (cond (nat_eq b 44) (Some (false, rest)) None) (Some x) e) [
      | inl p ↦
          let same : b ≡ close = eqb-true b close p.0 in
          let parts : (true, rest) ≡ x = some_is (true, rest) x p.1 in
          inl (
            ap (λ (y : Bool × List ℕ). y.0) (sym parts),
            ap (λ (c : ℕ). c ∷ rest) same ∙ ap (λ (y : Bool × List ℕ). close ∷ y.1) parts,
          )
      | inr p ↦
          let q = if_some (nat_eq b 44) (Some (false, rest)) x p.1 in
          let same : b ≡ 44 = eqb-true b 44 q.0 in
          let parts : (false, rest) ≡ x = some_is (false, rest) x q.1 in
          inr (
            ap (λ (y : Bool × List ℕ). y.0) (sym parts),
            ap (λ (c : ℕ). c ∷ rest) same ∙ ap (λ (y : Bool × List ℕ). 44 ∷ y.1) parts,
          )
    ]

-- what is read is spelled so, and fits
abbrev pub TakesSpelled : {A : Type 0} → (A → List ℕ) → (A → Type 0) → (List ℕ → Option (A × List ℕ)) → Type 0
TakesSpelled {A} text P thing = (bytes : List ℕ) (x : A × List ℕ) → thing bytes ≡ Some x → (bytes ≡ text x.0 ++ x.1)
    × P x.0

-- what is spelled so is read
abbrev pub Again : {A : Type 0} → (A → List ℕ) → (List ℕ → Option (A × List ℕ)) → A → Type 0
Again text thing x = (rest : List ℕ) → Ends rest → thing (text x ++ rest) ≡ Some (x, rest)

pub record ReadsList {A : Type 0} (text : A → List ℕ) (P : A → Type 0) (close most : ℕ) (bytes : List ℕ) (xs : List A)
    (rest : List ℕ) : Type 0 where
  pub spelled : bytes ≡ listed text xs ++ close ∷ rest
  pub some : 1 ≤ length xs
  pub few : length xs ≤ most
  pub each : AllByRecursion P xs

module _ {A : Type 0} (text : A → List ℕ) (thing : List ℕ → Option (A × List ℕ)) (close : ℕ) where
  more_spelled : (bytes behind : List ℕ) (x : A) (others rest : List ℕ) (xs : List A) → bytes ≡ text x ++ behind
      → behind ≡ 44 ∷ others → others ≡ listed text xs ++ close ∷ rest → 1 ≤ length xs
      → bytes ≡ listed text (x ∷ xs) ++ close ∷ rest
  more_spelled bytes behind x others rest xs e f g some =
      let comma : 44 ∷ others ≡ further text xs ++ close ∷ rest =
      ap (λ (t : List ℕ). 44 ∷ t) g ∙ ap (λ (t : List ℕ). t ++ close ∷ rest) (sym (further-is text xs some)) in
      e ∙ ap (λ (t : List ℕ). text x ++ t) (f ∙ comma) ∙ sym (append_assoc (text x) (further text xs) (close ∷ rest))

  pub separated_takes : (P : A → Type 0) → TakesSpelled text P thing
      → (most : ℕ) (bytes : List ℕ) (xs : List A × List ℕ)
      → separated thing close most bytes ≡ Some xs → ReadsList text P close most bytes xs.0 xs.1
  unfolding separated
  separated_takes P law zero bytes xs e = absurd cc
  separated_takes P law (suc n) bytes xs e =
      let a = bind_some (thing bytes) (λ x. punctuation_at close x.1 >>= λ behind.
      cond behind.0 (Some (x.0 ∷ [], behind.1)) (with_front (x.0 ∷ []) (separated thing close n behind.1))) xs e
      in
      let b = bind_some (punctuation_at close a.0.1) (λ behind.
      cond behind.0 (Some (a.0.0 ∷ [], behind.1)) (with_front (a.0.0 ∷ []) (separated thing close n behind.1))) xs
      a.2 in
      let first = law bytes a.0 a.1 in
      elim (punctuation_is close a.0.1 b.0 b.1) [
        | inl p ↦
            let made : Some (a.0.0 ∷ [], b.0.1) ≡ Some xs = subst
            (λ (t : Bool). cond t (Some (a.0.0 ∷ [], b.0.1))
            (with_front (a.0.0 ∷ []) (separated thing close n b.0.1)) ≡ Some xs) p.0 b.2 in
            subst (λ (y : List A × List ℕ). ReadsList text P close (suc n) bytes y.0 y.1)
            (some_is (a.0.0 ∷ [], b.0.1) xs made)
            (record {
              spelled = first.0 ∙ ap (λ (t : List ℕ). text a.0.0 ++ t) p.1
                  ∙ ap (λ (t : List ℕ). t ++ close ∷ b.0.1) (sym (append-nil (text a.0.0)));
              some = omega arith;
              few =
                  omega arith;
              each = (first.1, tt);
            })
        | inr p ↦
            let went : with_front (a.0.0 ∷ []) (separated thing close n b.0.1) ≡ Some xs =
            subst (λ (t : Bool). cond t (Some (a.0.0 ∷ [], b.0.1))
            (with_front (a.0.0 ∷ []) (separated thing close n b.0.1)) ≡ Some xs) p.0 b.2 in
            let d = bind_some (separated thing close n b.0.1) (λ y. Some (a.0.0 ∷ y.0, y.1)) xs went in
            let others = separated_takes P law n b.0.1 d.0 d.1 in
            subst (λ (y : List A × List ℕ). ReadsList text P close (suc n) bytes y.0 y.1)
            (some_is (a.0.0 ∷ d.0.0, d.0.1) xs d.2)
            (record {
              spelled = more_spelled bytes a.0.1 a.0.0 b.0.1 d.0.1 d.0.0 first.0 p.1 others.spelled others.some;
              some = omega arith;
              few = omega (arith, others.few);
              each = (first.1, others.each);
            })
      ]

  pub separated_again : hex_value close ≡ None → nat_eq 44 close ≡ false → (rest : List ℕ) (most : ℕ) (xs : List A)
      → 1 ≤ length xs → length xs ≤ most → AllByRecursion (Again text thing) xs
      → separated thing close most (listed text xs ++ close ∷ rest) ≡ Some (xs, rest)
  unfolding separated
  separated_again no_digit no_comma rest zero xs some few each = absurd (omega arith)
  separated_again no_digit no_comma rest (suc n) [] some few each = absurd (omega arith)
  separated_again no_digit no_comma rest (suc n) (x ∷ []) some few each =
      let here : thing ((text x ++ []) ++ close ∷ rest) ≡ Some (x, close ∷ rest) =
      ap (λ (t : List ℕ). thing (t ++ close ∷ rest)) (append-nil (text x)) ∙ each.0 (close ∷ rest) no_digit in
      let test : nat_eq close close ≡ true = eq-eqb close close refl in
      rw (here, test) refl
  separated_again no_digit no_comma rest (suc n) (x ∷ y ∷ ys) some few each =
      let here : thing ((text x ++ further text (y ∷ ys)) ++ close ∷ rest)
      ≡ Some (x, 44 ∷ (listed text (y ∷ ys) ++ close ∷ rest)) =
      ap thing (append_assoc (text x) (further text (y ∷ ys)) (close ∷ rest))
      ∙ each.0 (44 ∷ (listed text (y ∷ ys) ++ close ∷ rest)) refl in
      let others : separated thing close n (listed text (y ∷ ys) ++ close ∷ rest) ≡ Some (y ∷ ys, rest) =
      separated_again no_digit no_comma rest n (y ∷ ys) (omega arith) (omega arith) each.1 in
      rw (here, no_comma, others) refl
