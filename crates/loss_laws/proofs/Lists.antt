-- Copies that pass a test where all but one do, and the item of a list that is picked.
use Rattle.std.proofs.Common.{◌≡◌, ◌≢◌, ℕ, zero, suc, ◌+◌, ◌<◌, ◌≤◌, List, [], ◌∷◌, ◌++◌, length, Bool, true, false}
use Rattle.std.proofs.Common.{cond, Option, Some, None, refl, sym, ap, ◌∙◌, inl, inr, ⊎_elim, length-append}
use Rattle.std.proofs.Common.{arith}
use Rattle.std.proofs.lemmas.Bool.{cases_Bool, cases_eq, cond-true, cond-false}
use Rattle.guarded_cell.specs.Held.{copies_that}
use Rattle.guarded_cell.specs.lemmas.CopyLaws.{some_passes}
use Rattle.element_state.specs.States.{beside, first_picked}
use Rattle.element_laws.specs.lemmas.Lists.{In, not_none, some_is}

module _ (test : ℕ → Bool) where
  longer : (n : ℕ) → test n ≡ true → length (copies_that test (suc n)) ≡ length (copies_that test n) + 1
  longer n e = ap (λ (xs : List ℕ). length (copies_that test n ++ xs)) (cond-true (test n) ((n + 1) ∷ []) [] e)
      ∙ length-append (copies_that test n) ((n + 1) ∷ [])

  as_long : (n : ℕ) → test n ≡ false → length (copies_that test (suc n)) ≡ length (copies_that test n)
  as_long n e = ap (λ (xs : List ℕ). length (copies_that test n ++ xs)) (cond-false (test n) ((n + 1) ∷ []) [] e)
      ∙ length-append (copies_that test n) [] ∙ (omega arith)

  no_less : (n : ℕ) → length (copies_that test n) ≤ length (copies_that test (suc n))
  no_less n = ⊎_elim (λ e. omega (arith, longer n e)) (λ e. omega (arith, as_long n e)) (cases_Bool (test n))

  all_pass : (n : ℕ) → ((c : ℕ) → c < n → test c ≡ true) → n ≤ length (copies_that test n)
  all_pass zero all = omega arith
  all_pass (suc n) all =
      let before = all_pass n (λ c lt. all c (omega (arith, lt))) in
      let one = longer n (all n (omega arith)) in omega (arith, before, one)

  -- where all but one pass, so many do
  pub most_pass : (n lost : ℕ) → ((c : ℕ) → c < n → c ≢ lost → test c ≡ true) → n ≤ length (copies_that test n) + 1
  most_pass zero lost most = omega arith
  most_pass (suc n) lost most = ⊎_elim
      (λ last.
      let before = all_pass n (λ c lt. most c (omega (arith, lt)) (λ same. omega (arith, lt, last, same))) in
      let more = no_less n in omega (arith, before, more))
      (λ apart.
      let before = most_pass n lost (λ c lt. most c (omega (arith, lt))) in
      let one = longer n (most n (omega arith) apart) in omega (arith, before, one))
      (cases_eq n lost)

  -- of two that pass one is not the lost one
  pub another : (n lost : ℕ) → 2 ≤ length (copies_that test n) → (c : ℕ) × (c < n) × (c ≢ lost) × (test c ≡ true)
  another zero lost two = absurd (omega (arith, two))
  another (suc n) lost two = ⊎_elim
      (λ e. ⊎_elim
      (λ last.
      let (c, lt, is) = some_passes test n (omega (arith, two, longer n e)) in
      (c, omega (arith, lt), (λ same. omega (arith, lt, last, same)), is))
      (λ apart. (n, omega arith, apart, e))
      (cases_eq n lost))
      (λ e.
      let (c, lt, other, is) = another n lost (omega (arith, two, as_long n e)) in (c, omega (arith, lt), other, is))
      (cases_Bool (test n))

  -- where none passes there is none
  pub none_that : (n : ℕ) → ((c : ℕ) → c < n → test c ≡ false) → copies_that test n ≡ []
  none_that zero never = refl
  none_that (suc n) never =
      ap (λ (xs : List ℕ). xs ++ cond (test n) ((n + 1) ∷ []) [])
      (none_that n (λ c lt. never c (omega (arith, lt))))
      ∙ cond-false (test n) ((n + 1) ∷ []) [] (never n (omega arith))

-- ---- what is picked

-- the only item that passes is picked
pub pick_only : {A : Type 0} (q : A → Bool) (xs : List A) (y : A) → In y xs → q y ≡ true
    → ((z : A) → In z xs → q z ≡ true → z ≡ y)
    → (r : A × List A) × (first_picked q xs ≡ Some r) × (r.0 ≡ y)
pick_only q [] y here passes only = absurd here
pick_only {A} q (x ∷ xs) y here passes only = elim (q x) as
    (λ b. q x ≡ b → (r : A × List A) × (cond b (Some (x, xs)) (beside x (first_picked q xs)) ≡ Some r) × (r.0 ≡ y)) [
      | true ↦ λ is. ((x, xs), refl, only x (inl refl) is)
      | false ↦ λ is.
          let later : In y xs = elim here [
            | inl same ↦ absurd (never (q y) passes (ap q (sym same) ∙ is))
            | inr h ↦ h
          ] in
          let r = pick_only q xs y later passes (λ z h. only z (inr h)) in
          ((r.0.0, x ∷ r.0.1), ap (beside x) r.1, r.2)
    ] refl
  where
    never : (b : Bool) → b ≡ true → b ≡ false → ⊥
    never b one two = cc

-- where nothing is left beside what is picked, there is nothing else
pub alone_picked : {A : Type 0} (q : A → Bool) (xs : List A) (r : A × List A) → first_picked q xs ≡ Some r → r.1 ≡ []
    → xs ≡ r.0 ∷ []
alone_picked q [] r e none = absurd (not_none r (sym e))
alone_picked {A} q (x ∷ xs) r e none = elim (q x) as
    (λ b. cond b (Some (x, xs)) (beside x (first_picked q xs)) ≡ Some r → x ∷ xs ≡ r.0 ∷ []) [
      | true ↦ λ e.
          let same = some_is (x, xs) r e in
          ap (λ (s : A × List A). s.0 ∷ s.1) same ∙ ap (λ (ys : List A). r.0 ∷ ys) none
      | false ↦ λ e. absurd (more (first_picked q xs) e)
    ] e
  where
    more : (o : Option (A × List A)) → beside x o ≡ Some r → ⊥
    more None e = not_none r (sym e)
    more (Some s) e =
        let same : x ∷ s.1 ≡ r.1 = ap (λ (t : A × List A). t.1) (some_is (s.0, x ∷ s.1) r e) in
        let no : x ∷ s.1 ≡ [] = same ∙ none in cc
