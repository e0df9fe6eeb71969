-- The first of a list that passes a test.
use Rattle.std.proofs.Common.{◌≡◌, ℕ, zero, suc, ◌<◌, List, [], ◌∷◌, length, get_or, Bool, true, false, Some}
use Rattle.std.proofs.Common.{None, find, sym, ◌∙◌, subst, ⊎_elim, arith}
use Rattle.std.specs.List.{All}
use Rattle.std.proofs.lemmas.Bool.{cases_Bool, cond-true, cond-false}

-- it is there, and nothing before it passes
pub record IsFirst {X : Type 0} (test : X → Bool) (xs : List X) (x : X) : Type 0 where
  pub at : ℕ
  pub within : at < length xs
  pub is : (d : X) → get_or xs at d ≡ x
  pub passes : test x ≡ true
  pub before : (j : ℕ) (d : X) → j < at → test (get_or xs j d) ≡ false

module _ {X : Type 0} (test : X → Bool) where
  -- one that fails comes before
  one_before : (y : X) (ys : List X) (at : ℕ) → test y ≡ false
      → ((j : ℕ) (d : X) → j < at → test (get_or ys j d) ≡ false) → (j : ℕ) (d : X) → j < suc at
      → test (get_or (y ∷ ys) j d) ≡ false
  one_before y ys at fails rest zero d lt = fails
  one_before y ys at fails rest (suc j) d lt = rest j d (omega (arith, lt))

  pub find_first : (xs : List X) (x : X) → find test xs ≡ Some x → IsFirst test xs x
  find_first [] x e = absurd cc
  find_first (y ∷ ys) x e = ⊎_elim
      (λ passes.
      let some : Some y ≡ Some x = sym (cond-true (test y) (Some y) (find test ys) passes) ∙ e in
      let same : y ≡ x = cc in
      record {
        at = 0;
        within = omega arith;
        is = λ d. same;
        passes = subst (λ (z : X). test z ≡ true) same passes;
        before = λ j d lt. absurd (omega (arith, lt));
      })
      (λ fails.
      let rest = find_first ys x (sym (cond-false (test y) (Some y) (find test ys) fails) ∙ e) in
      record {
        at = suc rest.at;
        within = (let w = rest.within in omega (arith, w));
        is = λ d. rest.is d;
        passes = rest.passes;
        before = λ j d lt. one_before y ys rest.at fails rest.before j d lt;
      })
      (cases_Bool (test y))

  pub find_none : (xs : List X) → find test xs ≡ None → (j : ℕ) (d : X) → j < length xs
      → test (get_or xs j d) ≡ false
  find_none [] e j d lt = absurd (omega (arith, lt))
  find_none (y ∷ ys) e j d lt = ⊎_elim
      (λ passes. let no : Some y ≡ None = sym (cond-true (test y) (Some y) (find test ys) passes) ∙ e in absurd cc)
      (λ fails. one_before y ys (length ys) fails
      (find_none ys (sym (cond-false (test y) (Some y) (find test ys) fails) ∙ e)) j d (omega (arith, lt)))
      (cases_Bool (test y))

  -- what is so of all is so of it
  pub first_is : (P : X → Type 0) (xs : List X) (x : X) → IsFirst test xs x → All P xs → P x
  first_is P xs x first every = subst P (first.is x) (every first.at x first.within)
