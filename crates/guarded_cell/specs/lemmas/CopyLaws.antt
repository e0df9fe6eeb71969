-- Laws of the copies that pass a test: which they are, which is the first, and that they are that many exactly where at
-- least that many copies pass.
use Rattle.std.proofs.Common.{◌≡◌, ℕ, zero, suc, ◌+◌, ◌<◌, ◌≤◌, List, [], ◌∷◌, ◌++◌, length, get_or, Bool, true, false}
use Rattle.std.proofs.Common.{cond, sym, ap, ◌∙◌, subst, inl, inr, ⊎_elim, length-append, refl, arith}
use Rattle.std.proofs.lemmas.Bool.{cases_Bool, false_from_ne_true, cases_lt, cond-true, cond-false, eqb-true, eq-eqb}
use Rattle.std.proofs.lemmas.List.Elements.{Contains-append_left, Contains-append_cases, Contains-push}
use Rattle.std.proofs.lemmas.List.{get_or_append_left, get_or_default}
use Rattle.std.specs.List.{Contains}
use Rattle.std.proofs.lemmas.List.Folds.{list_any_at, Any-from_list_any}
use Rattle.std.specs.Prelude.{slice_index_or, ◌==◌}
use Rattle.disk_model.specs.Damage.{AtLeast}
use Rattle.disk_model.specs.Orders.{named_in}
use Rattle.guarded_cell.specs.Held.{copies_that}

module _ (test : ℕ → Bool) where
  -- ---- one copy more

  passes : (n : ℕ) → test n ≡ true → copies_that test (suc n) ≡ copies_that test n ++ (n + 1) ∷ []
  passes n e = ap (λ (xs : List ℕ). copies_that test n ++ xs) (cond-true (test n) ((n + 1) ∷ []) [] e)

  fails : (n : ℕ) → test n ≡ false → length (copies_that test (suc n)) ≡ length (copies_that test n)
  fails n e =
      ap (λ (xs : List ℕ). length (copies_that test n ++ xs)) (cond-false (test n) ((n + 1) ∷ []) [] e)
      ∙ length-append (copies_that test n) [] ∙ (omega arith)

  one_more : (n : ℕ) → test n ≡ true → length (copies_that test (suc n)) ≡ length (copies_that test n) + 1
  one_more n e = ap length (passes n e) ∙ length-append (copies_that test n) ((n + 1) ∷ [])

  -- ---- how many they are

  pub enough_pass : (n m : ℕ) → m ≤ length (copies_that test n) → AtLeast (λ copy. test copy ≡ true) n m
  enough_pass n zero le = tt
  enough_pass zero (suc m) le = absurd (omega (arith, le))
  enough_pass (suc n) (suc m) le = ⊎_elim
      (λ e. let long = one_more n e in inl (e, enough_pass n m (omega (arith, le, long))))
      (λ e. let long = fails n e in inr (enough_pass n (suc m) (omega (arith, le, long))))
      (cases_Bool (test n))

  more : (n : ℕ) → length (copies_that test n) ≤ length (copies_that test (suc n))
  more n = ⊎_elim
      (λ e. let long = one_more n e in omega (arith, long))
      (λ e. let long = fails n e in omega (arith, long))
      (cases_Bool (test n))

  pub passing_enough : (n m : ℕ) → AtLeast (λ copy. test copy ≡ true) n m → m ≤ length (copies_that test n)
  passing_enough n zero some = omega arith
  passing_enough zero (suc m) some = absurd some
  passing_enough (suc n) (suc m) some = ⊎_elim
      (λ both. let long = one_more n both.0 in let before = passing_enough n m both.1 in omega (arith, long, before))
      (λ rest. let long = more n in let before = passing_enough n (suc m) rest in omega (arith, long, before))
      some

  -- ---- which they are

  pub passing_is : (n copy : ℕ) → copy < n → test copy ≡ true → Contains (copies_that test n) (copy + 1)
  passing_is zero copy lt e = absurd (omega (arith, lt))
  passing_is (suc n) copy lt e = ⊎_elim
      (λ before. Contains-append_left (copies_that test n) (cond (test n) ((n + 1) ∷ []) []) (copy + 1)
      (passing_is n copy before e))
      (λ last.
      let it : copy ≡ n = omega (arith, lt, last) in
      let there : test n ≡ true = sym (ap test it) ∙ e in
      subst (λ (x : ℕ). Contains (copies_that test (suc n)) (x + 1)) (sym it)
      (subst (λ (xs : List ℕ). Contains xs (n + 1)) (sym (passes n there))
      (Contains-push (copies_that test n) (n + 1))))
      (cases_lt copy n)

  pub is_passing : (n copy : ℕ) → Contains (copies_that test n) (copy + 1) → (copy < n) × (test copy ≡ true)
  is_passing zero copy inside = let (k, lt, at) = inside in absurd (omega (arith, lt))
  is_passing (suc n) copy inside = ⊎_elim
      (λ before. let it = is_passing n copy before in (omega (arith, it.0), it.1))
      (λ last. ⊎_elim
      (λ e. let same = only (subst (λ (xs : List ℕ). Contains xs (copy + 1)) (cond-true (test n) ((n + 1) ∷ []) [] e)
      last) in
      (omega (arith, same), ap test same ∙ e))
      (λ e. let (k, lt, at) = subst (λ (xs : List ℕ). Contains xs (copy + 1)) (cond-false (test n) ((n + 1) ∷ []) [] e)
      last in
      absurd (omega (arith, lt)))
      (cases_Bool (test n)))
      (Contains-append_cases (copies_that test n) (cond (test n) ((n + 1) ∷ []) []) (copy + 1) inside)
    where
      only_at : (k : ℕ) (lt : k < 1) → slice_index_or ((n + 1) ∷ []) k (copy + 1) ≡ copy + 1 → copy ≡ n
      only_at zero lt e = omega (arith, e)
      only_at (suc k) lt e = absurd (omega (arith, lt))

      only : Contains ((n + 1) ∷ []) (copy + 1) → copy ≡ n
      only it = let (k, lt, at) = it in only_at k lt at

  pub some_passes : (n : ℕ) → 1 ≤ length (copies_that test n) → (copy : ℕ) × (copy < n) × (test copy ≡ true)
  some_passes zero some = absurd (omega (arith, some))
  some_passes (suc n) some = ⊎_elim
      (λ e. (n, omega arith, e))
      (λ e.
      let same = fails n e in
      let (copy, lt, it) = some_passes n (omega (arith, some, same)) in (copy, omega (arith, lt), it))
      (cases_Bool (test n))

  -- the first of them, before which none passes
  pub first_passing : (n : ℕ) → 1 ≤ length (copies_that test n)
      → (copy : ℕ) × (copy < n) × (test copy ≡ true) × (get_or (copies_that test n) 0 0 ≡ copy + 1)
      × ((c : ℕ) → c < copy → test c ≡ false)
  first_passing zero some = absurd (omega (arith, some))
  first_passing (suc n) some = ⊎_elim
      (λ earlier.
      let (copy, lt, e, at, none) = first_passing n (omega (arith, earlier)) in (
        copy,
        omega (arith, lt),
        e,
        get_or_append_left (copies_that test n) (cond (test n) ((n + 1) ∷ []) []) 0 0 earlier
            ∙ at,
        none,
      ))
      (λ none. ⊎_elim
      (λ e. (
        n,
        omega arith,
        e,
        ap (λ (xs : List ℕ). get_or xs 0 0) (passes n e) ∙ alone (copies_that test n) none,
        λ c lt. false_from_ne_true (test c) (λ yes. let (k, within, at) =
            passing_is n c lt yes in omega (arith, within, none)),
      ))
      (λ e. let same = fails n e in absurd (omega (arith, some, same, none)))
      (cases_Bool (test n)))
      (cases_lt 0 (length (copies_that test n)))
    where
      alone : (xs : List ℕ) → length xs ≤ 0 → get_or (xs ++ (n + 1) ∷ []) 0 0 ≡ n + 1
      alone [] none = refl
      alone (x ∷ xs) none = absurd (omega (arith, none))

-- ---- membership as a test

pub named_contains : (xs : List ℕ) (n : ℕ) → named_in xs n ≡ true → Contains xs n
named_contains xs n e =
    let any = Any-from_list_any (λ x. x == n) xs e in
    (any.0, any.2, get_or_default xs any.0 n any.1 any.2 ∙ any.3 ∙ eqb-true any.1 n any.4)

pub contains_named : (xs : List ℕ) (n : ℕ) → Contains xs n → named_in xs n ≡ true
contains_named xs n has = list_any_at (λ x. x == n) xs has.0 n has.1 (ap (λ x. x == n) has.2 ∙ eq-eqb n n refl)

-- a copy is among those that pass exactly where it passes
pub named_passing : (test : ℕ → Bool) (n copy : ℕ) → copy < n → named_in (copies_that test n) (copy + 1) ≡ test copy
named_passing test n copy lt = ⊎_elim
    (λ yes. contains_named (copies_that test n) (copy + 1) (passing_is test n copy lt yes) ∙ sym yes)
    (λ no. false_from_ne_true (named_in (copies_that test n) (copy + 1)) (λ named.
    let passed = (is_passing test n copy (named_contains (copies_that test n) (copy + 1) named)).1 in
    let both : true ≡ false = sym passed ∙ no in cc) ∙ sym no)
    (cases_Bool (test copy))
