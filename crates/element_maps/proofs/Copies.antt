-- Copies that pass a test are copies of the place, and ascend.
use Rattle.std.proofs.Common.{◌≡◌, ℕ, zero, suc, ◌+◌, ◌<◌, List, [], ◌∷◌, ◌++◌, length, get_or, Bool, true, false, cond}
use Rattle.std.proofs.Common.{sym, subst, arith, length-append, ⊎_elim}
use Rattle.std.proofs.lemmas.Bool.{cases_lt}
use Rattle.std.proofs.lemmas.List.{get_or_append_left, get_or_push, append-nil}
use Rattle.guarded_cell.specs.Held.{copies_that}
use Rattle.block_files.specs.BlockSets.{Ascend}
use Rattle.block_files.specs.Contents.{AreCopies}

pub record AreNumbers (copies : ℕ) (numbers : List ℕ) : Type 0 where
  pub copies_are : AreCopies copies numbers
  pub ascend : Ascend numbers

pub no_numbers : (copies : ℕ) → AreNumbers copies []
no_numbers copies = record {
  copies_are = λ i lt. absurd (omega (arith, lt));
  ascend =
      λ i j less lt. absurd (omega (arith, lt));
}

numbers_on : (n : ℕ) (xs : List ℕ) → AreNumbers n xs → AreNumbers (suc n) xs
numbers_on n xs are = record {
  copies_are = λ i lt. (let at =
      are.copies_are i lt in (omega (arith, at.0), omega (arith, at.1)));
  ascend = are.ascend;
}

module _ (n : ℕ) (xs : List ℕ) (are : AreNumbers n xs) where
  abbrev more : List ℕ
  more = xs ++ (n + 1) ∷ []

  long : length more ≡ length xs + 1
  long = length-append xs ((n + 1) ∷ [])

  before : (i : ℕ) → i < length xs → get_or more i 0 ≡ get_or xs i 0
  before i lt = get_or_append_left xs ((n + 1) ∷ []) 0 i lt

  last : (i : ℕ) → length xs ≡ i → get_or more i 0 ≡ n + 1
  last i e = get_or_push xs (n + 1) 0 i e

  copies_last : AreCopies (suc n) more
  copies_last i lt = ⊎_elim
      (λ less. (let e = before i less in let at = are.copies_are i less in
      (omega (arith, e, at.0), omega (arith, e, at.1))))
      (λ end. (let e = last i (omega (arith, end, lt, long)) in (omega (arith, e), omega (arith, e))))
      (cases_lt i (length xs))

  ascend_last : Ascend more
  ascend_last i j less lt = ⊎_elim
      (λ early. (let e = before i (omega (arith, less, early)) in let f = before j early in let up =
      are.ascend i j less early in omega (arith, e, f, up)))
      (λ end. (
      let inside : i < length xs = omega (arith, less, lt, long) in
      let e = before i inside in
      let f = last j (omega (arith, end, lt, long)) in
      let at = (are.copies_are i inside).1 in omega (arith, e, f, at)))
      (cases_lt j (length xs))

  numbers_last : AreNumbers (suc n) (xs ++ (n + 1) ∷ [])
  numbers_last = record { copies_are = copies_last; ascend = ascend_last }

one_more : (n : ℕ) (xs : List ℕ) (b : Bool) → AreNumbers n xs → AreNumbers (suc n) (xs ++ cond b ((n + 1) ∷ []) [])
one_more n xs true are = numbers_last n xs are
one_more n xs false are = subst (AreNumbers (suc n)) (sym (append-nil xs)) (numbers_on n xs are)

pub numbers_passing : (test : ℕ → Bool) (copies : ℕ) → AreNumbers copies (copies_that test copies)
numbers_passing test zero = no_numbers zero
numbers_passing test (suc n) = one_more n (copies_that test n) (test n) (numbers_passing test n)
