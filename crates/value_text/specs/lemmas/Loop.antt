-- Reading a list as a loop does: what was read before, and what is still read, are the whole.
use Rattle.std.proofs.Common.{◌≡◌, ℕ, suc, ◌-◌, ◌+◌, ◌≤◌, ◌<◌, true, false, List, [], ◌∷◌, ◌++◌, Option, Some, None}
use Rattle.std.proofs.Common.{refl, sym, ap, ◌∙◌, append_assoc, arith}
use Rattle.per_base.specs.FieldLoops.{with_front}
use Rattle.value_model.specs.declared.errors.DecodeError.{DecodeError}
use Rattle.value_model.specs.declared.errors.DecodeError.TheVariants as errors
use Rattle.value_model.specs.Decoding.{FailsToRead}
use Rattle.value_text.specs.Readers.{punctuation_at, separated}

pub with_front-with_front : {A : Type 0} (front : List A) (x : A) (read : Option (List A × List ℕ))
    → with_front front (with_front (x ∷ []) read) ≡ with_front (front ++ x ∷ []) read
with_front-with_front front x None = refl
with_front-with_front front x (Some y) = ap (λ xs. Some (xs, y.1)) (sym (append_assoc front (x ∷ []) y.0))

module _ {A : Type 0} (thing : List ℕ → Option (A × List ℕ)) (close : ℕ) where
  -- no thing stands there
  pub stops : (front : List A) (most i : ℕ) (rest : List ℕ) (total : Option (List A × List ℕ)) → i < most
      → thing rest ≡ None → with_front front (separated thing close (most - i) rest) ≡ total → total ≡ None
  unfolding separated
  stops front most i rest total lt e so_far =
      let k : most - i ≡ suc (most - (i + 1)) = omega arith in
      let none : with_front front (separated thing close (most - i) rest) ≡ None = rw (k, e) refl in
      sym so_far ∙ none

  -- neither the closing byte nor a comma follows a thing
  pub breaks : (front : List A) (most i : ℕ) (rest : List ℕ) (x : A) (behind : List ℕ)
      (total : Option (List A × List ℕ)) → i < most → thing rest ≡ Some (x, behind) → punctuation_at close behind ≡ None
      → with_front front (separated thing close (most - i) rest) ≡ total → total ≡ None
  unfolding separated
  breaks front most i rest x behind total lt e cut so_far =
      let k : most - i ≡ suc (most - (i + 1)) = omega arith in
      let none : with_front front (separated thing close (most - i) rest) ≡ None = rw (k, e, cut) refl in
      sym so_far ∙ none

  pub closes : (front : List A) (most i : ℕ) (rest : List ℕ) (x : A) (behind others : List ℕ)
      (total : Option (List A × List ℕ)) → i < most → thing rest ≡ Some (x, behind)
      → punctuation_at close behind ≡ Some (true, others)
      → with_front front (separated thing close (most - i) rest) ≡ total → total ≡ Some (front ++ x ∷ [], others)
  unfolding separated
  closes front most i rest x behind others total lt e cut so_far =
      let k : most - i ≡ suc (most - (i + 1)) = omega arith in
      let here : with_front front (separated thing close (most - i) rest) ≡ Some (front ++ x ∷ [], others) =
      rw (k, e, cut) refl in
      sym so_far ∙ here

  pub continues : (front : List A) (most i : ℕ) (rest : List ℕ) (x : A) (behind others : List ℕ)
      (total : Option (List A × List ℕ)) → i < most → thing rest ≡ Some (x, behind)
      → punctuation_at close behind ≡ Some (false, others)
      → with_front front (separated thing close (most - i) rest) ≡ total
      → with_front (front ++ x ∷ []) (separated thing close (most - (i + 1)) others) ≡ total
  unfolding separated
  continues front most i rest x behind others total lt e cut so_far =
      let k : most - i ≡ suc (most - (i + 1)) = omega arith in
      let here : with_front front (separated thing close (most - i) rest)
      ≡ with_front front (with_front (x ∷ []) (separated thing close (most - (i + 1)) others)) =
      rw (k, e, cut) refl in
      sym (with_front-with_front front x (separated thing close (most - (i + 1)) others)) ∙ sym here ∙ so_far

  -- there are more things than there may be
  pub is_full : (front : List A) (most i : ℕ) (rest : List ℕ) (total : Option (List A × List ℕ)) → most ≤ i
      → with_front front (separated thing close (most - i) rest) ≡ total → total ≡ None
  unfolding separated
  is_full front most i rest total le so_far =
      let k : most - i ≡ 0 = omega arith in
      let none : with_front front (separated thing close (most - i) rest) ≡ None = rw k refl in
      sym so_far ∙ none

  -- the exits of a loop where a step failed
  pub thing_fails : (error : DecodeError) (front : List A) (most i : ℕ) (rest : List ℕ)
      (total : Option (List A × List ℕ)) → i < most → FailsToRead error (thing rest)
      → with_front front (separated thing close (most - i) rest) ≡ total → FailsToRead error total
  thing_fails errors.NotAValue front most i rest total lt e so_far = stops front most i rest total lt e so_far
  thing_fails errors.OutOfMemory front most i rest total lt e so_far = tt

  pub punctuation_fails : (error : DecodeError) (front : List A) (most i : ℕ) (rest : List ℕ) (x : A) (behind : List ℕ)
      (total : Option (List A × List ℕ)) → i < most → thing rest ≡ Some (x, behind)
      → FailsToRead error (punctuation_at close behind) → with_front front (separated thing close (most - i) rest)
      ≡ total
      → FailsToRead error total
  punctuation_fails errors.NotAValue front most i rest x behind total lt e cut so_far =
      breaks front most i rest x behind total lt e cut so_far
  punctuation_fails errors.OutOfMemory front most i rest x behind total lt e cut so_far = tt
