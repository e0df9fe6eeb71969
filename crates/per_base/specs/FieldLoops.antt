-- Things read one after another, as a loop does.
use Rattle.std.proofs.Common.{◌≡◌, ℕ, suc, ◌-◌, ◌+◌, ◌≤◌, ◌<◌, List, [], ◌∷◌, ◌++◌, Option, Some, None, refl, sym, ap}
use Rattle.std.proofs.Common.{◌∙◌, append_assoc, arith}
use Rattle.std.proofs.lemmas.List.{append-nil}
use Rattle.per_base.specs.Fields.{◌>>=◌, many}

-- what was read before, and what is still read
abbrev pub with_front : {A : Type 0} → List A → Option (List A × List ℕ) → Option (List A × List ℕ)
with_front front read = read >>= λ x. Some (front ++ x.0, x.1)

module _ {A : Type 0} (read : List ℕ → Option (A × List ℕ)) where
  regroup : (front : List A) (x : A) (others : Option (List A × List ℕ))
      → with_front front (others >>= λ y. Some (x ∷ y.0, y.1)) ≡ with_front (front ++ x ∷ []) others
  regroup front x (Some y) = ap (λ (xs : List A). Some (xs, y.1)) (simp append_assoc)
  regroup front x None = refl

  -- one more was read
  pub goes_on : (front : List A) (count i : ℕ) (bytes : List ℕ) (x : A) (after : List ℕ)
      (total : Option (List A × List ℕ)) → i < count → read bytes ≡ Some (x, after)
      → with_front front (many read (count - i) bytes) ≡ total
      → with_front (front ++ x ∷ []) (many read (count - (i + 1)) after) ≡ total
  unfolding many
  goes_on front count i bytes x after total lt h so_far =
      let k : count - i ≡ suc (count - (i + 1)) = omega arith in
      let one : with_front front (many read (count - i) bytes)
      ≡ with_front (front ++ x ∷ []) (many read (count - (i + 1)) after) =
      rw (k, h) (regroup front x (many read (count - (i + 1)) after)) in
      sym one ∙ so_far

  -- the next could not be read
  pub breaks_off : (front : List A) (count i : ℕ) (bytes : List ℕ) (total : Option (List A × List ℕ)) → i < count
      → read bytes ≡ None
      → with_front front (many read (count - i) bytes) ≡ total → total ≡ None
  unfolding many
  breaks_off front count i bytes total lt h so_far =
      let k : count - i ≡ suc (count - (i + 1)) = omega arith in
      let one : with_front front (many read (count - i) bytes) ≡ None = rw (k, h) refl in
      sym so_far ∙ one

  -- all were read
  pub is_done : (front : List A) (count i : ℕ) (bytes : List ℕ) (total : Option (List A × List ℕ)) → count ≤ i
      → with_front front (many read (count - i) bytes) ≡ total → total ≡ Some (front, bytes)
  unfolding many
  is_done front count i bytes total le so_far =
      let k : count - i ≡ 0 = omega arith in
      let one : with_front front (many read (count - i) bytes) ≡ Some (front, bytes) =
      rw k (ap (λ (xs : List A). Some (xs, bytes)) (append-nil front)) in
      sym so_far ∙ one
