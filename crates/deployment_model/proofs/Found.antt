-- What a look-up by name finds, and that names that ascend tell things apart.
use Rattle.std.proofs.Common.{◌≡◌, ℕ, zero, suc, ◌+◌, ◌<◌, Bool, true, false, cond, List, [], ◌∷◌, length, ltb, map}
use Rattle.std.proofs.Common.{Some, None, unwrap_or, refl, sym, ap, subst, ◌∙◌, arith}
use Rattle.std.specs.Prelude.{find, position, slice_get}
use Rattle.std.specs.List.{AllByRecursion, position_from, position_or_len}
use Rattle.std.specs.List.Sorted.{IsStrictlySortedBy}
use Rattle.std.specs.declared.cmp.Ordering.TheVariants.{Less}
use Rattle.std.specs.Str.{bytes_eq}
use Rattle.std.proofs.lemmas.Bool.{ltb-true}
use Rattle.std.proofs.lemmas.Iterator.Adapters.{position_from-zero}
use Rattle.std.proofs.lemmas.List.Folds.{find_at}
use Rattle.std.proofs.lemmas.Slice.Eq.{bytes_eq-Decides}
use Rattle.per_base.specs.Names.{name_cmp}
use Rattle.deployment_model.proofs.Search.{differs, less_is_not_equal}

-- what is found is one of the things
pub all_found : {Y : Type 0} (P : Y → Type 0) (test : Y → Bool) (ys : List Y) → AllByRecursion P ys → (y : Y)
    → find test ys ≡ Some y → P y
all_found P test [] all y e = absurd cc
all_found {Y} P test (x ∷ xs) all y e = by (test x) (all_found P test xs all.1 y) e
  where
    by : (b : Bool) → (find test xs ≡ Some y → P y) → cond b (Some x) (find test xs) ≡ Some y → P y
    by true later is = subst P (ap (λ o. unwrap_or o x) is) all.0
    by false later is = later is

-- the place of the thing that is found
pub place_found : {Y : Type 0} (test : Y → Bool) (ys : List Y) (i : ℕ) → position test ys ≡ Some i
    → (i < length ys) × (slice_get ys i ≡ find test ys)
place_found {Y} test ys i e = by (ltb (position_or_len test ys) (length ys)) refl e
  where
    by : (b : Bool) → ltb (position_or_len test ys) (length ys) ≡ b
        → cond b (Some (position_or_len test ys)) None ≡ Some i → (i < length ys) × (slice_get ys i ≡ find test ys)
    by true within is =
        let same : position_or_len test ys ≡ i = ap (λ o. unwrap_or o i) is in
        (subst (λ n. n < length ys) same (ltb-true _ _ within), ap (slice_get ys) (sym same) ∙ sym (find_at test ys))
    by false within is = absurd cc

module _ {Y : Type 0} (name_of : Y → List ℕ) where
  abbrev named : Y → Y → Bool
  named y z = bytes_eq (name_of z) (name_of y)

  named_itself : (y : Y) → named y y ≡ true
  named_itself y = (bytes_eq-Decides (name_of y) (name_of y)).1 refl

  -- a name below each of the others is below the one at a place
  below : (a : List ℕ) (ys : List Y) → AllByRecursion (λ b. name_cmp a b ≡ Less) (map name_of ys) → (i : ℕ) (y : Y)
      → slice_get ys i ≡ Some y → name_cmp a (name_of y) ≡ Less
  below a [] all i y at = absurd cc
  below a (x ∷ xs) all zero y at = subst (λ z. name_cmp a (name_of z) ≡ Less) (ap (λ o. unwrap_or o x) at) all.0
  below a (x ∷ xs) all (suc i) y at = below a xs all.1 i y at

  apart : (x : Y) (xs : List Y) → IsStrictlySortedBy name_cmp (map name_of (x ∷ xs)) → (i : ℕ) (y : Y)
      → slice_get xs i ≡ Some y → named y x ≡ false
  unfolding IsStrictlySortedBy
  apart x xs sorted i y at = differs (name_of x) (name_of y)
      (less_is_not_equal _ (below (name_of x) xs sorted.0 i y at))

  rest : (x : Y) (xs : List Y) → IsStrictlySortedBy name_cmp (map name_of (x ∷ xs))
      → IsStrictlySortedBy name_cmp (map name_of xs)
  unfolding IsStrictlySortedBy
  rest x xs sorted = sorted.1

  pub found_by_name : (ys : List Y) → IsStrictlySortedBy name_cmp (map name_of ys) → (i : ℕ) (y : Y)
      → slice_get ys i ≡ Some y → find (named y) ys ≡ Some y
  found_by_name [] sorted i y at = absurd cc
  found_by_name (x ∷ xs) sorted zero y at =
      let same : x ≡ y = ap (λ o. unwrap_or o x) at in
      rw (same, named_itself y) refl
  found_by_name (x ∷ xs) sorted (suc i) y at = rw (apart x xs sorted i y at)
      (found_by_name xs (rest x xs sorted) i y at)

  place_from : (ys : List Y) → IsStrictlySortedBy name_cmp (map name_of ys) → (i : ℕ) (y : Y) → slice_get ys i ≡ Some y
      → (k : ℕ) → position_from (named y) k ys ≡ Some (k + i)
  place_from [] sorted i y at k = absurd cc
  place_from (x ∷ xs) sorted zero y at k =
      let same : x ≡ y = ap (λ o. unwrap_or o x) at in
      let e : k ≡ k + 0 = omega arith in
      rw (same, named_itself y) (ap (λ (n : ℕ). Some n) e)
  place_from (x ∷ xs) sorted (suc i) y at k =
      let e : k + 1 + i ≡ k + suc i = omega arith in
      rw (apart x xs sorted i y at) (place_from xs (rest x xs sorted) i y at (k + 1) ∙ ap (λ (n : ℕ). Some n) e)

  pub place_by_name : (ys : List Y) → IsStrictlySortedBy name_cmp (map name_of ys) → (i : ℕ) (y : Y)
      → slice_get ys i ≡ Some y → position (named y) ys ≡ Some i
  place_by_name ys sorted i y at = position_from-zero (named y) ys ∙ place_from ys sorted i y at 0
      ∙ ap (λ (n : ℕ). Some n) (omega arith)
