-- What a binary search finds among things whose names ascend. The things are seen as plain data, and a name is one of
-- these.
use Rattle.std.proofs.Common.{◌≡◌, ℕ, zero, suc, ◌+◌, ◌<◌, Bool, true, false, List, [], ◌∷◌, length, get_or, map, Some}
use Rattle.std.proofs.Common.{None, Result, Ok, Err, refl, sym, ap, subst, ◌∙◌, inl, inr, arith}
use Rattle.std.specs.Fn.{Called, ComputesKey, ReturnsEach}
use denote.Param.Members.{Mut}
use denote.Ref.{Bor}
use Rattle.std.specs.Prelude.{find, position, MatchResult, ◌≢◌}
use Rattle.std.specs.List.{AllByRecursion, position_from}
use Rattle.std.specs.List.Sorted.{IsStrictlySortedBy, IsSearchInRange, IsBinarySearchResult}
use Rattle.std.specs.Ordering.{is_lt, is_eq}
use Rattle.std.specs.declared.cmp.Ordering.{Ordering}
use Rattle.std.specs.declared.cmp.Ordering.TheVariants.{Less, Equal, Greater}
use Rattle.std.specs.Str.{bytes_eq}
use Rattle.std.proofs.lemmas.Bool.{cases_lt}
use Rattle.std.proofs.lemmas.Cmp.{nat_list_cmp_total, alike_right}
use Rattle.std.proofs.lemmas.Map.Text.{is_eq-slice_cmp}
use Rattle.std.proofs.lemmas.List.Sorted.{searchable_from_sorted}
use Rattle.std.proofs.lemmas.Iterator.Adapters.{position_from-zero}
use Rattle.per_base.specs.Names.{name_cmp}

-- names that differ by their order differ
pub differs : (a b : List ℕ) → name_cmp a b ≢ Equal → bytes_eq a b ≡ false
differs a b apart = sym (is_eq-slice_cmp a b) ∙ not_equal (name_cmp a b) apart
  where
    not_equal : (o : Ordering) → o ≢ Equal → is_eq o ≡ false
    not_equal Less h = refl
    not_equal Equal h = absurd (h refl)
    not_equal Greater h = refl

same : (a b : List ℕ) → name_cmp a b ≡ Equal → bytes_eq a b ≡ true
same a b e = sym (is_eq-slice_cmp a b) ∙ ap is_eq e

pub less_is_not_equal : (o : Ordering) → o ≡ Less → o ≢ Equal
less_is_not_equal o less equal = let e : Less ≡ Equal = sym less ∙ equal in cc

greater_is_not_equal : (o : Ordering) → o ≡ Greater → o ≢ Equal
greater_is_not_equal o greater equal = let e : Greater ≡ Equal = sym greater ∙ equal in cc

-- what is below is not above
not_back : (a b : List ℕ) → name_cmp a b ≡ Less → is_lt (name_cmp b a) ≡ false
not_back a b less = rw (nat_list_cmp_total.antisymm b a, less) refl

-- a comparison that keeps what it captured answers alike at each call
module _ {F X : Type 0} (g : Mut F (Bor X × Unit {0}) Ordering) (f : F) (order : X → Ordering)
    (each : (a : Bor X × Unit {0}) (r : Ordering) (f' : F) → Called g f a r f' → (r ≡ order a.0.now) × (f' ≡ f)) where
  answers_on : (xs : List (Bor X × Unit {0})) (q : F) → q ≡ f → ReturnsEach g (λ a r. r ≡ order a.0.now) q xs
  answers_on [] q is = tt
  answers_on (a ∷ xs) q is = λ r q' called.
      let P : F → Type 0 = λ p. Called g p a r q' in
      let now = each a r q' (subst P is called) in
      (now.0, answers_on xs q' now.1)

  pub answers_so : ComputesKey g order f
  answers_so = record { at = λ xs. answers_on xs f refl }

module _ {X Y : Type 0} (view : X → Y) (name_of : Y → List ℕ) (name : List ℕ) where
  abbrev key : X → List ℕ
  key x = name_of (view x)

  abbrev has_name : Y → Bool
  has_name y = bytes_eq (name_of y) name

  -- a name below each of the others is below the one at a place
  below : (a : List ℕ) (xs : List X) → AllByRecursion (λ y. name_cmp a y ≡ Less) (map name_of (map view xs)) → (i : ℕ)
      → i < length xs → (d : X) → name_cmp a (key (get_or xs i d)) ≡ Less
  below a [] all i lt d = absurd (omega arith)
  below a (x ∷ xs) all zero lt d = all.0
  below a (x ∷ xs) all (suc i) lt d = below a xs all.1 i (omega arith) d

  -- the first of the things has another name, where a later one has the name
  first_differs : (x : X) (xs : List X) → IsStrictlySortedBy name_cmp (map name_of (map view (x ∷ xs))) → (i : ℕ)
      → i < length xs → ((d : X) → name_cmp (key (get_or xs i d)) name ≡ Equal) → has_name (view x) ≡ false
  unfolding IsStrictlySortedBy
  first_differs x xs sorted i lt equal =
      let less = below (key x) xs sorted.0 i lt x in
      differs (key x) name (less_is_not_equal _ (sym (alike_right nat_list_cmp_total (key (get_or xs i x)) name (key x)
      (equal x)) ∙ less))

  rest_sorted : (x : X) (xs : List X) → IsStrictlySortedBy name_cmp (map name_of (map view (x ∷ xs)))
      → IsStrictlySortedBy name_cmp (map name_of (map view xs))
  unfolding IsStrictlySortedBy
  rest_sorted x xs sorted = sorted.1

  find_at : (xs : List X) → IsStrictlySortedBy name_cmp (map name_of (map view xs)) → (i : ℕ) → i < length xs
      → ((d : X) → name_cmp (key (get_or xs i d)) name ≡ Equal) → (x : X) → x ≡ get_or xs i x
      → find has_name (map view xs) ≡ Some (view x)
  find_at [] sorted i lt equal x is = absurd (omega arith)
  find_at (a ∷ xs) sorted zero lt equal x is = rw (same (key a) name (equal a)) (ap (λ (y : X). Some (view y)) (sym is))
  find_at (a ∷ xs) sorted (suc i) lt equal x is =
      let less : i < length xs = omega arith in
      rw (first_differs a xs sorted i less equal) (find_at xs (rest_sorted a xs sorted) i less equal x is)

  position_at : (xs : List X) → IsStrictlySortedBy name_cmp (map name_of (map view xs)) → (i : ℕ) → i < length xs
      → ((d : X) → name_cmp (key (get_or xs i d)) name ≡ Equal) → (k : ℕ)
      → position_from has_name k (map view xs) ≡ Some (k + i)
  position_at [] sorted i lt equal k = absurd (omega arith)
  position_at (a ∷ xs) sorted zero lt equal k = let e : k ≡ k + 0 =
      omega arith in rw (same (key a) name (equal a)) (ap (λ (n : ℕ). Some n) e)
  position_at (a ∷ xs) sorted (suc i) lt equal k =
      let less : i < length xs = omega arith in
      let e : k + 1 + i ≡ k + suc i = omega arith in
      rw (first_differs a xs sorted i less equal) (position_at xs (rest_sorted a xs sorted) i less equal (k + 1)
      ∙ ap (λ (n : ℕ). Some n) e)

  find_none : (xs : List X) → ((i : ℕ) (d : X) → i < length xs → name_cmp (key (get_or xs i d)) name ≢ Equal)
      → find has_name (map view xs) ≡ None
  find_none [] apart = refl
  find_none (a ∷ xs) apart = rw (differs (key a) name (apart 0 a (omega arith)))
      (find_none xs (λ i d lt. apart (suc i) d (omega arith)))

  position_none : (xs : List X) → ((i : ℕ) (d : X) → i < length xs → name_cmp (key (get_or xs i d)) name ≢ Equal)
      → (k : ℕ) → position_from has_name k (map view xs) ≡ None
  position_none [] apart k = refl
  position_none (a ∷ xs) apart k = rw (differs (key a) name (apart 0 a (omega arith)))
      (position_none xs (λ i d lt. apart (suc i) d (omega arith)) (k + 1))

  first_below : (a : X) (xs : List X) → IsStrictlySortedBy name_cmp (map name_of (map view (a ∷ xs))) → (d : X)
      → 0 < length xs → name_cmp (key a) (key (get_or xs 0 d)) ≡ Less
  unfolding IsStrictlySortedBy
  first_below a xs sorted d lt = below (key a) xs sorted.0 0 lt d

  -- names that ascend rise, as a binary search asks
  rises : (xs : List X) → IsStrictlySortedBy name_cmp (map name_of (map view xs)) → (k : ℕ) (d : X) → k + 1 < length xs
      → is_lt (name_cmp (key (get_or xs (k + 1) d)) (key (get_or xs k d))) ≡ false
  rises [] sorted k d lt = absurd (omega arith)
  rises (a ∷ xs) sorted zero d lt = not_back (key a) (key (get_or xs 0 d)) (first_below a xs sorted d (omega arith))
  rises (a ∷ xs) sorted (suc k) d lt =
      let rest = rises xs (rest_sorted a xs sorted) k d (omega arith) in
      let next : suc k + 1 ≡ suc (k + 1) = omega arith in
      rw next rest

  -- an element where the search ended at one, and none where it ended between two
  pub found : (xs : List X) → IsStrictlySortedBy name_cmp (map name_of (map view xs)) → (r : Result ℕ ℕ)
      → IsSearchInRange r (length xs) → IsBinarySearchResult (λ x. name_cmp (key x) name) xs r
      → MatchResult r (λ i. ((x : X) → x ≡ get_or xs i x → find has_name (map view xs) ≡ Some (view x))
      × (position has_name (map view xs) ≡ Some i)) (λ i. (find has_name (map view xs) ≡ None)
      × (position has_name (map view xs) ≡ None))
  found xs sorted (Ok i) within equal = (
    find_at xs sorted i within equal,
    position_from-zero has_name (map view xs) ∙ position_at xs sorted i within equal 0
        ∙ ap (λ (n : ℕ). Some n) (omega arith),
  )
  found xs sorted (Err i) within parted =
      let parts = parted (searchable_from_sorted nat_list_cmp_total key xs name (λ k d low lt. rises xs sorted k d lt))
      in
      let apart : (k : ℕ) (d : X) → k < length xs → name_cmp (key (get_or xs k d)) name ≢ Equal =
      λ k d lt. elim (cases_lt k i) [
        | inr from ↦ greater_is_not_equal _ (parts.1 k d from lt)
        | inl before ↦ less_is_not_equal _ (parts.0 k d (omega arith) (omega arith))
      ] in
      (find_none xs apart, position_from-zero has_name (map view xs) ∙ position_none xs apart 0)
