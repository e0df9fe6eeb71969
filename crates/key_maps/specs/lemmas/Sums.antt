-- Sums over a map when an entry is put or removed.
use Rattle.std.proofs.Common.{◌≡◌, ℕ, ◌+◌, List, [], ◌∷◌, length, cond, refl, ap, arith}
use Rattle.std.specs.Prelude.{Option, Some, None, sum_by}
use Rattle.std.specs.declared.cmp.Ordering.{Ordering}
use Rattle.std.specs.declared.cmp.Ordering.TheVariants.{Less, Equal, Greater}
use Rattle.std.specs.BTreeMap.{insert_entry, is_at}
use Rattle.std.specs.Cmp.{IsTotalOrder}
use Rattle.std.specs.List.Sorted.{IsStrictlySortedBy}
use Rattle.std.specs.Map.{lookup, remove_entry, keys_of}
use Rattle.std.specs.Ordering.{is_eq, match_ordering}
use Rattle.std.proofs.lemmas.List.Sums.{sum_by-cons}
use Rattle.std.proofs.lemmas.Map.Keys.{sorted_head, sorted_tail}
use Rattle.std.proofs.lemmas.Map.Lookups.{CmpEqualImpliesEq}
use Rattle.key_maps.specs.lemmas.Ordered.{above_less, lookup_above}

-- what there is at a key weighs
abbrev pub weight_at : {K A : Type 0} → (K × A → ℕ) → K → Option A → ℕ
weight_at w k None = 0
weight_at w k (Some a) = w (k, a)

pub sum_insert : {K A : Type 0} {R : K → K → Ordering} → IsTotalOrder R → CmpEqualImpliesEq R
    → (w : K × A → ℕ) (k : K) (v : A) (es : List (K × A)) → IsStrictlySortedBy R (keys_of es)
    → sum_by w (insert_entry R es k v) + weight_at w k (lookup (is_at (R k)) es) ≡ sum_by w es + w (k, v)
sum_insert o exact w k v [] sorted = omega (arith, sum_by-cons w (k, v) [])
sum_insert {K = K} {A = A} {R = R} o exact w k v (e ∷ es) sorted =
    by (R k e.0) refl (sum_insert o exact w k v es (sorted_tail R e.0 (keys_of es) sorted))
  where
    by : (r : Ordering) → R k e.0 ≡ r → sum_by w (insert_entry R es k v) + weight_at w k (lookup (is_at (R k)) es)
        ≡ sum_by w es + w (k, v)
        → sum_by w (match_ordering r ((k, v) ∷ e ∷ es) ((e.0, v) ∷ es) (e ∷ insert_entry R es k v))
        + weight_at w k (cond (is_eq r) (Some e.1) (lookup (is_at (R k)) es)) ≡ sum_by w (e ∷ es) + w (k, v)
    by Less p later =
        let none : lookup (is_at (R k)) es ≡ None = lookup_above R k es
        (above_less o k e.0 (keys_of es) p (sorted_head R e.0 (keys_of es) sorted)) in
        rw none (omega (arith, sum_by-cons w (k, v) (e ∷ es)))
    by Equal p later =
        let here : w (k, e.1) ≡ w e = ap (λ (x : K). w (x, e.1)) (exact k e.0 p) in
        let there : w (k, v) ≡ w (e.0, v) = ap (λ (x : K). w (x, v)) (exact k e.0 p) in
        omega (arith, sum_by-cons w (e.0, v) es, sum_by-cons w e es, here, there)
    by Greater p later = omega (arith, sum_by-cons w e (insert_entry R es k v), sum_by-cons w e es, later)

pub sum_remove : {K A : Type 0} {R : K → K → Ordering} → CmpEqualImpliesEq R
    → (w : K × A → ℕ) (k : K) (es : List (K × A)) → sum_by w (remove_entry (is_at (R k)) es)
    + weight_at w k (lookup (is_at (R k)) es) ≡ sum_by w es
sum_remove exact w k [] = refl
sum_remove {K = K} {A = A} {R = R} exact w k (e ∷ es) = by (R k e.0) refl (sum_remove exact w k es)
  where
    by : (r : Ordering) → R k e.0 ≡ r → sum_by w (remove_entry (is_at (R k)) es)
        + weight_at w k (lookup (is_at (R k)) es) ≡ sum_by w es
        → sum_by w (cond (is_eq r) es (e ∷ remove_entry (is_at (R k)) es))
        + weight_at w k (cond (is_eq r) (Some e.1) (lookup (is_at (R k)) es)) ≡ sum_by w (e ∷ es)
    by Less p later = omega (arith, sum_by-cons w e (remove_entry (is_at (R k)) es), sum_by-cons w e es, later)
    by Equal p later =
        let here : w (k, e.1) ≡ w e = ap (λ (x : K). w (x, e.1)) (exact k e.0 p) in
        omega (arith, sum_by-cons w e es, here)
    by Greater p later = omega (arith, sum_by-cons w e (remove_entry (is_at (R k)) es), sum_by-cons w e es, later)

pub length_sum : {X : Type 0} (xs : List X) → length xs ≡ sum_by (λ _. 1) xs
length_sum [] = refl
length_sum {X = X} (x ∷ xs) = omega (arith, sum_by-cons (λ (y : X). 1) x xs, length_sum xs)
