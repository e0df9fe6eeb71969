-- The lowest free number: each number from 1 on below it has a handle, and it has none.
use Rattle.std.proofs.Common.{◌≡◌, ◌==◌, ℕ, ◌<◌, ◌≤◌, ◌+◌, [], ◌∷◌, Bool, true, false, cond, refl, sym, ap, ◌∙◌, subst}
use Rattle.std.proofs.Common.{arith, ⊎_elim}
use Rattle.std.specs.Prelude.{Some, None, IsSome, length, nat_lt, option_map, slice_get}
use Rattle.std.specs.declared.cmp.Ordering.TheVariants.{Less, Equal, Greater}
use Rattle.std.specs.Cmp.{nat_cmp_is}
use Rattle.std.specs.Map.{keys_of}
use Rattle.std.specs.List.Sorted.{IsStrictlySortedBy}
use Rattle.std.specs.Ordering.{nat_cmp, is_eq}
use Rattle.std.proofs.lemmas.Cmp.{nat_cmp_total, eq_by_cmp_equiv}
use Rattle.std.proofs.lemmas.Map.Keys.{sorted_tail, sorted_head}
use Rattle.std.proofs.lemmas.Bool.{cases_lt, cases_eq, ne_eqb, eq-eqb}
use Rattle.file_handles.specs.declared.handle.Handle.{Handle}
use Rattle.file_handles.specs.Sessions.{Handles, handle_at, lowest_free_from, free_number, lowest}
use Rattle.file_handles.specs.Tables.{Numbered}

misses : (l b : Bool) → b ≡ false → is_eq (cond l Less (cond b Equal Greater)) ≡ false
misses true b p = refl
misses false false p = refl
misses false true p = absurd (cc)

-- a number that is not the first one's is looked for among the others
passed : (n : ℕ) (e : ℕ × Handle) (es : Handles) → (n ≡ e.0 → ⊥) → handle_at (e ∷ es) n ≡ handle_at es n
passed n e es other = ap (λ b. cond b (Some e.1) (handle_at es n))
    (misses (nat_lt n e.0) (n == e.0) (ne_eqb n e.0 other))

found : (e : ℕ × Handle) (es : Handles) → handle_at (e ∷ es) e.0 ≡ Some e.1
found e es = ap (λ b. cond b (Some e.1) (handle_at es e.0)) ((eq_by_cmp_equiv nat_cmp_total).refl e.0)

below : (a b : ℕ) → nat_cmp a b ≡ Less → a < b
below a b less = ⊎_elim
    (λ lt. lt)
    (λ ge. ⊎_elim
    (λ same. let r : Equal ≡ nat_cmp a b = nat_cmp_is a b Equal same in absurd (cc))
    (λ differ. let r : Greater ≡ nat_cmp a b = nat_cmp_is a b Greater (omega (arith, ge, differ)) in absurd (cc))
    (cases_eq a b))
    (cases_lt a b)

-- what is in order after a number has no handle of a lower one, nor of itself
gone_below : (n k : ℕ) (es : Handles) → IsStrictlySortedBy nat_cmp (k ∷ keys_of es) → n ≤ k → handle_at es n ≡ None
gone_below n k [] sorted le = refl
gone_below n k (e ∷ es) sorted le =
    let first : k < e.0 = below k e.0 (sorted_head nat_cmp k (keys_of (e ∷ es)) sorted).0 in
    passed n e es (λ same. let lt : n < e.0 = omega (arith, le, first) in absurd (omega (arith, lt, same)))
    ∙ gone_below n e.0 es (sorted_tail nat_cmp k (keys_of (e ∷ es)) sorted) (omega (arith, le, first))

-- the lowest number from here on
pub record IsLowest (from : ℕ) (es : Handles) : Type 0 where
  pub above : from ≤ lowest_free_from from es
  pub taken : (n : ℕ) → from ≤ n → n < lowest_free_from from es → IsSome (handle_at es n)
  pub free : handle_at es (lowest_free_from from es) ≡ None

abbrev From : ℕ → Handles → Type 0
From from es = (n : ℕ) (handle : Handle) → handle_at es n ≡ Some handle → from ≤ n

-- after a first handle of this number the search goes on
goes_on : (e : ℕ × Handle) (es : Handles) → IsLowest (e.0 + 1) es → IsStrictlySortedBy nat_cmp (keys_of (e ∷ es))
    → (free : ℕ) → free ≡ lowest_free_from (e.0 + 1) es
    → (e.0 ≤ free) × ((n : ℕ) → e.0 ≤ n → n < free → IsSome (handle_at (e ∷ es) n)) × (handle_at (e ∷ es) free ≡ None)
goes_on e es rest sorted free is = (
  omega (arith, is, rest.above),
  λ n from lt. ⊎_elim
      (λ same. subst (λ m. IsSome (handle_at (e ∷ es) m)) (sym same) (subst (λ o. IsSome o) (sym (found e es)) refl))
      (λ differ. subst (λ o. IsSome o) (sym (passed n e es differ))
      (rest.taken n (omega (arith, from, differ)) (omega (arith, lt, is))))
      (cases_eq n e.0),
  passed free e es (λ same. absurd (omega (arith, is, rest.above, same))) ∙ ap (handle_at es) is ∙ rest.free,
)

-- the tail of entries in order holds only greater numbers
behind : (e : ℕ × Handle) (es : Handles) → IsStrictlySortedBy nat_cmp (keys_of (e ∷ es)) → From (e.0 + 1) es
behind e es sorted n handle at = ⊎_elim
    (λ lt. absurd (let none : handle_at es n ≡ None = gone_below n e.0 es sorted (omega (arith, lt)) in cc))
    (λ ge. ge)
    (cases_lt n (e.0 + 1))

hits : (from : ℕ) (e : ℕ × Handle) (es : Handles) → IsStrictlySortedBy nat_cmp (keys_of (e ∷ es))
    → IsLowest (e.0 + 1) es → from ≡ e.0 → IsLowest from (e ∷ es)
hits from e es sorted rest same =
    let is : lowest_free_from from (e ∷ es) ≡ lowest_free_from (e.0 + 1) es =
    ap (λ b. cond b (lowest_free_from (from + 1) es) from) (eq-eqb from e.0 same)
    ∙ ap (λ m. lowest_free_from (m + 1) es) same in
    let on = goes_on e es rest sorted (lowest_free_from from (e ∷ es)) is in
    record {
      above = omega (arith, on.0, same);
      taken = λ n le lt. on.1 n (omega (arith, le, same)) lt;
      free = on.2;
    }

stops : (from : ℕ) (e : ℕ × Handle) (es : Handles) → IsStrictlySortedBy nat_cmp (keys_of (e ∷ es)) → from ≤ e.0
    → (from ≡ e.0 → ⊥) → IsLowest from (e ∷ es)
stops from e es sorted least differ =
    let is : lowest_free_from from (e ∷ es) ≡ from = ap (λ b. cond b (lowest_free_from (from + 1) es) from)
    (ne_eqb from e.0 differ)
    in
    record {
      above = omega (arith, is);
      taken = λ n le lt. absurd (omega (arith, is, le, lt));
      free = ap (handle_at (e ∷ es)) is ∙ passed from e es differ ∙ gone_below from e.0 es sorted least;
    }

lowest_from : (from : ℕ) (es : Handles) → IsStrictlySortedBy nat_cmp (keys_of es) → From from es → IsLowest from es
lowest_from from [] sorted all = record {
  above = omega arith;
  taken = λ n le lt. absurd (omega (arith, le, lt));
  free =
      refl;
}
lowest_from from (e ∷ es) sorted all = ⊎_elim
    (hits from e es sorted (lowest_from (e.0 + 1) es (sorted_tail nat_cmp e.0 (keys_of es) sorted)
    (behind e es sorted)))
    (stops from e es sorted (all e.0 e.1 (found e es)))
    (cases_eq from e.0)

pub one_or_more : (handles : Handles) → IsStrictlySortedBy nat_cmp (keys_of handles) → Numbered handles
    → 1 ≤ free_number handles
one_or_more handles sorted all = (lowest_from 1 handles sorted (λ n h at. (all n h at).0)).above

pub lower_are_taken : (handles : Handles) → IsStrictlySortedBy nat_cmp (keys_of handles) → Numbered handles
    → (n : ℕ) → 1 ≤ n → n < free_number handles → IsSome (handle_at handles n)
lower_are_taken handles sorted all n = (lowest_from 1 handles sorted (λ n h at. (all n h at).0)).taken n

pub lowest_is_free : (handles : Handles) → IsStrictlySortedBy nat_cmp (keys_of handles) → Numbered handles
    → handle_at handles (free_number handles) ≡ None
lowest_is_free handles sorted all = (lowest_from 1 handles sorted (λ n h at. (all n h at).0)).free

-- and it is at most one more than there are handles
pub free_from_few : (from : ℕ) (es : Handles) → lowest_free_from from es ≤ from + length es
free_from_few from [] = omega arith
free_from_few from (e ∷ es) = by (from == e.0) (free_from_few (from + 1) es)
  where
    by : (b : Bool) → lowest_free_from (from + 1) es ≤ from + 1 + length es
        → cond b (lowest_free_from (from + 1) es) from ≤ from + length (e ∷ es)
    by true few = omega (arith, few)
    by false few = omega arith

-- the first handle is the lowest
pub lowest_first : (handles : Handles) (e : ℕ × Handle) → slice_get handles 0 ≡ Some e → lowest handles ≡ Some e.0
lowest_first [] e is = absurd (cc)
lowest_first (f ∷ fs) e is = ap (option_map (λ x. x.0)) is

pub lowest_none : (handles : Handles) → length handles ≡ 0 → lowest handles ≡ None
lowest_none [] none = refl
lowest_none (e ∷ es) none = absurd (cc)
