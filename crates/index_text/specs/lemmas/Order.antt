-- Names that ascend, and numbers that differ.
use Rattle.std.proofs.Common.{◌≡◌, ℕ, suc, ◌+◌, ◌<◌, ◌≤◌, true, false, List, [], ◌∷◌, length, get_or, drop, refl, sym}
use Rattle.std.proofs.Common.{ap, ◌∙◌, arith}
use Rattle.std.specs.Prelude.{◌&&◌, nat_eq}
use Rattle.std.specs.List.{AllByRecursion, IsDistinct}
use Rattle.std.specs.List.Sorted.{IsStrictlySortedBy}
use Rattle.std.specs.Ordering.{is_lt, nat_cmp, eq_by_cmp}
use Rattle.std.specs.declared.cmp.Ordering.{Ordering}
use Rattle.std.specs.declared.cmp.Ordering.TheVariants.{Less, Equal, Greater}
use Rattle.std.specs.Set.{distinct_count, is_member}
use Rattle.std.specs.BTreeSet.{BTreeSet, IsFromIterResult, btree_set_len}
use Rattle.std.specs.Cmp.{nat_eq_equiv}
use Rattle.std.proofs.lemmas.Bool.Decides.{nat_tests}
use Rattle.std.proofs.lemmas.Bool.{and_parts, and_from, eqb-true, eq-eqb}
use Rattle.std.proofs.lemmas.Cmp.{nat_list_cmp_total, nat_cmp_total}
use Rattle.std.proofs.lemmas.Map.Made.{IsDistinct-from_count, distinct_count-from_IsDistinct}
use Rattle.std.proofs.lemmas.Map.Views.{btree_set_len-from_list}
use Rattle.std.proofs.Math.Seq.{drop-cons}
use Rattle.per_base.specs.Names.{name_cmp}
use Rattle.index_text.specs.declared.entries.IndexEntry.{IndexEntry}
use Rattle.index_text.specs.Rules.{names_of}
use Rattle.index_text.specs.Reading.{are_distinct, ascends}

-- ---- names

pub ascends_short : (es : List IndexEntry) → length es ≤ 1 → ascends (names_of es) ≡ true
ascends_short [] h = refl
ascends_short (a ∷ []) h = refl
ascends_short (a ∷ b ∷ es) h = absurd (omega arith)

-- of what is left, the first two names are compared, and then the rest decides
pub ascends_next : (es : List IndexEntry) (i j : ℕ) (a b : IndexEntry) → i ≡ j + 1 → i < length es → a ≡ get_or es j a
    → b ≡ get_or es i b
    → ascends (names_of (drop j es)) ≡ (is_lt (name_cmp a.name b.name) && ascends (names_of (drop i es)))
ascends_next es i j a b next lt a_is b_is =
    let next_is : suc j ≡ i = omega arith in
    let less : j < length es = omega arith in
    let first : drop j es ≡ a ∷ drop i es = drop-cons es j a less
    ∙ ap (λ (x : IndexEntry). x ∷ drop (suc j) es) (sym a_is) ∙ ap (λ (n : ℕ). a ∷ drop n es) next_is in
    let second : drop i es ≡ b ∷ drop (suc i) es = drop-cons es i b lt
    ∙ ap (λ (x : IndexEntry). x ∷ drop (suc i) es) (sym b_is) in
    ap (λ (xs : List IndexEntry). ascends (names_of xs)) (first ∙ ap (λ (xs : List IndexEntry). a ∷ xs) second)
    ∙ ap (λ (xs : List IndexEntry). is_lt (name_cmp a.name b.name) && ascends (names_of xs)) (sym second)

less_is : (o : Ordering) → is_lt o ≡ true → o ≡ Less
less_is Less h = refl
less_is Equal h = absurd cc
less_is Greater h = absurd cc

-- a name below the first of names in order is below each
below_all : (a b : List ℕ) (names : List (List ℕ)) → name_cmp a b ≡ Less
    → AllByRecursion (λ n. name_cmp b n ≡ Less) names → AllByRecursion (λ n. name_cmp a n ≡ Less) names
below_all a b [] less all = tt
below_all a b (c ∷ names) less all = (nat_list_cmp_total.trans a b c less all.0, below_all a b names less all.1)

pub sorted_from_ascends : (names : List (List ℕ)) → ascends names ≡ true → IsStrictlySortedBy name_cmp names
unfolding IsStrictlySortedBy
sorted_from_ascends [] h = tt
sorted_from_ascends (a ∷ []) h = (tt, tt)
sorted_from_ascends (a ∷ b ∷ names) h =
    let parts = and_parts _ _ h in
    let less = less_is (name_cmp a b) parts.0 in
    let rest = sorted_from_ascends (b ∷ names) parts.1 in
    ((less, below_all a b names less rest.0), rest)

pub ascends_from_sorted : (names : List (List ℕ)) → IsStrictlySortedBy name_cmp names → ascends names ≡ true
unfolding IsStrictlySortedBy
ascends_from_sorted [] h = refl
ascends_from_sorted (a ∷ []) h = refl
ascends_from_sorted (a ∷ b ∷ names) h = and_from _ _ (ap is_lt h.0.0) (ascends_from_sorted (b ∷ names) h.1)

-- ---- numbers

same_test : (x y : ℕ) → eq_by_cmp nat_cmp x y ≡ nat_eq x y
same_test x y = grind (arith, nat_tests)

same_member : (xs : List ℕ) (q : ℕ) → is_member (eq_by_cmp nat_cmp) xs q ≡ is_member nat_eq xs q
same_member [] q = refl
same_member (x ∷ xs) q = rw (same_test q x, same_member xs q) refl

same_count : (xs : List ℕ) → distinct_count (eq_by_cmp nat_cmp) xs ≡ distinct_count nat_eq xs
same_count [] = refl
same_count (x ∷ xs) = elim (is_member nat_eq xs x) as (λ b. is_member nat_eq xs x ≡ b
    → distinct_count (eq_by_cmp nat_cmp) (x ∷ xs) ≡ distinct_count nat_eq (x ∷ xs)) [
      | true ↦ λ e. rw (same_member xs x, e) (same_count xs)
      | false ↦ λ e. rw (same_member xs x, e) (ap suc (same_count xs))
    ] refl

-- as many numbers in the set as in the list exactly where they differ
pub set_size : (xs : List ℕ) (s : BTreeSet ℕ) → IsFromIterResult nat_cmp xs s
    → btree_set_len s ≡ distinct_count nat_eq xs
set_size xs s made = btree_set_len-from_list nat_cmp_total xs s made ∙ same_count xs

pub apart_from_test : (xs : List ℕ) → are_distinct xs ≡ true → IsDistinct nat_eq xs
apart_from_test xs h = IsDistinct-from_count nat_eq_equiv xs (eqb-true _ _ h)

pub test_from_apart : (xs : List ℕ) → IsDistinct nat_eq xs → are_distinct xs ≡ true
test_from_apart xs h = eq-eqb _ _ (distinct_count-from_IsDistinct nat_eq_equiv xs h)
