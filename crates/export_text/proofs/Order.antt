-- Names that ascend.
use Rattle.std.proofs.Common.{◌≡◌, ℕ, suc, ◌+◌, ◌<◌, ◌≤◌, true, List, [], ◌∷◌, length, get_or, drop, refl, sym, ap, ◌∙◌}
use Rattle.std.proofs.Common.{arith}
use Rattle.std.specs.Prelude.{◌&&◌}
use Rattle.std.specs.List.{AllByRecursion}
use Rattle.std.specs.List.Sorted.{IsStrictlySortedBy}
use Rattle.std.specs.Ordering.{is_lt}
use Rattle.std.specs.declared.cmp.Ordering.{Ordering}
use Rattle.std.specs.declared.cmp.Ordering.TheVariants.{Less, Equal, Greater}
use Rattle.std.proofs.lemmas.Bool.{and_parts, and_from}
use Rattle.std.proofs.lemmas.Cmp.{nat_list_cmp_total}
use Rattle.std.proofs.Math.Seq.{drop-cons}
use Rattle.per_base.specs.Names.{name_cmp}
use Rattle.per_base.specs.declared.elements.Fresh.{Fresh}
use Rattle.export_text.specs.Exports.{names_of}
use Rattle.index_text.specs.Reading.{ascends}

-- ---- names

pub ascends_short : (es : List Fresh) → length es ≤ 1 → ascends (names_of es) ≡ true
ascends_short [] h = refl
ascends_short (a ∷ []) h = refl
ascends_short (a ∷ b ∷ es) h = absurd (omega arith)

-- of what is left, the first two names are compared, and then the rest decides
pub ascends_next : (es : List Fresh) (i j : ℕ) (a b : Fresh) → i ≡ j + 1 → i < length es → a ≡ get_or es j a
    → b ≡ get_or es i b
    → ascends (names_of (drop j es)) ≡ (is_lt (name_cmp a.name b.name) && ascends (names_of (drop i es)))
ascends_next es i j a b next lt a_is b_is =
    let next_is : suc j ≡ i = omega arith in
    let less : j < length es = omega arith in
    let first : drop j es ≡ a ∷ drop i es = drop-cons es j a less ∙ ap (λ (x : Fresh). x ∷ drop (suc j) es) (sym a_is)
    ∙ ap (λ (n : ℕ). a ∷ drop n es) next_is in
    let second : drop i es ≡ b ∷ drop (suc i) es = drop-cons es i b lt
    ∙ ap (λ (x : Fresh). x ∷ drop (suc i) es) (sym b_is) in
    ap (λ (xs : List Fresh). ascends (names_of xs)) (first ∙ ap (λ (xs : List Fresh). a ∷ xs) second)
    ∙ ap (λ (xs : List Fresh). is_lt (name_cmp a.name b.name) && ascends (names_of xs)) (sym second)

less_is : (o : Ordering) → is_lt o ≡ true → o ≡ Less
less_is Less h = refl
less_is Equal h = absurd cc
less_is Greater h = absurd cc

-- a name below the first of names in order is below each
below_all : (a b : List ℕ) (names : List (List ℕ)) → name_cmp a b ≡ Less
    → AllByRecursion (λ n. name_cmp b n ≡ Less) names → AllByRecursion (λ n. name_cmp a n ≡ Less) names
below_all a b [] less all = tt
below_all a b (c ∷ names) less all = (nat_list_cmp_total.trans a b c less all.0, below_all a b names less all.1)

pub sorted_from_ascends : (names : List (List ℕ)) → ascends names ≡ true → IsStrictlySortedBy name_cmp names
unfolding IsStrictlySortedBy
sorted_from_ascends [] h = tt
sorted_from_ascends (a ∷ []) h = (tt, tt)
sorted_from_ascends (a ∷ b ∷ names) h =
    let parts = and_parts _ _ h in
    let less = less_is (name_cmp a b) parts.0 in
    let rest = sorted_from_ascends (b ∷ names) parts.1 in
    ((less, below_all a b names less rest.0), rest)

pub ascends_from_sorted : (names : List (List ℕ)) → IsStrictlySortedBy name_cmp names → ascends names ≡ true
unfolding IsStrictlySortedBy
ascends_from_sorted [] h = refl
ascends_from_sorted (a ∷ []) h = refl
ascends_from_sorted (a ∷ b ∷ names) h = and_from _ _ (ap is_lt h.0.0) (ascends_from_sorted (b ∷ names) h.1)
