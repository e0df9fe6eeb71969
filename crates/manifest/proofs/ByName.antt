-- Things in the order of their names: what holds of each of them stays, no more of them come, and the names ascend.
use Rattle.std.proofs.Common.{◌≡◌, ℕ, suc, ◌+◌, ◌≤◌, true, List, [], ◌∷◌, length, map, refl, sym, ap, subst, ◌∙◌, arith}
use Rattle.std.specs.Prelude.{fold, sum_by}
use Rattle.std.specs.List.{AllByRecursion}
use Rattle.std.specs.List.Sorted.{IsStrictlySortedBy}
use Rattle.std.specs.Map.{keys_of, values_of}
use Rattle.std.specs.BTreeMap.{insert_entry}
use Rattle.std.specs.Ordering.{is_eq, match_ordering, ordering_reverse}
use Rattle.std.specs.declared.cmp.Ordering.{Ordering}
use Rattle.std.specs.declared.cmp.Ordering.TheVariants.{Less, Equal, Greater}
use Rattle.std.proofs.lemmas.Cmp.{nat_list_cmp_total}
use Rattle.std.proofs.lemmas.Map.Entries.{sum_by-insert_entry}
use Rattle.std.proofs.lemmas.List.Sums.{sum_by-cons}
use Rattle.std.proofs.lemmas.Map.Text.{is_eq-slice_cmp}
use Rattle.std.proofs.lemmas.Slice.Eq.{bytes_eq-Decides}
use Rattle.per_base.specs.Names.{name_cmp}
use Rattle.manifest.specs.Parts.{ListedThing, name_in}
use Rattle.manifest.specs.Parts.{NamedParts, with_named, named, by_name}

abbrev pub Entry : Type 0
Entry = List ℕ × ListedThing

-- ---- one more name

all_less : (a b : List ℕ) (names : List (List ℕ)) → name_cmp a b ≡ Less
    → AllByRecursion (λ n. name_cmp b n ≡ Less) names → AllByRecursion (λ n. name_cmp a n ≡ Less) names
all_less a b [] less all = tt
all_less a b (n ∷ names) less all = (nat_list_cmp_total.trans a b n less all.0, all_less a b names less all.1)

keys_below_at : (o : Ordering) (a k : List ℕ) (v : ListedThing) (e : Entry) (es more : NamedParts) → name_cmp a k ≡ Less
    → name_cmp a e.0 ≡ Less → AllByRecursion (λ n. name_cmp a n ≡ Less) (keys_of es)
    → AllByRecursion (λ n. name_cmp a n ≡ Less) (keys_of more)
    → AllByRecursion (λ n. name_cmp a n ≡ Less) (keys_of
    (match_ordering o ((k, v) ∷ e ∷ es) ((e.0, v) ∷ es) (e ∷ more)))
keys_below_at Less a k v e es more first second others rest = (first, (second, others))
keys_below_at Equal a k v e es more first second others rest = (second, others)
keys_below_at Greater a k v e es more first second others rest = (second, rest)

keys_below : (a k : List ℕ) (v : ListedThing) (es : NamedParts) → name_cmp a k ≡ Less
    → AllByRecursion (λ n. name_cmp a n ≡ Less) (keys_of es)
    → AllByRecursion (λ n. name_cmp a n ≡ Less) (keys_of (insert_entry name_cmp es k v))
keys_below a k v [] less all = (less, tt)
keys_below a k v (e ∷ es) less all = keys_below_at (name_cmp k e.0) a k v e es _ less all.0 all.1
    (keys_below a k v es less all.1)

sorted_at : (o : Ordering) (k : List ℕ) (v : ListedThing) (e : Entry) (es : NamedParts) → name_cmp k e.0 ≡ o
    → IsStrictlySortedBy name_cmp (keys_of (e ∷ es)) → IsStrictlySortedBy name_cmp
    (keys_of (insert_entry name_cmp es k v))
    → IsStrictlySortedBy name_cmp (keys_of (match_ordering o ((k, v) ∷ e ∷ es) ((e.0, v) ∷ es)
    (e ∷ insert_entry name_cmp es k v)))
unfolding IsStrictlySortedBy
sorted_at Less k v e es is sorted rest = ((is, all_less k e.0 (keys_of es) is sorted.0), sorted)
sorted_at Equal k v e es is sorted rest = sorted
sorted_at Greater k v e es is sorted rest =
    let below : name_cmp e.0 k ≡ Less = nat_list_cmp_total.antisymm e.0 k ∙ ap ordering_reverse is in
    (keys_below e.0 k v es below sorted.0, rest)

insert_sorted : (k : List ℕ) (v : ListedThing) (es : NamedParts) → IsStrictlySortedBy name_cmp (keys_of es)
    → IsStrictlySortedBy name_cmp (keys_of (insert_entry name_cmp es k v))
unfolding IsStrictlySortedBy
insert_sorted k v [] sorted = (tt, tt)
insert_sorted k v (e ∷ es) sorted = sorted_at (name_cmp k e.0) k v e es refl sorted (insert_sorted k v es sorted.1)

is_equal : (o : Ordering) → o ≡ Equal → is_eq o ≡ true
is_equal o is = ap is_eq is

pub equal_names : (a b : List ℕ) → name_cmp a b ≡ Equal → a ≡ b
equal_names a b is = (bytes_eq-Decides a b).0 (sym (is_eq-slice_cmp a b) ∙ is_equal (name_cmp a b) is)

module _ (P : Entry → Type 0) where
  insert_all_at : (o : Ordering) (k : List ℕ) (v : ListedThing) (e : Entry) (es more : NamedParts) → name_cmp k e.0 ≡ o
      → (e.0 ≡ k → P (e.0, v)) → P (k, v) → P e → AllByRecursion P es → AllByRecursion P more
      → AllByRecursion P (match_ordering o ((k, v) ∷ e ∷ es) ((e.0, v) ∷ es) (e ∷ more))
  insert_all_at Less k v e es more is same new old others rest = (new, (old, others))
  insert_all_at Equal k v e es more is same new old others rest = (same (sym (equal_names k e.0 is)), others)
  insert_all_at Greater k v e es more is same new old others rest = (old, rest)

  pub insert_all : (k : List ℕ) (v : ListedThing) (es : NamedParts) → P (k, v) → AllByRecursion P es
      → AllByRecursion P (insert_entry name_cmp es k v)
  insert_all k v [] new all = (new, tt)
  insert_all k v (e ∷ es) new all = insert_all_at (name_cmp k e.0) k v e es _ refl
      (λ same. let Q : List ℕ → Type 0 = λ n. P (n, v) in subst Q (sym same) new) new all.0 all.1
      (insert_all k v es new all.1)

insert_length_at : (o : Ordering) (k : List ℕ) (v : ListedThing) (e : Entry) (es more : NamedParts)
    → length more ≤ suc (length es) → length (match_ordering o ((k, v) ∷ e ∷ es) ((e.0, v) ∷ es) (e ∷ more))
    ≤ suc (suc (length es))
insert_length_at Less k v e es more h = omega arith
insert_length_at Equal k v e es more h = omega arith
insert_length_at Greater k v e es more h = omega arith

insert_length : (k : List ℕ) (v : ListedThing) (es : NamedParts) → length (insert_entry name_cmp es k v) ≤ suc (length es)
insert_length k v [] = omega arith
insert_length k v (e ∷ es) = insert_length_at (name_cmp k e.0) k v e es _ (insert_length k v es)

-- ---- all of them

-- each entry has its thing's name, and its thing has the property
abbrev Holds : (ListedThing → Type 0) → Entry → Type 0
Holds P e = (e.0 ≡ name_in e.1.1) × P e.1

all_from : (P : ListedThing → Type 0) (ls : List ListedThing) (m : NamedParts) → AllByRecursion P ls
    → AllByRecursion (Holds P) m → AllByRecursion (Holds P) (fold with_named m ls)
all_from P [] m all kept = kept
all_from P (l ∷ ls) m all kept = all_from P ls (with_named m l) all.1
    (insert_all (Holds P) (name_in l.1) l m (refl, all.0) kept)

sorted_from : (ls : List ListedThing) (m : NamedParts) → IsStrictlySortedBy name_cmp (keys_of m)
    → IsStrictlySortedBy name_cmp (keys_of (fold with_named m ls))
sorted_from [] m sorted = sorted
sorted_from (l ∷ ls) m sorted = sorted_from ls (with_named m l) (insert_sorted (name_in l.1) l m sorted)

length_from : (ls : List ListedThing) (m : NamedParts) → length (fold with_named m ls) ≤ length m + length ls
length_from [] m = omega arith
length_from (l ∷ ls) m = omega (arith, length_from ls (with_named m l), insert_length (name_in l.1) l m)

sum_from : (f : ListedThing → ℕ) (ls : List ListedThing) (m : NamedParts) → IsStrictlySortedBy name_cmp (keys_of m)
    → sum_by f (values_of (fold with_named m ls)) ≤ sum_by f (values_of m) + sum_by f ls
sum_from f [] m sorted = omega arith
sum_from f (l ∷ ls) m sorted =
    omega (
      arith,
      sum_from f ls (with_named m l) (insert_sorted (name_in l.1) l m sorted),
      sum_by-insert_entry f nat_list_cmp_total m (name_in l.1) l sorted,
      sum_by-cons f l ls,
    )

nothing_sorted : IsStrictlySortedBy name_cmp (keys_of {K = List ℕ} {X = ListedThing} [])
unfolding IsStrictlySortedBy
nothing_sorted = tt

values_all : (P : ListedThing → Type 0) (m : NamedParts) → AllByRecursion (Holds P) m → AllByRecursion P (values_of m)
values_all P [] all = tt
values_all P (e ∷ m) all = (all.0.1, values_all P m all.1)

names_are_keys : (P : ListedThing → Type 0) (m : NamedParts) → AllByRecursion (Holds P) m
    → keys_of m ≡ map (λ (l : ListedThing). name_in l.1) (values_of m)
names_are_keys P [] all = refl
names_are_keys P (e ∷ m) all = rw all.0.0 (ap (λ ns. name_in e.1.1 ∷ ns) (names_are_keys P m all.1))

length-values : (m : NamedParts) → length (values_of m) ≡ length m
length-values [] = refl
length-values (e ∷ m) = ap suc (length-values m)

pub keys_sorted : (ls : List ListedThing) → IsStrictlySortedBy name_cmp (keys_of (named ls))
unfolding named
keys_sorted ls = sorted_from ls [] nothing_sorted

pub all_by_name : (P : ListedThing → Type 0) (ls : List ListedThing) → AllByRecursion P ls → AllByRecursion P (by_name ls)
unfolding named
all_by_name P ls all = values_all P (named ls) (all_from P ls [] all tt)

anything : (ls : List ListedThing) → AllByRecursion (λ (l : ListedThing). Unit {0}) ls
anything [] = tt
anything (l ∷ ls) = (tt, anything ls)

pub sorted_by_name : (ls : List ListedThing)
    → IsStrictlySortedBy name_cmp (map (λ (l : ListedThing). name_in l.1) (by_name ls))
unfolding named
sorted_by_name ls =
    let P : ListedThing → Type 0 = λ l. Unit {0} in
    subst (IsStrictlySortedBy name_cmp) (names_are_keys P (named ls) (all_from P ls [] (anything ls) tt))
    (sorted_from ls [] nothing_sorted)

pub length_by_name : (ls : List ListedThing) → length (by_name ls) ≤ length ls
unfolding named
length_by_name ls = omega (arith, length_from ls [], length-values (named ls))

pub sum_by_name : (f : ListedThing → ℕ) (ls : List ListedThing) → sum_by f (by_name ls) ≤ sum_by f ls
unfolding named
sum_by_name f ls = omega (arith, sum_from f ls [] nothing_sorted)
