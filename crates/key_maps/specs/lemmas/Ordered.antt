-- Lists of pairs in the order of their keys: what an entry that is put or removed leaves, and when two lists are the
-- same.
use Rattle.std.proofs.Common.{◌≡◌, List, [], ◌∷◌, ◌++◌, Bool, true, false, cond, refl, sym, ◌∙◌, ap}
use Rattle.std.specs.Prelude.{Some, None, Result, Ok, Err, IfOk, OnOk}
use Rattle.std.specs.declared.cmp.Ordering.{Ordering}
use Rattle.std.specs.declared.cmp.Ordering.TheVariants.{Less, Equal, Greater}
use Rattle.std.specs.BTreeMap.{insert_entry, is_at}
use Rattle.std.specs.Cmp.{IsTotalOrder}
use Rattle.std.specs.List.{AllByRecursion}
use Rattle.std.specs.List.Sorted.{IsStrictlySortedBy}
use Rattle.std.specs.Map.{lookup, remove_entry, set_value, keys_of}
use Rattle.std.specs.Ordering.{is_eq, match_ordering, ordering_reverse}
use Rattle.std.proofs.lemmas.Cmp.{tied_itself}
use Rattle.std.proofs.lemmas.Map.Keys.{sorted_head, sorted_tail}
use Rattle.std.proofs.lemmas.Map.Lookups.{CmpEqualImpliesEq}

-- the key is below each of these
abbrev pub Above : {K : Type 0} → (K → K → Ordering) → K → List K → Type 0
Above R k ks = AllByRecursion (λ y. R k y ≡ Less) ks

pub above_less : {K : Type 0} {R : K → K → Ordering} → IsTotalOrder R → (k j : K) (ks : List K) → R k j ≡ Less
    → Above R j ks → Above R k ks
above_less o k j [] less above = tt
above_less o k j (y ∷ ys) less above = (o.trans k j y less above.0, above_less o k j ys less above.1)

pub above_tied : {K : Type 0} {R : K → K → Ordering} → IsTotalOrder R → (k j : K) (ks : List K) → R k j ≡ Equal
    → Above R j ks → Above R k ks
above_tied o k j [] tied above = tt
above_tied o k j (y ∷ ys) tied above = (o.congr k j y tied ∙ above.0, above_tied o k j ys tied above.1)

pub sorted_cons : {K : Type 0} (R : K → K → Ordering) (k : K) (ks : List K) → Above R k ks → IsStrictlySortedBy R ks
    → IsStrictlySortedBy R (k ∷ ks)
unfolding IsStrictlySortedBy
sorted_cons R k ks above sorted = (above, sorted)

pub sorted_none : {K : Type 0} (R : K → K → Ordering) → IsStrictlySortedBy R []
unfolding IsStrictlySortedBy
sorted_none R = tt

-- ---- a key below all others

pub lookup_above : {K A : Type 0} (R : K → K → Ordering) (k : K) (es : List (K × A)) → Above R k (keys_of es)
    → lookup (is_at (R k)) es ≡ None
lookup_above R k [] above = refl
lookup_above R k (e ∷ es) above = rw above.0 (lookup_above R k es above.1)

pub insert_front : {K A : Type 0} (R : K → K → Ordering) (k : K) (v : A) (es : List (K × A)) → Above R k (keys_of es)
    → insert_entry R es k v ≡ (k, v) ∷ es
insert_front R k v [] above = refl
insert_front R k v (e ∷ es) above = rw above.0 refl

pub remove_above : {K A : Type 0} (R : K → K → Ordering) (k : K) (es : List (K × A)) → Above R k (keys_of es)
    → remove_entry (is_at (R k)) es ≡ es
remove_above R k [] above = refl
remove_above R k (e ∷ es) above = rw above.0 (ap (λ l. e ∷ l) (remove_above R k es above.1))

-- ---- order is kept

above_insert : {K A : Type 0} (R : K → K → Ordering) (j k : K) (v : A) (es : List (K × A)) → R j k ≡ Less
    → Above R j (keys_of es) → Above R j (keys_of (insert_entry R es k v))
above_insert R j k v [] less above = (less, tt)
above_insert {K = K} {A = A} R j k v (e ∷ es) less above = by (R k e.0) (above_insert R j k v es less above.1)
  where
    by : (r : Ordering) → Above R j (keys_of (insert_entry R es k v))
        → Above R j (keys_of (match_ordering r ((k, v) ∷ e ∷ es) ((e.0, v) ∷ es) (e ∷ insert_entry R es k v)))
    by Less later = (less, (above.0, above.1))
    by Equal later = (above.0, above.1)
    by Greater later = (above.0, later)

pub sorted_insert : {K A : Type 0} {R : K → K → Ordering} → IsTotalOrder R → (k : K) (v : A) (es : List (K × A))
    → IsStrictlySortedBy R (keys_of es) → IsStrictlySortedBy R (keys_of (insert_entry R es k v))
sorted_insert {R = R} o k v [] sorted = sorted_cons R k [] tt sorted
sorted_insert {K = K} {A = A} {R = R} o k v (e ∷ es) sorted =
    by (R k e.0) refl (sorted_head R e.0 (keys_of es) sorted) (sorted_tail R e.0 (keys_of es) sorted)
    (sorted_insert o k v es (sorted_tail R e.0 (keys_of es) sorted))
  where
    by : (r : Ordering) → R k e.0 ≡ r → Above R e.0 (keys_of es) → IsStrictlySortedBy R (keys_of es)
        → IsStrictlySortedBy R (keys_of (insert_entry R es k v))
        → IsStrictlySortedBy R (keys_of (match_ordering r ((k, v) ∷ e ∷ es) ((e.0, v) ∷ es)
        (e ∷ insert_entry R es k v)))
    by Less p above tail later = sorted_cons R k (e.0 ∷ keys_of es) (p, above_less o k e.0 (keys_of es) p above) sorted
    by Equal p above tail later = sorted
    by Greater p above tail later = sorted_cons R e.0 (keys_of (insert_entry R es k v))
        (above_insert R e.0 k v es (o.antisymm e.0 k ∙ ap ordering_reverse p) above) later

above_remove : {K A : Type 0} (R : K → K → Ordering) (j : K) (test : K → Bool) (es : List (K × A))
    → Above R j (keys_of es) → Above R j (keys_of (remove_entry test es))
above_remove R j test [] above = tt
above_remove {K = K} {A = A} R j test (e ∷ es) above = by (test e.0) (above_remove R j test es above.1)
  where
    by : (b : Bool) → Above R j (keys_of (remove_entry test es))
        → Above R j (keys_of (cond b es (e ∷ remove_entry test es)))
    by true later = above.1
    by false later = (above.0, later)

pub sorted_remove : {K A : Type 0} (R : K → K → Ordering) (test : K → Bool) (es : List (K × A))
    → IsStrictlySortedBy R (keys_of es) → IsStrictlySortedBy R (keys_of (remove_entry test es))
sorted_remove R test [] sorted = sorted
sorted_remove {K = K} {A = A} R test (e ∷ es) sorted =
    by (test e.0) (sorted_remove R test es (sorted_tail R e.0 (keys_of es) sorted))
  where
    by : (b : Bool) → IsStrictlySortedBy R (keys_of (remove_entry test es))
        → IsStrictlySortedBy R (keys_of (cond b es (e ∷ remove_entry test es)))
    by true later = sorted_tail R e.0 (keys_of es) sorted
    by false later = sorted_cons R e.0 (keys_of (remove_entry test es))
        (above_remove R e.0 test es (sorted_head R e.0 (keys_of es) sorted)) later

-- ---- what changes nothing

-- a value that is there, set, is the value put at its key
pub set_is_insert : {K A : Type 0} {R : K → K → Ordering} → IsTotalOrder R → (k : K) (es : List (K × A)) (w v : A)
    → lookup (is_at (R k)) es ≡ Some w → IsStrictlySortedBy R (keys_of es)
    → set_value (is_at (R k)) es v ≡ insert_entry R es k v
set_is_insert o k [] w v is sorted = absurd (cc)
set_is_insert {K = K} {A = A} {R = R} o k (e ∷ es) w v is sorted =
    by (R k e.0) refl (λ later. set_is_insert o k es w v later (sorted_tail R e.0 (keys_of es) sorted))
  where
    by : (r : Ordering) → R k e.0 ≡ r → (lookup (is_at (R k)) es ≡ Some w
        → set_value (is_at (R k)) es v ≡ insert_entry R es k v)
        → cond (is_eq r) ((e.0, v) ∷ es) (e ∷ set_value (is_at (R k)) es v)
        ≡ match_ordering r ((k, v) ∷ e ∷ es) ((e.0, v) ∷ es) (e ∷ insert_entry R es k v)
    by Less p hypothesis =
        let none : lookup (is_at (R k)) (e ∷ es) ≡ None = lookup_above R k (e ∷ es)
        (p, above_less o k e.0 (keys_of es) p (sorted_head R e.0 (keys_of es) sorted)) in absurd (cc)
    by Equal p hypothesis = refl
    by Greater p hypothesis = ap (λ l. e ∷ l) (hypothesis (rw p at is))

pub insert_same : {K A : Type 0} {R : K → K → Ordering} → IsTotalOrder R → (k : K) (v : A) (es : List (K × A))
    → lookup (is_at (R k)) es ≡ Some v → IsStrictlySortedBy R (keys_of es) → insert_entry R es k v ≡ es
insert_same o k v [] is sorted = absurd (cc)
insert_same {K = K} {A = A} {R = R} o k v (e ∷ es) is sorted =
    by (R k e.0) refl (λ later. insert_same o k v es later (sorted_tail R e.0 (keys_of es) sorted))
  where
    by : (r : Ordering) → R k e.0 ≡ r → (lookup (is_at (R k)) es ≡ Some v → insert_entry R es k v ≡ es)
        → match_ordering r ((k, v) ∷ e ∷ es) ((e.0, v) ∷ es) (e ∷ insert_entry R es k v) ≡ e ∷ es
    by Less p hypothesis =
        let none : lookup (is_at (R k)) (e ∷ es) ≡ None = lookup_above R k (e ∷ es)
        (p, above_less o k e.0 (keys_of es) p (sorted_head R e.0 (keys_of es) sorted)) in absurd (cc)
    by Equal p hypothesis = let one : Some e.1 ≡ Some v = rw p at is in let same : e.1 ≡ v =
        cc in ap (λ (x : A). (e.0, x) ∷ es) (sym same)
    by Greater p hypothesis = ap (λ l. e ∷ l) (hypothesis (rw p at is))

pub remove_none : {K A : Type 0} (test : K → Bool) (es : List (K × A)) → lookup test es ≡ None
    → remove_entry test es ≡ es
remove_none test [] is = refl
remove_none {K = K} {A = A} test (e ∷ es) is = by (test e.0) refl (λ later. remove_none test es later)
  where
    by : (b : Bool) → test e.0 ≡ b → (lookup test es ≡ None → remove_entry test es ≡ es)
        → cond b es (e ∷ remove_entry test es) ≡ e ∷ es
    by true p hypothesis = let no : Some e.1 ≡ None = rw p at is in absurd (cc)
    by false p hypothesis = ap (λ l. e ∷ l) (hypothesis (rw p at is))

-- ---- each value

abbrev pub AllValues : {K A : Type 0} → (A → Type 0) → List (K × A) → Type 0
AllValues P es = AllByRecursion (λ e. P e.1) es

pub all_insert : {K A : Type 0} (P : A → Type 0) (R : K → K → Ordering) (k : K) (v : A) (es : List (K × A)) → P v
    → AllValues P es → AllValues P (insert_entry R es k v)
all_insert P R k v [] here all = (here, tt)
all_insert {K = K} {A = A} P R k v (e ∷ es) here all = by (R k e.0) (all_insert P R k v es here all.1)
  where
    by : (r : Ordering) → AllValues P (insert_entry R es k v)
        → AllValues P (match_ordering r ((k, v) ∷ e ∷ es) ((e.0, v) ∷ es) (e ∷ insert_entry R es k v))
    by Less later = (here, (all.0, all.1))
    by Equal later = (here, all.1)
    by Greater later = (all.0, later)

pub all_remove : {K A : Type 0} (P : A → Type 0) (test : K → Bool) (es : List (K × A)) → AllValues P es
    → AllValues P (remove_entry test es)
all_remove P test [] all = tt
all_remove {K = K} {A = A} P test (e ∷ es) all = by (test e.0) (all_remove P test es all.1)
  where
    by : (b : Bool) → AllValues P (remove_entry test es) → AllValues P (cond b es (e ∷ remove_entry test es))
    by true later = all.1
    by false later = (all.0, later)

pub all_lookup : {K A : Type 0} (P : A → Type 0) (test : K → Bool) (es : List (K × A)) (v : A) → AllValues P es
    → lookup test es ≡ Some v → P v
all_lookup P test [] v all is = absurd (cc)
all_lookup {K = K} {A = A} P test (e ∷ es) v all is = by (test e.0) refl (λ later. all_lookup P test es v all.1 later)
  where
    by : (b : Bool) → test e.0 ≡ b → (lookup test es ≡ Some v → P v) → P v
    by true p hypothesis = let one : Some e.1 ≡ Some v = rw p at is in let same : e.1 ≡ v = cc in rw (← same) all.0
    by false p hypothesis = hypothesis (rw p at is)

-- ---- two maps that say the same at each key are the same

pub same_lists : {K A : Type 0} {R : K → K → Ordering} → IsTotalOrder R → CmpEqualImpliesEq R → (ms ns : List (K × A))
    → IsStrictlySortedBy R (keys_of ms) → IsStrictlySortedBy R (keys_of ns)
    → ((k : K) → lookup (is_at (R k)) ms ≡ lookup (is_at (R k)) ns) → ms ≡ ns
same_lists o exact [] [] s t same = refl
same_lists {R = R} o exact [] (n ∷ ns) s t same =
    let there : lookup (is_at (R n.0)) (n ∷ ns) ≡ Some n.1 = rw (tied_itself o n.0) refl in
    let is : None ≡ lookup (is_at (R n.0)) (n ∷ ns) = same n.0 in absurd (cc)
same_lists {R = R} o exact (m ∷ ms) [] s t same =
    let there : lookup (is_at (R m.0)) (m ∷ ms) ≡ Some m.1 = rw (tied_itself o m.0) refl in
    let is : lookup (is_at (R m.0)) (m ∷ ms) ≡ None = same m.0 in absurd (cc)
same_lists {K = K} {A = A} {R = R} o exact (m ∷ ms) (n ∷ ns) s t same =
    by (R m.0 n.0) refl (λ later. same_lists o exact ms ns (sorted_tail R m.0 (keys_of ms) s)
    (sorted_tail R n.0 (keys_of ns) t) later)
  where
    first : lookup (is_at (R m.0)) (m ∷ ms) ≡ Some m.1
    first = rw (tied_itself o m.0) refl

    second : lookup (is_at (R n.0)) (n ∷ ns) ≡ Some n.1
    second = rw (tied_itself o n.0) refl

    rest : (k : K) (r : Ordering) → R k m.0 ≡ r → R k n.0 ≡ r → lookup (is_at (R k)) ms ≡ lookup (is_at (R k)) ns
    rest k Less p q = rw (p, q) at (same k)
    rest k Greater p q = rw (p, q) at (same k)
    rest k Equal p q =
        lookup_above R k ms (above_tied o k m.0 (keys_of ms) p (sorted_head R m.0 (keys_of ms) s))
        ∙ sym (lookup_above R k ns (above_tied o k n.0 (keys_of ns) q (sorted_head R n.0 (keys_of ns) t)))

    by : (r : Ordering) → R m.0 n.0 ≡ r → (((k : K) → lookup (is_at (R k)) ms ≡ lookup (is_at (R k)) ns) → ms ≡ ns)
        → m ∷ ms ≡ n ∷ ns
    by Less p hypothesis =
        let none : lookup (is_at (R m.0)) (n ∷ ns) ≡ None =
        lookup_above R m.0 (n ∷ ns) (p, above_less o m.0 n.0 (keys_of ns) p (sorted_head R n.0 (keys_of ns) t)) in
        let is : lookup (is_at (R m.0)) (m ∷ ms) ≡ lookup (is_at (R m.0)) (n ∷ ns) = same m.0 in
        let has : lookup (is_at (R m.0)) (m ∷ ms) ≡ Some m.1 = first in absurd (cc)
    by Greater p hypothesis =
        let less : R n.0 m.0 ≡ Less = o.antisymm n.0 m.0 ∙ ap ordering_reverse p in
        let none : lookup (is_at (R n.0)) (m ∷ ms) ≡ None =
        lookup_above R n.0 (m ∷ ms) (
          less,
          above_less o n.0 m.0 (keys_of ms) less
              (sorted_head R m.0 (keys_of ms) s),
        ) in
        let is : lookup (is_at (R n.0)) (m ∷ ms) ≡ lookup (is_at (R n.0)) (n ∷ ns) = same n.0 in
        let has : lookup (is_at (R n.0)) (n ∷ ns) ≡ Some n.1 = second in absurd (cc)
    by Equal p hypothesis =
        let key : m.0 ≡ n.0 = exact m.0 n.0 p in
        let is : lookup (is_at (R m.0)) (m ∷ ms) ≡ lookup (is_at (R m.0)) (n ∷ ns) = same m.0 in
        let there : lookup (is_at (R m.0)) (n ∷ ns) ≡ Some n.1 = rw p refl in
        let has : lookup (is_at (R m.0)) (m ∷ ms) ≡ Some m.1 = first in
        let value : m.1 ≡ n.1 = cc in
        let tails : ms ≡ ns = hypothesis (λ k. rest k (R k m.0) refl (ap (λ (x : K). R k x) (sym key))) in
        let heads : m ≡ n = (λ i. (key i, value i)) in
        (λ i. heads i ∷ tails i)

-- ---- an entry at the end

pub insert_last : {K A : Type 0} {R : K → K → Ordering} → IsTotalOrder R → (k : K) (v : A) (es : List (K × A))
    → IsStrictlySortedBy R (keys_of (es ++ (k, v) ∷ [])) → insert_entry R es k v ≡ es ++ (k, v) ∷ []
insert_last o k v [] sorted = refl
insert_last {K = K} {A = A} {R = R} o k v (e ∷ es) sorted =
    let less : R e.0 k ≡ Less = last es (sorted_head R e.0 (keys_of (es ++ (k, v) ∷ [])) sorted) in
    let greater : R k e.0 ≡ Greater = o.antisymm k e.0 ∙ ap ordering_reverse less in
    rw greater (ap (λ l. e ∷ l) (insert_last o k v es (sorted_tail R e.0 (keys_of (es ++ (k, v) ∷ [])) sorted)))
  where
    last : (xs : List (K × A)) → Above R e.0 (keys_of (xs ++ (k, v) ∷ [])) → R e.0 k ≡ Less
    last [] above = above.0
    last (x ∷ xs) above = last xs above.1

pub sorted_front : {K : Type 0} (R : K → K → Ordering) (xs ys : List K) → IsStrictlySortedBy R (xs ++ ys)
    → IsStrictlySortedBy R xs
sorted_front R [] ys sorted = sorted_none R
sorted_front {K = K} R (x ∷ xs) ys sorted =
    sorted_cons R x xs (cut xs (sorted_head R x (xs ++ ys) sorted))
    (sorted_front R xs ys (sorted_tail R x (xs ++ ys) sorted))
  where
    cut : (zs : List K) → Above R x (zs ++ ys) → Above R x zs
    cut [] above = tt
    cut (z ∷ zs) above = (above.0, cut zs above.1)

-- what follows from what holds of an Ok
pub on_ok : {T E P Q : Type 0} (r : Result T E) → (P → Q) → OnOk r P → OnOk r Q
on_ok (Ok x) f h = f h
on_ok (Err e) f h = tt

pub if_ok : {T E : Type 0} {P Q : T → Type 0} (r : Result T E) → ((x : T) → P x → Q x) → IfOk r P → IfOk r Q
if_ok (Ok x) f h = f x h
if_ok (Err e) f h = tt
