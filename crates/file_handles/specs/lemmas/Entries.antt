-- Changes of one entry of a map in order, and what they do to its size.
use Rattle.std.proofs.Common.{◌≡◌, ℕ, ◌+◌, ◌≤◌, List, [], ◌∷◌, length, Bool, true, false, cond, refl, sym, ap, arith}
use Rattle.std.specs.Prelude.{Some, None, sum_by}
use Rattle.std.specs.declared.cmp.Ordering.{Ordering}
use Rattle.std.specs.declared.cmp.Ordering.TheVariants.{Less, Equal, Greater}
use Rattle.std.specs.BTreeMap.{insert_entry, is_at}
use Rattle.std.specs.Cmp.{IsTotalOrder}
use Rattle.std.specs.List.Sorted.{IsStrictlySortedBy}
use Rattle.std.specs.Map.{lookup, remove_entry, set_value, keys_of}
use Rattle.std.specs.Ordering.{is_eq, match_ordering}
use Rattle.std.proofs.lemmas.Bool.Decides.{nat_tests}
use Rattle.std.proofs.lemmas.List.Sums.{sum_by-cons}
use Rattle.std.proofs.lemmas.Map.Entries.{none_below_head}
use Rattle.std.proofs.lemmas.Map.Keys.{sorted_tail}
use Rattle.std.proofs.lemmas.Map.{lookup-none}
use Rattle.std.proofs.lemmas.Map.Lookups.{exact_bytes}
use Rattle.std.proofs.lemmas.Cmp.{nat_cmp_total, nat_list_cmp_total}
use Rattle.std.specs.Cmp.{Equal-is}
use Rattle.std.specs.Ordering.{nat_cmp}
use Rattle.per_base.specs.declared.elements.Element.{Element}
use Rattle.per_base.specs.Maps.{Map, element_at, with_element, without, size_of}
use Rattle.per_base.specs.Names.{IsName, name_cmp}
use Rattle.file_handles.specs.declared.handle.Handle.{Handle}
use Rattle.file_handles.specs.Sessions.{Handles, handle_at, with_handle}

-- a value that is there, set, is the value put at its key
pub set_is_insert : {K X : Type 0} {R : K → K → Ordering} → IsTotalOrder R → (k : K) (es : List (K × X)) (w v : X)
    → lookup (is_at (R k)) es ≡ Some w → IsStrictlySortedBy R (keys_of es)
    → set_value (is_at (R k)) es v ≡ insert_entry R es k v
set_is_insert o k [] w v is sorted = absurd (cc)
set_is_insert {K = K} {X = X} {R = R} o k (e ∷ es) w v is sorted =
    by (R k e.0) refl (λ later. set_is_insert o k es w v later (sorted_tail R e.0 (keys_of es) sorted))
  where
    by : (r : Ordering) → R k e.0 ≡ r → (lookup (is_at (R k)) es ≡ Some w
        → set_value (is_at (R k)) es v ≡ insert_entry R es k v)
        → cond (is_eq r) ((e.0, v) ∷ es) (e ∷ set_value (is_at (R k)) es v)
        ≡ match_ordering r ((k, v) ∷ e ∷ es) ((e.0, v) ∷ es) (e ∷ insert_entry R es k v)
    by Less p hypothesis = let none : lookup (is_at (R k)) (e ∷ es) ≡ None =
        lookup-none (is_at (R k)) (e ∷ es) (none_below_head o k e es sorted p) in absurd (cc)
    by Equal p hypothesis = refl
    by Greater p hypothesis = ap (λ l. e ∷ l) (hypothesis (rw p at is))

-- where an entry weighs what its key and its value do, the sum over a map
abbrev pub weighed : {K X : Type 0} → (K → ℕ) → (X → ℕ) → List (K × X) → ℕ
weighed g f es = sum_by (λ e. g e.0 + f e.1) es

pub weighed-cons : {K X : Type 0} (g : K → ℕ) (f : X → ℕ) (e : K × X) (es : List (K × X))
    → weighed g f (e ∷ es) ≡ (g e.0 + f e.1) + weighed g f es
weighed-cons g f e es = sum_by-cons (λ x. g x.0 + f x.1) e es

pub weighed-set : {K X : Type 0} (g : K → ℕ) (f : X → ℕ) (test : K → Bool) (es : List (K × X)) (w v : X)
    → lookup test es ≡ Some w → weighed g f (set_value test es v) + f w ≡ weighed g f es + f v
weighed-set g f test [] w v is = absurd (cc)
weighed-set {K = K} {X = X} g f test (e ∷ es) w v is = by (test e.0) refl (λ later. weighed-set g f test es w v later)
  where
    by : (b : Bool) → test e.0 ≡ b → (lookup test es ≡ Some w
        → weighed g f (set_value test es v) + f w ≡ weighed g f es + f v)
        → weighed g f (cond b ((e.0, v) ∷ es) (e ∷ set_value test es v)) + f w ≡ weighed g f (e ∷ es) + f v
    by true p hypothesis =
        let same : f e.1 ≡ f w = ap f (cc (rw p at is)) in
        omega (arith, weighed-cons g f (e.0, v) es, weighed-cons g f e es, same)
    by false p hypothesis =
        let later : weighed g f (set_value test es v) + f w ≡ weighed g f es + f v = hypothesis (rw p at is) in
        omega (arith, weighed-cons g f e (set_value test es v), weighed-cons g f e es, later)

pub weighed-insert : {K X : Type 0} (g : K → ℕ) (f : X → ℕ) (R : K → K → Ordering) (es : List (K × X)) (k : K) (v : X)
    → lookup (is_at (R k)) es ≡ None → weighed g f (insert_entry R es k v) ≡ weighed g f es + (g k + f v)
weighed-insert g f R [] k v is = omega (arith, weighed-cons g f (k, v) [])
weighed-insert {K = K} {X = X} g f R (e ∷ es) k v is = by (R k e.0) refl (λ later. weighed-insert g f R es k v later)
  where
    by : (r : Ordering) → R k e.0 ≡ r → (lookup (is_at (R k)) es ≡ None
        → weighed g f (insert_entry R es k v) ≡ weighed g f es + (g k + f v))
        → weighed g f (match_ordering r ((k, v) ∷ e ∷ es) ((e.0, v) ∷ es) (e ∷ insert_entry R es k v))
        ≡ weighed g f (e ∷ es) + (g k + f v)
    by Less p hypothesis = omega (arith, weighed-cons g f (k, v) (e ∷ es))
    by Equal p hypothesis = absurd (cc (rw p at is))
    by Greater p hypothesis =
        let later : weighed g f (insert_entry R es k v) ≡ weighed g f es + (g k + f v) = hypothesis (rw p at is) in
        omega (arith, weighed-cons g f e (insert_entry R es k v), weighed-cons g f e es, later)

pub weighed-remove : {K X : Type 0} (g : K → ℕ) (f : X → ℕ) (test : K → Bool) (k : K)
    → ((a : K) → test a ≡ true → a ≡ k) → (es : List (K × X)) (w : X) → lookup test es ≡ Some w
    → weighed g f (remove_entry test es) + (g k + f w) ≡ weighed g f es
weighed-remove g f test k exact [] w is = absurd (cc)
weighed-remove {K = K} {X = X} g f test k exact (e ∷ es) w is =
    by (test e.0) refl (λ later. weighed-remove g f test k exact es w later)
  where
    by : (b : Bool) → test e.0 ≡ b → (lookup test es ≡ Some w
        → weighed g f (remove_entry test es) + (g k + f w) ≡ weighed g f es)
        → weighed g f (cond b es (e ∷ remove_entry test es)) + (g k + f w) ≡ weighed g f (e ∷ es)
    by true p hypothesis =
        let same : f e.1 ≡ f w = ap f (cc (rw p at is)) in
        let here : g e.0 ≡ g k = ap g (exact e.0 p) in
        omega (arith, weighed-cons g f e es, same, here)
    by false p hypothesis =
        let later : weighed g f (remove_entry test es) + (g k + f w) ≡ weighed g f es = hypothesis (rw p at is) in
        omega (arith, weighed-cons g f e (remove_entry test es), weighed-cons g f e es, later)

pub handle_set : (handles : Handles) (number : ℕ) (old new : Handle) → handle_at handles number ≡ Some old
    → IsStrictlySortedBy nat_cmp (keys_of handles) → set_value (is_at (nat_cmp number)) handles new
    ≡ with_handle handles number new
handle_set handles number old new is sorted = set_is_insert nat_cmp_total number handles old new is sorted

pub file_set : (files : Map) (name : List ℕ) (old new : Element) → element_at files name ≡ Some old
    → IsStrictlySortedBy name_cmp (keys_of files) → set_value (is_at (name_cmp name)) files new
    ≡ with_element files name new
file_set files name old new is sorted = set_is_insert nat_list_cmp_total name files old new is sorted

-- the size of a map of files, after a file is another, is new, or is gone
pub size_set : (files : Map) (name : List ℕ) (old new : Element) → element_at files name ≡ Some old
    → IsStrictlySortedBy name_cmp (keys_of files) → size_of (with_element files name new) + old.len
    ≡ size_of files + new.len
size_set files name old new is sorted = rw (← file_set files name old new is sorted)
    (weighed-set length (λ e. e.len) (is_at (name_cmp name)) files old new is)

pub size_insert : (files : Map) (name : List ℕ) (new : Element) → element_at files name ≡ None
    → size_of (with_element files name new) ≡ size_of files + (length name + new.len)
size_insert files name new is = weighed-insert length (λ e. e.len) name_cmp files name new is

pub size_remove : (files : Map) (name : List ℕ) (old : Element) → element_at files name ≡ Some old
    → size_of (without files name) + (length name + old.len) ≡ size_of files
size_remove files name old is = weighed-remove length (λ e. e.len) (is_at (name_cmp name)) name same files old is
  where
    same : (a : List ℕ) → is_at (name_cmp name) a ≡ true → a ≡ name
    same a passes = sym (exact_bytes name a ((Equal-is (name_cmp name a)).0 passes))

-- a file takes no more than all do
pub len_fits : (files : Map) (name : List ℕ) (file : Element) → element_at files name ≡ Some file
    → length name + file.len ≤ size_of files
len_fits files name file is = omega (arith, size_remove files name file is)

-- a name has at most 255 bytes
pub name_fits : (name : List ℕ) → IsName name → length name ≤ 255
name_fits name is = grind (arith, nat_tests, is)
