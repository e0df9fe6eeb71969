-- What a map that is read off another becomes when an entry of that one is put or removed, or all are gone through.
use Rattle.std.proofs.Common.{◌≡◌, List, [], ◌∷◌, Bool, true, false, cond, refl, sym, ◌∙◌, ap, subst}
use Rattle.std.specs.Prelude.{Option, Some, None, IfSome}
use Rattle.std.specs.declared.cmp.Ordering.{Ordering}
use Rattle.std.specs.declared.cmp.Ordering.TheVariants.{Less, Equal, Greater}
use Rattle.std.specs.BTreeMap.{insert_entry, is_at}
use Rattle.std.specs.Cmp.{IsTotalOrder}
use Rattle.std.specs.List.Sorted.{IsStrictlySortedBy}
use Rattle.std.specs.Map.{lookup, remove_entry, keys_of}
use Rattle.std.specs.Map.Calls.{RetainsPairs}
use Rattle.std.specs.Option.{option_and_then}
use Rattle.std.specs.Ordering.{is_eq, match_ordering}
use Rattle.std.proofs.lemmas.Map.Keys.{sorted_head, sorted_tail}
use Rattle.std.proofs.lemmas.Map.Lookups.{CmpEqualImpliesEq}
use Rattle.key_maps.specs.Picked.{picked, when_some}
use Rattle.key_maps.specs.lemmas.Ordered.{Above, AllValues, above_less, above_tied, insert_front, insert_same}
use Rattle.key_maps.specs.lemmas.Ordered.{lookup_above}
use Rattle.key_maps.specs.lemmas.Ordered.{remove_above, remove_none, sorted_cons}

above_picked : {K A B : Type 0} (R : K → K → Ordering) (f : A → Option B) (k : K) (es : List (K × A))
    → Above R k (keys_of es) → Above R k (keys_of (picked f es))
above_picked R f k [] above = tt
above_picked {K = K} {A = A} {B = B} R f k (e ∷ es) above = by (f e.1) (above_picked R f k es above.1)
  where
    by : (c : Option B) → Above R k (keys_of (picked f es)) → Above R k (keys_of (when_some e.0 c (picked f es)))
    by None later = later
    by (Some b) later = (above.0, later)

pub sorted_picked : {K A B : Type 0} (R : K → K → Ordering) (f : A → Option B) (es : List (K × A))
    → IsStrictlySortedBy R (keys_of es) → IsStrictlySortedBy R (keys_of (picked f es))
sorted_picked R f [] sorted = sorted
sorted_picked {K = K} {A = A} {B = B} R f (e ∷ es) sorted =
    by (f e.1) (sorted_picked R f es (sorted_tail R e.0 (keys_of es) sorted))
    (above_picked R f e.0 es (sorted_head R e.0 (keys_of es) sorted))
  where
    by : (c : Option B) → IsStrictlySortedBy R (keys_of (picked f es)) → Above R e.0 (keys_of (picked f es))
        → IsStrictlySortedBy R (keys_of (when_some e.0 c (picked f es)))
    by None later above = later
    by (Some b) later above = sorted_cons R e.0 (keys_of (picked f es)) above later

pub lookup_picked : {K A B : Type 0} {R : K → K → Ordering} → IsTotalOrder R
    → (f : A → Option B) (k : K) (es : List (K × A)) → IsStrictlySortedBy R (keys_of es)
    → lookup (is_at (R k)) (picked f es) ≡ option_and_then f (lookup (is_at (R k)) es)
lookup_picked o f k [] sorted = refl
lookup_picked {K = K} {A = A} {B = B} {R = R} o f k (e ∷ es) sorted =
    by (R k e.0) refl (f e.1) refl (lookup_picked o f k es (sorted_tail R e.0 (keys_of es) sorted))
    (above_picked R f e.0 es (sorted_head R e.0 (keys_of es) sorted))
  where
    by : (r : Ordering) → R k e.0 ≡ r → (c : Option B) → f e.1 ≡ c
        → lookup (is_at (R k)) (picked f es) ≡ option_and_then f (lookup (is_at (R k)) es)
        → Above R e.0 (keys_of (picked f es))
        → lookup (is_at (R k)) (when_some e.0 c (picked f es))
        ≡ option_and_then f (cond (is_eq r) (Some e.1) (lookup (is_at (R k)) es))
    by Less p None q later above = later
    by Less p (Some b) q later above = rw p later
    by Equal p None q later above = lookup_above R k (picked f es) (above_tied o k e.0 (keys_of (picked f es)) p above)
        ∙ sym q
    by Equal p (Some b) q later above = rw p (sym q)
    by Greater p None q later above = later
    by Greater p (Some b) q later above = rw p later

-- an entry is put from which something is read
pub picked_put : {K A B : Type 0} {R : K → K → Ordering} → IsTotalOrder R → CmpEqualImpliesEq R
    → (f : A → Option B) (k : K) (a : A) (b : B) (es : List (K × A)) → f a ≡ Some b → IsStrictlySortedBy R (keys_of es)
    → picked f (insert_entry R es k a) ≡ insert_entry R (picked f es) k b
picked_put o exact f k a b [] is sorted = rw is refl
picked_put {K = K} {A = A} {B = B} {R = R} o exact f k a b (e ∷ es) is sorted =
    by (R k e.0) refl (f e.1) refl (picked_put o exact f k a b es is (sorted_tail R e.0 (keys_of es) sorted))
    (above_picked R f e.0 es (sorted_head R e.0 (keys_of es) sorted))
  where
    by : (r : Ordering) → R k e.0 ≡ r → (c : Option B) → f e.1 ≡ c
        → picked f (insert_entry R es k a) ≡ insert_entry R (picked f es) k b
        → Above R e.0 (keys_of (picked f es))
        → picked f (match_ordering r ((k, a) ∷ e ∷ es) ((e.0, a) ∷ es) (e ∷ insert_entry R es k a))
        ≡ insert_entry R (when_some e.0 c (picked f es)) k b
    by Less p None q later above = rw (is, q) (sym (insert_front R k b (picked f es)
        (above_less o k e.0 (keys_of (picked f es)) p above)))
    by Less p (Some c) q later above = rw (is, q, p) refl
    by Equal p None q later above =
        rw is (ap (λ (x : K). (x, b) ∷ picked f es) (sym (exact k e.0 p))
        ∙ sym (insert_front R k b (picked f es) (above_tied o k e.0 (keys_of (picked f es)) p above)))
    by Equal p (Some c) q later above = rw (is, p) refl
    by Greater p None q later above = rw q later
    by Greater p (Some c) q later above = rw (q, p) (ap (λ l. (e.0, c) ∷ l) later)

-- an entry is put from which nothing is read
pub picked_drop : {K A B : Type 0} {R : K → K → Ordering} → IsTotalOrder R
    → (f : A → Option B) (k : K) (a : A) (es : List (K × A)) → f a ≡ None → IsStrictlySortedBy R (keys_of es)
    → picked f (insert_entry R es k a) ≡ remove_entry (is_at (R k)) (picked f es)
picked_drop o f k a [] is sorted = rw is refl
picked_drop {K = K} {A = A} {B = B} {R = R} o f k a (e ∷ es) is sorted =
    by (R k e.0) refl (f e.1) refl (picked_drop o f k a es is (sorted_tail R e.0 (keys_of es) sorted))
    (above_picked R f e.0 es (sorted_head R e.0 (keys_of es) sorted))
  where
    by : (r : Ordering) → R k e.0 ≡ r → (c : Option B) → f e.1 ≡ c
        → picked f (insert_entry R es k a) ≡ remove_entry (is_at (R k)) (picked f es)
        → Above R e.0 (keys_of (picked f es))
        → picked f (match_ordering r ((k, a) ∷ e ∷ es) ((e.0, a) ∷ es) (e ∷ insert_entry R es k a))
        ≡ remove_entry (is_at (R k)) (when_some e.0 c (picked f es))
    by Less p None q later above = rw (is, q) (sym (remove_above R k (picked f es)
        (above_less o k e.0 (keys_of (picked f es)) p above)))
    by Less p (Some c) q later above = rw (is, q, p) (ap (λ l. (e.0, c) ∷ l)
        (sym (remove_above R k (picked f es) (above_less o k e.0 (keys_of (picked f es)) p above))))
    by Equal p None q later above = rw is (sym (remove_above R k (picked f es)
        (above_tied o k e.0 (keys_of (picked f es)) p above)))
    by Equal p (Some c) q later above = rw (is, p) refl
    by Greater p None q later above = rw q later
    by Greater p (Some c) q later above = rw (q, p) (ap (λ l. (e.0, c) ∷ l) later)

-- an entry is put from which the same is read as was there
pub picked_kept : {K A B : Type 0} {R : K → K → Ordering} → IsTotalOrder R → CmpEqualImpliesEq R
    → (f : A → Option B) (k : K) (a : A) (es : List (K × A)) → option_and_then f (lookup (is_at (R k)) es) ≡ f a
    → IsStrictlySortedBy R (keys_of es) → picked f (insert_entry R es k a) ≡ picked f es
picked_kept {K = K} {A = A} {B = B} {R = R} o exact f k a es same sorted = by (f a) refl
  where
    by : (c : Option B) → f a ≡ c → picked f (insert_entry R es k a) ≡ picked f es
    by None is = picked_drop o f k a es is sorted ∙ remove_none (is_at (R k)) (picked f es)
        (lookup_picked o f k es sorted ∙ same ∙ is)
    by (Some b) is = picked_put o exact f k a b es is sorted
        ∙ insert_same o k b (picked f es) (lookup_picked o f k es sorted ∙ same ∙ is) (sorted_picked R f es sorted)

pub picked_remove : {K A B : Type 0} {R : K → K → Ordering} → IsTotalOrder R
    → (f : A → Option B) (k : K) (es : List (K × A)) → IsStrictlySortedBy R (keys_of es)
    → picked f (remove_entry (is_at (R k)) es) ≡ remove_entry (is_at (R k)) (picked f es)
picked_remove o f k [] sorted = refl
picked_remove {K = K} {A = A} {B = B} {R = R} o f k (e ∷ es) sorted =
    by (R k e.0) refl (f e.1) refl (picked_remove o f k es (sorted_tail R e.0 (keys_of es) sorted))
    (above_picked R f e.0 es (sorted_head R e.0 (keys_of es) sorted))
  where
    by : (r : Ordering) → R k e.0 ≡ r → (c : Option B) → f e.1 ≡ c
        → picked f (remove_entry (is_at (R k)) es) ≡ remove_entry (is_at (R k)) (picked f es)
        → Above R e.0 (keys_of (picked f es))
        → picked f (cond (is_eq r) es (e ∷ remove_entry (is_at (R k)) es))
        ≡ remove_entry (is_at (R k)) (when_some e.0 c (picked f es))
    by Less p None q later above = rw q later
    by Less p (Some c) q later above = rw (q, p) (ap (λ l. (e.0, c) ∷ l) later)
    by Equal p None q later above = sym (remove_above R k (picked f es)
        (above_tied o k e.0 (keys_of (picked f es)) p above))
    by Equal p (Some c) q later above = rw p refl
    by Greater p None q later above = rw q later
    by Greater p (Some c) q later above = rw (q, p) (ap (λ l. (e.0, c) ∷ l) later)

-- ---- all entries

pub picked_picked : {K A B C : Type 0} (f : B → Option C) (g : A → Option B) (es : List (K × A))
    → picked f (picked g es) ≡ picked (λ a. option_and_then f (g a)) es
picked_picked f g [] = refl
picked_picked {K = K} {A = A} {B = B} {C = C} f g (e ∷ es) = by (g e.1) (picked_picked f g es)
  where
    by : (c : Option B) → picked f (picked g es) ≡ picked (λ a. option_and_then f (g a)) es
        → picked f (when_some e.0 c (picked g es)) ≡ when_some e.0 (option_and_then f c)
        (picked (λ a. option_and_then f (g a)) es)
    by None later = later
    by (Some b) later = ap (λ l. when_some e.0 (f b) l) later

pub picked_same : {K A B : Type 0} (f g : A → Option B) → ((a : A) → f a ≡ g a) → (es : List (K × A))
    → picked f es ≡ picked g es
picked_same f g same [] = refl
picked_same f g same (e ∷ es) = rw (same e.1) (ap (λ l. when_some e.0 (g e.1) l) (picked_same f g same es))

pub picked_none : {K A B : Type 0} (f : A → Option B) → ((a : A) → f a ≡ None) → (es : List (K × A)) → picked f es ≡ []
picked_none f none [] = refl
picked_none f none (e ∷ es) = rw (none e.1) (picked_none f none es)

pub all_picked : {K A B : Type 0} (P : A → Type 0) (Q : B → Type 0) (f : A → Option B)
    → ((a : A) → P a → IfSome (f a) Q) → (es : List (K × A)) → AllValues P es → AllValues Q (picked f es)
all_picked P Q f step [] all = tt
all_picked {K = K} {A = A} {B = B} P Q f step (e ∷ es) all =
    by (f e.1) (step e.1 all.0) (all_picked P Q f step es all.1)
  where
    by : (c : Option B) → IfSome c Q → AllValues Q (picked f es) → AllValues Q (when_some e.0 c (picked f es))
    by None here later = later
    by (Some b) here later = (here, later)

-- a closure that stays as it was, and keeps of each value what h gives
pub from_retain : {F K A : Type 0} (T : F → K → A → Bool → A → F → Type 0) (keep : A → Bool) (change : A → A) (f : F)
    → ((k : K) (v : A) (b : Bool) (w : A) (f' : F) → T f k v b w f' → (b ≡ keep v) × (w ≡ change v) × (f' ≡ f))
    → (es kept : List (K × A)) → RetainsPairs T f es kept → kept ≡ picked (λ a. cond (keep a) (Some (change a)) None) es
from_retain T keep change f step [] kept r = r
from_retain {F = F} {K = K} {A = A} T keep change f step (e ∷ es) kept r =
    let a = step e.0 e.1 r.0 r.1 r.2 r.4 in
    let rest = from_retain T keep change f step es r.3 (subst (λ u. RetainsPairs T u es r.3) a.2 r.5) in
    r.6 ∙ ap (λ b. cond b ((e.0, r.1) ∷ r.3) r.3) a.0 ∙ ap (λ (w : A). cond (keep e.1) ((e.0, w) ∷ r.3) r.3) a.1
    ∙ by (keep e.1) r.3
    ∙ ap (λ l. when_some e.0 (cond (keep e.1) (Some (change e.1)) None) l) rest
  where
    by : (b : Bool) (l : List (K × A)) → cond b ((e.0, change e.1) ∷ l) l
        ≡ when_some e.0 (cond b (Some (change e.1)) None) l
    by true l = refl
    by false l = refl

-- ---- the first entry

pub picked_some : {K A B : Type 0} (f : A → Option B) (e : K × A) (es : List (K × A)) (b : B) → f e.1 ≡ Some b
    → picked f (e ∷ es) ≡ (e.0, b) ∷ picked f es
picked_some f e es b is = rw is refl

pub picked_skip : {K A B : Type 0} (f : A → Option B) (e : K × A) (es : List (K × A)) → f e.1 ≡ None
    → picked f (e ∷ es) ≡ picked f es
picked_skip f e es is = rw is refl
