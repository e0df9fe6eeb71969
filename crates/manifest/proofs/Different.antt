-- As many things stand by their names as there are different names, and all of them just where no name stands twice.
use Rattle.std.proofs.Common.{◌≡◌, ℕ, Bool, true, false, not, ◌||◌, List, [], ◌∷◌, length, map, refl, sym, ap, subst}
use Rattle.std.proofs.Common.{suc, ◌∙◌}
use Rattle.std.specs.Prelude.{fold, nat_eq}
use Rattle.std.specs.List.{AllByRecursion, IsDistinct, list_any}
use Rattle.std.specs.Map.{keys_of}
use Rattle.std.specs.Set.{distinct_count}
use Rattle.std.specs.BTreeMap.{insert_entry}
use Rattle.std.specs.Ordering.{is_eq, match_ordering}
use Rattle.std.specs.Str.{bytes_eq}
use Rattle.std.specs.declared.cmp.Ordering.{Ordering}
use Rattle.std.specs.declared.cmp.Ordering.TheVariants.{Less, Equal, Greater}
use Rattle.std.proofs.lemmas.Bool.{and_parts}
use Rattle.std.proofs.lemmas.Bool.Decides.{Decides-eqb}
use Rattle.std.proofs.lemmas.Cmp.{eq_by_cmp_equiv, nat_list_cmp_total}
use Rattle.std.proofs.lemmas.Map.Keys.{IsDistinct-cons, IsDistinct-from_sorted, IsDistinct-head, IsDistinct-tail}
use Rattle.std.proofs.lemmas.Map.Made.{IsDistinct-from_count, distinct_count-from_IsDistinct, length-from_keys}
use Rattle.std.proofs.lemmas.Map.Text.{is_eq-slice_cmp}
use Rattle.per_base.specs.Names.{name_cmp}
use Rattle.manifest.specs.Parts.{ListedThing, NamedParts, name_in, named, with_named}
use Rattle.manifest.specs.Rules.{all_differ, names_differ}
use Rattle.manifest.proofs.ByName.{Entry, equal_names, keys_sorted}

abbrev same : List ℕ → List ℕ → Bool
same a b = is_eq (name_cmp a b)

abbrev names : List ListedThing → List (List ℕ)
names ls = map (λ (l : ListedThing). name_in l.1) ls

-- ---- which names there are

twice : (b c : Bool) → (b || c) ≡ (b || (b || c))
twice true c = refl
twice false c = refl

swapped : (a b c : Bool) → (a || (b || c)) ≡ (b || (a || c))
swapped true true c = refl
swapped true false c = refl
swapped false b c = refl

shifted : (a b c : Bool) → ((a || b) || c) ≡ (b || (a || c))
shifted true true c = refl
shifted true false c = refl
shifted false b c = refl

or_nothing : (b : Bool) → b ≡ (b || false)
or_nothing true = refl
or_nothing false = refl

any_at : (o : Ordering) (q k : List ℕ) (v : ListedThing) (e : Entry) (es more : NamedParts) → name_cmp k e.0 ≡ o
    → list_any (same q) (keys_of more) ≡ (same q k || list_any (same q) (keys_of es))
    → list_any (same q) (keys_of (match_ordering o ((k, v) ∷ e ∷ es) ((e.0, v) ∷ es) (e ∷ more)))
    ≡ (same q k || list_any (same q) (keys_of (e ∷ es)))
any_at Less q k v e es more is rest = refl
any_at Equal q k v e es more is rest =
    let Q : List ℕ → Type 0 = λ n. list_any (same q) (keys_of (e ∷ es))
    ≡ (same q n || list_any (same q) (keys_of (e ∷ es))) in
    subst Q (sym (equal_names k e.0 is)) (twice (same q e.0) (list_any (same q) (keys_of es)))
any_at Greater q k v e es more is rest = ap (λ b. same q e.0 || b) rest
    ∙ swapped (same q e.0) (same q k) (list_any (same q) (keys_of es))

any_inserted : (q k : List ℕ) (v : ListedThing) (es : NamedParts)
    → list_any (same q) (keys_of (insert_entry name_cmp es k v)) ≡ (same q k || list_any (same q) (keys_of es))
any_inserted q k v [] = refl
any_inserted q k v (e ∷ es) = any_at (name_cmp k e.0) q k v e es _ refl (any_inserted q k v es)

any_from : (q : List ℕ) (ls : List ListedThing) (m : NamedParts)
    → list_any (same q) (keys_of (fold with_named m ls))
    ≡ (list_any (same q) (keys_of m) || list_any (same q) (names ls))
any_from q [] m = or_nothing (list_any (same q) (keys_of m))
any_from q (l ∷ ls) m =
    any_from q ls (with_named m l) ∙ ap (λ b. b || list_any (same q) (names ls)) (any_inserted q (name_in l.1) l m)
    ∙ shifted (same q (name_in l.1)) (list_any (same q) (keys_of m)) (list_any (same q) (names ls))

any_named : (q : List ℕ) (ls : List ListedThing) → list_any (same q) (keys_of (named ls)) ≡ list_any (same q) (names ls)
unfolding named
any_named q ls = any_from q ls []

length-keys : (m : NamedParts) → length (keys_of m) ≡ length m
length-keys [] = refl
length-keys (e ∷ m) = ap suc (length-keys m)

length-names : (ls : List ListedThing) → length (names ls) ≡ length ls
length-names [] = refl
length-names (l ∷ ls) = ap suc (length-names ls)

as_many : (ls : List ListedThing) → length (named ls) ≡ distinct_count same (names ls)
as_many ls =
    sym (length-keys (named ls))
    ∙ length-from_keys (eq_by_cmp_equiv nat_list_cmp_total) (keys_of (named ls)) (names ls)
    (IsDistinct-from_sorted name_cmp (keys_of (named ls)) (keys_sorted ls)) (λ q. any_named q ls)

-- ---- whether they differ

none_of : (b c : Bool) → not (b || c) ≡ true → (b ≡ false) × (not c ≡ true)
none_of true c h = absurd cc
none_of false c h = (refl, h)

apart : (n : List ℕ) (ns : List (List ℕ)) → not (list_any (bytes_eq n) ns) ≡ true
    → AllByRecursion (λ m. same n m ≡ false) ns
apart n [] h = tt
apart n (m ∷ ns) h = let parts = none_of (bytes_eq n m) (list_any (bytes_eq n) ns) h in
    (is_eq-slice_cmp n m ∙ parts.0, apart n ns parts.1)

none_again : (n : List ℕ) (ns : List (List ℕ)) → AllByRecursion (λ m. same n m ≡ false) ns
    → not (list_any (bytes_eq n) ns) ≡ true
none_again n [] all = refl
none_again n (m ∷ ns) all = let differs : bytes_eq n m ≡ false =
    sym (is_eq-slice_cmp n m) ∙ all.0 in rw differs (none_again n ns all.1)

distinct : (ns : List (List ℕ)) → all_differ ns ≡ true → IsDistinct same ns
unfolding IsDistinct
distinct [] h = tt
distinct (n ∷ ns) h = let both = and_parts _ _ h in IsDistinct-cons same n ns (apart n ns both.0) (distinct ns both.1)

differ : (ns : List (List ℕ)) → IsDistinct same ns → all_differ ns ≡ true
differ [] h = refl
differ (n ∷ ns) h = rw (none_again n ns (IsDistinct-head same n ns h)) (differ ns (IsDistinct-tail same n ns h))

decided : (b : Bool) (m n : ℕ) → (b ≡ true → m ≡ n) → (m ≡ n → b ≡ true) → nat_eq m n ≡ b
decided true m n same back = (Decides-eqb m n).1 (same refl)
decided false m n same back = unequal (nat_eq m n) (λ h. back ((Decides-eqb m n).0 h))
  where
    unequal : (c : Bool) → (c ≡ true → false ≡ true) → c ≡ false
    unequal true h = sym (h refl)
    unequal false h = refl

pub counted : (ls : List ListedThing) → nat_eq (length (named ls)) (length ls) ≡ names_differ ls
unfolding names_differ
counted ls =
    let laws = eq_by_cmp_equiv nat_list_cmp_total in
    decided (all_differ (names ls)) (length (named ls)) (length ls)
    (λ h. as_many ls ∙ distinct_count-from_IsDistinct laws (names ls) (distinct (names ls) h) ∙ length-names ls)
    (λ h. differ (names ls) (IsDistinct-from_count laws (names ls) (sym (as_many ls) ∙ h ∙ sym (length-names ls))))
