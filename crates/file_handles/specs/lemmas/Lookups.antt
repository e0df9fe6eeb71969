-- What is found in a map after one of its entries is put or removed.
use Rattle.std.proofs.Common.{◌≡◌, ℕ, List, [], ◌∷◌, Bool, true, false, cond, refl, sym, ◌∙◌, ap}
use Rattle.std.specs.Prelude.{Option, Some, None}
use Rattle.std.specs.declared.cmp.Ordering.{Ordering}
use Rattle.std.specs.declared.cmp.Ordering.TheVariants.{Less, Equal, Greater}
use Rattle.std.specs.BTreeMap.{insert_entry, is_at}
use Rattle.std.specs.Cmp.{IsTotalOrder, Equal-is}
use Rattle.std.specs.List.Sorted.{IsStrictlySortedBy}
use Rattle.std.specs.Map.{lookup, remove_entry, keys_of}
use Rattle.std.specs.Ordering.{is_eq, match_ordering, nat_cmp, ordering_reverse, eq_by_cmp}
use Rattle.std.proofs.lemmas.Cmp.{nat_cmp_total, nat_list_cmp_total, eq_by_cmp_equiv}
use Rattle.std.proofs.lemmas.Map.{lookup-remove_entry}
use Rattle.std.proofs.lemmas.Map.Keys.{IsDistinct-from_sorted}
use Rattle.std.proofs.lemmas.Map.Lookups.{exact_bytes, exact_unsigned, CmpEqualImpliesEq}
use Rattle.per_base.specs.declared.elements.Element.{Element}
use Rattle.per_base.specs.Maps.{Map, element_at, with_element, without}
use Rattle.per_base.specs.Names.{name_cmp}
use Rattle.file_handles.specs.declared.handle.Handle.{Handle}
use Rattle.file_handles.specs.Sessions.{Handles, handle_at, with_handle, without_handle}

-- what two keys that tie with each other tie with
tie : {K : Type 0} {R : K → K → Ordering} → IsTotalOrder R → (k a q : K) → R k a ≡ Equal → is_eq (R q a) ≡ is_eq (R q k)
tie {R = R} o k a q same = ap is_eq (o.antisymm q a ∙ ap ordering_reverse (sym (o.congr k a q same))
    ∙ sym (o.antisymm q k))

pub lookup_put : {K X : Type 0} {R : K → K → Ordering} → IsTotalOrder R → (q k : K) (v : X) (es : List (K × X))
    → lookup (is_at (R q)) (insert_entry R es k v) ≡ cond (is_at (R q) k) (Some v) (lookup (is_at (R q)) es)
lookup_put o q k v [] = refl
lookup_put {K = K} {X = X} {R = R} o q k v (e ∷ es) = by (R k e.0) refl (lookup_put o q k v es)
  where
    covered : (b c : Bool) (rest : Option X) → b ≡ c → cond b (Some v) rest ≡ cond c (Some v) (cond b (Some e.1) rest)
    covered true true rest p = refl
    covered false false rest p = refl
    covered true false rest p = absurd (cc)
    covered false true rest p = absurd (cc)

    apart : (b c : Bool) (rest : Option X) → (b ≡ true → c ≡ true → ⊥)
        → cond b (Some e.1) (cond c (Some v) rest) ≡ cond c (Some v) (cond b (Some e.1) rest)
    apart true true rest p = absurd (p refl refl)
    apart true false rest p = refl
    apart false true rest p = refl
    apart false false rest p = refl

    by : (r : Ordering) → R k e.0 ≡ r → lookup (is_at (R q)) (insert_entry R es k v)
        ≡ cond (is_at (R q) k) (Some v) (lookup (is_at (R q)) es)
        → lookup (is_at (R q)) (match_ordering r ((k, v) ∷ e ∷ es) ((e.0, v) ∷ es) (e ∷ insert_entry R es k v))
        ≡ cond (is_at (R q) k) (Some v) (lookup (is_at (R q)) (e ∷ es))
    by Less p later = refl
    by Equal p later = covered (is_eq (R q e.0)) (is_eq (R q k)) (lookup (is_at (R q)) es) (tie o k e.0 q p)
    by Greater p later =
        ap (λ found. cond (is_eq (R q e.0)) (Some e.1) found) later
        ∙ apart (is_eq (R q e.0)) (is_eq (R q k)) (lookup (is_at (R q)) es)
        (λ b c. let one : R q e.0 ≡ Equal = (Equal-is (R q e.0)).0 b in
        let two : R q e.0 ≡ R k e.0 = o.congr q k e.0 ((Equal-is (R q k)).0 c) in cc)

lookup_gone : {K X : Type 0} {R : K → K → Ordering} → IsTotalOrder R → CmpEqualImpliesEq R
    → (q k : K) (es : List (K × X)) → IsStrictlySortedBy R (keys_of es)
    → lookup (is_at (R q)) (remove_entry (is_at (R k)) es) ≡ cond (is_at (R k) q) None (lookup (is_at (R q)) es)
lookup_gone {R = R} o exact q k es sorted =
    lookup-remove_entry (eq_by_cmp_equiv o) (is_at (R k))
    (λ x y t. ap (λ z. eq_by_cmp R z y) (exact k x ((Equal-is (R k x)).0 t))) q es
    (IsDistinct-from_sorted R (keys_of es) sorted)

pub file_put : (files : Map) (q name : List ℕ) (file : Element)
    → element_at (with_element files name file) q ≡ cond (is_at (name_cmp q) name) (Some file) (element_at files q)
file_put files q name file = lookup_put nat_list_cmp_total q name file files

pub file_gone : (files : Map) (q name : List ℕ) → IsStrictlySortedBy name_cmp (keys_of files)
    → element_at (without files name) q ≡ cond (is_at (name_cmp name) q) None (element_at files q)
file_gone files q name sorted = lookup_gone nat_list_cmp_total exact_bytes q name files sorted

pub handle_put : (handles : Handles) (q number : ℕ) (handle : Handle)
    → handle_at (with_handle handles number handle) q ≡ cond (is_at (nat_cmp q) number) (Some handle)
    (handle_at handles q)
handle_put handles q number handle = lookup_put nat_cmp_total q number handle handles

pub handle_gone : (handles : Handles) (q number : ℕ) → IsStrictlySortedBy nat_cmp (keys_of handles)
    → handle_at (without_handle handles number) q ≡ cond (is_at (nat_cmp number) q) None (handle_at handles q)
handle_gone handles q number sorted = lookup_gone nat_cmp_total exact_unsigned q number handles sorted
