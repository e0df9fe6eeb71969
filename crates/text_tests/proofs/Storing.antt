-- What is installed is stored as a storage is read.
use Rattle.std.proofs.Common.{◌≡◌, ◌+◌, ◌<◌, ◌≤◌, ℕ, zero, suc, Bool, true, false, List, length, get_or, take, arith}
use Rattle.std.proofs.Common.{[], ◌∷◌, ◌++◌, map, Some, refl, sym, ap, subst, ◌∙◌}
use Rattle.std.proofs.lemmas.List.{take_all}
use Rattle.std.specs.List.{AllByRecursion, AllZip}
use Rattle.std.specs.List.Sorted.{IsStrictlySortedBy}
use Rattle.per_base.specs.declared.elements.Entry.{Entry}
use Rattle.per_base.specs.declared.elements.Fresh.{Fresh}
use Rattle.per_base.specs.declared.elements.StoreKind.{StoreKind}
use Rattle.per_base.specs.Names.{name_cmp}
use Rattle.index_text.specs.Contents.{AreContents, SuitsKind}
use Rattle.update_plan.specs.Plans.{AreStored, IsStoredEntry}
use Rattle.text_tests.specs.Stores.{Stores}

same_names : (made : List Fresh) (es : List Entry) → AllZip Stores made es
    → map (λ (e : Entry). e.name) es ≡ map (λ (x : Fresh). x.name) made
same_names [] [] h = refl
same_names [] (e ∷ es) h = absurd h
same_names (x ∷ xs) [] h = absurd h
same_names (x ∷ xs) (e ∷ es) h = ap (λ n. n ∷ map (λ (e : Entry). e.name) es) h.0.named
    ∙ ap (λ ns. x.name ∷ ns) (same_names xs es h.1)

each_stored : (kind : StoreKind) (made : List Fresh) (es : List Entry) → AllZip Stores made es
    → AllByRecursion (SuitsKind kind) made → AllByRecursion (IsStoredEntry kind) es
each_stored kind [] [] h all = tt
each_stored kind [] (e ∷ es) h all = absurd h
each_stored kind (x ∷ xs) [] h all = absurd h
each_stored kind (x ∷ xs) (e ∷ es) h all = (h.0.stored kind all.0, each_stored kind xs es h.1 all.1)

pub are_stored : (kind : StoreKind) (maximum : ℕ) (made : List Fresh) (es : List Entry) → AllZip Stores made es
    → AreContents kind maximum made → AreStored kind es
are_stored kind maximum made es h contents = record {
  names_ascend = subst (IsStrictlySortedBy name_cmp) (sym (same_names made es h)) contents.names_ascend;
  each = each_stored kind made es h contents.each;
}

-- what holds of the images of all holds of the image of an item
pub of_item : {A B : Type 0} (P : B → Type 0) (f : A → B) (xs : List A) (i : ℕ) (x : A) → AllByRecursion P (map f xs)
    → i < length xs → x ≡ get_or xs i x → P (f x)
of_item P f [] i x all lt e = absurd (omega (arith, lt))
of_item P f (y ∷ ys) zero x all lt e = subst (λ z. P (f z)) (sym e) all.0
of_item P f (y ∷ ys) (suc i) x all lt e = of_item P f ys i x all.1 (omega (arith, lt)) e

more_zipped : {A B : Type 0} (R : A → B → Type 0) (xs : List A) (i : ℕ) (x : A) (ys : List B) (y : B)
    → AllZip R (take i xs) ys → i < length xs → x ≡ get_or xs i x → R x y → AllZip R (take (suc i) xs) (ys ++ y ∷ [])
more_zipped R [] i x ys y zipped lt e here = absurd (omega (arith, lt))
more_zipped R (z ∷ zs) zero x [] y zipped lt e here = (subst (λ w. R w y) e here, tt)
more_zipped R (z ∷ zs) zero x (w ∷ ws) y zipped lt e here = absurd zipped
more_zipped R (z ∷ zs) (suc i) x [] y zipped lt e here = absurd zipped
more_zipped R (z ∷ zs) (suc i) x (w ∷ ws) y zipped lt e here =
    (zipped.0, more_zipped R zs i x ws y zipped.1 (omega (arith, lt)) e here)

-- one item more, with its partner
pub zip_more : {A B : Type 0} (R : A → B → Type 0) (xs : List A) (i : ℕ) (x : A) (ys : List B) (y : B)
    → AllZip R (take i xs) ys → i < length xs → x ≡ get_or xs i x → R x y → AllZip R (take (i + 1) xs) (ys ++ y ∷ [])
zip_more R xs i x ys y zipped lt e here =
    let next : suc i ≡ i + 1 = omega arith in
    subst (λ j. AllZip R (take j xs) (ys ++ y ∷ [])) next (more_zipped R xs i x ys y zipped lt e here)

-- all items, with their partners
pub zip_all : {A B : Type 0} (R : A → B → Type 0) (xs : List A) (i : ℕ) (ys : List B) → AllZip R (take i xs) ys
    → length xs ≤ i → AllZip R xs ys
zip_all R xs i ys zipped past = subst (λ zs. AllZip R zs ys) (take_all i xs past) zipped
