-- Membership in lists, by recursion, and tests over lists.
use Rattle.std.proofs.Common.{◌≡◌, ℕ, zero, suc, ◌<◌, ◌⊎◌, Bool, true, false, ◌&&◌, not, List, [], ◌∷◌, ◌++◌, length}
use Rattle.std.proofs.Common.{Option, Some, None, refl, sym, ap, subst, ◌∙◌, inl, inr, arith}
use Rattle.std.specs.Prelude.{map, filter_map, ◌||◌, slice_index_or, is_some}
use Rattle.std.specs.List.{AllByRecursion, list_any, list_all, cons_option, AllZip, Contains, flat_map}

abbrev pub In : {A : Type 0} → A → List A → Type 0
In x [] = ⊥
In x (y ∷ ys) = (y ≡ x) ⊎ In x ys

pub not_none : {A : Type 0} (x : A) → Some x ≡ None → ⊥
not_none x e = cc

pub some_is : {A : Type 0} (x y : A) → Some x ≡ Some y → x ≡ y
some_is x y e = cc

pub not_false : false ≡ true → ⊥
not_false e = cc

pub both_true : (a b : Bool) → (a && b) ≡ true → (a ≡ true) × (b ≡ true)
both_true true b e = (refl, e)
both_true false b e = absurd (not_false e)

pub true_both : (a b : Bool) → a ≡ true → b ≡ true → (a && b) ≡ true
true_both true b p q = q
true_both false b p q = absurd (not_false p)

pub or_false : (a b : Bool) → (a || b) ≡ false → (a ≡ false) × (b ≡ false)
or_false true b e = absurd (not_false (sym e))
or_false false b e = (refl, e)

pub or_true : (a b : Bool) → (a || b) ≡ true → (a ≡ true) ⊎ (b ≡ true)
or_true true b e = inl refl
or_true false b e = inr e

pub true_or : (a b : Bool) → (a ≡ true) ⊎ (b ≡ true) → (a || b) ≡ true
true_or true b e = refl
true_or false b (inl e) = absurd (not_false e)
true_or false b (inr e) = e

pub not_is_false : (b : Bool) → not b ≡ false → b ≡ true
not_is_false true e = refl
not_is_false false e = absurd (not_false (sym e))

pub false_not_true : (b : Bool) → (b ≡ true → ⊥) → b ≡ false
false_not_true true h = absurd (h refl)
false_not_true false h = refl

pub there_is : {A : Type 0} (o : Option A) → is_some o ≡ true → (x : A) × (o ≡ Some x)
there_is None e = absurd (not_false e)
there_is (Some x) e = (x, refl)

-- ---- std's membership and this one

pub Contains-head : {A : Type 0} (x y : A) (ys : List A) → y ≡ x → Contains (y ∷ ys) x
Contains-head x y ys e = (0, omega arith, e)

pub Contains-later : {A : Type 0} (x y : A) (ys : List A) → Contains ys x → Contains (y ∷ ys) x
Contains-later x y ys c = let (k, lt, e) = c in (suc k, omega (arith, lt), e)

pub In-Contains : {A : Type 0} (x : A) (xs : List A) → In x xs → Contains xs x
In-Contains x [] h = absurd h
In-Contains x (y ∷ ys) (inl e) = Contains-head x y ys e
In-Contains x (y ∷ ys) (inr h) = Contains-later x y ys (In-Contains x ys h)

pub Contains-In : {A : Type 0} (x : A) (xs : List A) → Contains xs x → In x xs
Contains-In {A} x xs c = go xs c.0 c.1 c.2
  where
    go : (ys : List A) (k : ℕ) → k < length ys → slice_index_or ys k x ≡ x → In x ys
    go [] k lt e = absurd (omega (arith, lt))
    go (y ∷ ys) zero lt e = inl e
    go (y ∷ ys) (suc k) lt e = inr (go ys k (omega (arith, lt)) e)

-- ---- laws

pub In-append : {A : Type 0} (x : A) (xs ys : List A) → In x (xs ++ ys) → In x xs ⊎ In x ys
In-append x [] ys h = inr h
In-append x (y ∷ xs) ys (inl e) = inl (inl e)
In-append x (y ∷ xs) ys (inr h) = elim (In-append x xs ys h) [ inl k ↦ inl (inr k) | inr k ↦ inr k ]

pub append-In : {A : Type 0} (x : A) (xs ys : List A) → In x xs ⊎ In x ys → In x (xs ++ ys)
append-In x [] ys (inl h) = absurd h
append-In x [] ys (inr h) = h
append-In x (y ∷ xs) ys (inl (inl e)) = inl e
append-In x (y ∷ xs) ys (inl (inr h)) = inr (append-In x xs ys (inl h))
append-In x (y ∷ xs) ys (inr h) = inr (append-In x xs ys (inr h))

pub In-map : {A B : Type 0} (f : A → B) (y : B) (xs : List A) → In y (map f xs) → (x : A) × In x xs × (f x ≡ y)
In-map f y [] h = absurd h
In-map f y (x ∷ xs) (inl e) = (x, inl refl, e)
In-map f y (x ∷ xs) (inr h) = let r = In-map f y xs h in (r.0, inr r.1, r.2)

pub map-In : {A B : Type 0} (f : A → B) (x : A) (xs : List A) → In x xs → In (f x) (map f xs)
map-In f x [] h = absurd h
map-In f x (y ∷ xs) (inl e) = inl (ap f e)
map-In f x (y ∷ xs) (inr h) = inr (map-In f x xs h)

pub In-cons_option : {A : Type 0} (x : A) (o : Option A) (xs : List A) → In x (cons_option o xs)
    → (o ≡ Some x) ⊎ In x xs
In-cons_option x None xs h = inr h
In-cons_option x (Some y) xs (inl e) = inl (ap (λ z. Some z) e)
In-cons_option x (Some y) xs (inr h) = inr h

pub cons_option-In : {A : Type 0} (x : A) (o : Option A) (xs : List A) → (o ≡ Some x) ⊎ In x xs
    → In x (cons_option o xs)
cons_option-In x None xs (inl e) = absurd (not_none x (sym e))
cons_option-In x None xs (inr h) = h
cons_option-In x (Some y) xs (inl e) = inl (some_is y x e)
cons_option-In x (Some y) xs (inr h) = inr h

pub In-filter_map : {A B : Type 0} (f : A → Option B) (y : B) (xs : List A) → In y (filter_map f xs)
    → (x : A) × In x xs × (f x ≡ Some y)
In-filter_map f y [] h = absurd h
In-filter_map f y (x ∷ xs) h = elim (In-cons_option y (f x) (filter_map f xs) h) [
  | inl e ↦ (x, inl refl, e)
  | inr k ↦ let r = In-filter_map f y xs k in (r.0, inr r.1, r.2)
]

pub filter_map-In : {A B : Type 0} (f : A → Option B) (x : A) (y : B) (xs : List A) → In x xs → f x ≡ Some y
    → In y (filter_map f xs)
filter_map-In f x y [] h e = absurd h
filter_map-In f x y (z ∷ xs) (inl same) e = cons_option-In y (f z) (filter_map f xs) (inl (ap f same ∙ e))
filter_map-In f x y (z ∷ xs) (inr h) e = cons_option-In y (f z) (filter_map f xs) (inr (filter_map-In f x y xs h e))

pub flat_map-In : {A B : Type 0} (f : A → List B) (x : A) (y : B) (xs : List A) → In x xs → In y (f x)
    → In y (flat_map f xs)
flat_map-In f x y [] h k = absurd h
flat_map-In f x y (z ∷ xs) (inl same) k = append-In y (f z) (flat_map f xs) (inl (subst (λ w. In y (f w)) (sym same) k))
flat_map-In f x y (z ∷ xs) (inr h) k = append-In y (f z) (flat_map f xs) (inr (flat_map-In f x y xs h k))

pub list_any-In : {A : Type 0} (test : A → Bool) (xs : List A) → list_any test xs ≡ true
    → (x : A) × In x xs × (test x ≡ true)
list_any-In test [] e = absurd (not_false e)
list_any-In test (x ∷ xs) e = elim (or_true (test x) (list_any test xs) e) [
  | inl is ↦ (x, inl refl, is)
  | inr rest ↦ let r = list_any-In test xs rest in (r.0, inr r.1, r.2)
]

pub In-list_any : {A : Type 0} (test : A → Bool) (x : A) (xs : List A) → In x xs → test x ≡ true
    → list_any test xs ≡ true
In-list_any test x [] h is = absurd h
In-list_any test x (y ∷ xs) (inl same) is = true_or (test y) (list_any test xs) (inl (ap test same ∙ is))
In-list_any test x (y ∷ xs) (inr h) is = true_or (test y) (list_any test xs) (inr (In-list_any test x xs h is))

pub none_any : {A : Type 0} (test : A → Bool) (xs : List A) → list_any test xs ≡ false → (x : A) → In x xs
    → test x ≡ false
none_any test [] e x h = absurd h
none_any test (y ∷ xs) e x (inl same) = subst (λ z. test z ≡ false) same (or_false (test y) (list_any test xs) e).0
none_any test (y ∷ xs) e x (inr h) = none_any test xs (or_false (test y) (list_any test xs) e).1 x h

pub list_all-In : {A : Type 0} (test : A → Bool) (x : A) (xs : List A) → list_all test xs ≡ true → In x xs
    → test x ≡ true
list_all-In test x [] e h = absurd h
list_all-In test x (y ∷ xs) e (inl same) = subst (λ z. test z ≡ true) same (both_true (test y) (list_all test xs) e).0
list_all-In test x (y ∷ xs) e (inr h) = list_all-In test x xs (both_true (test y) (list_all test xs) e).1 h

pub In-list_all : {A : Type 0} (test : A → Bool) (xs : List A) → ((x : A) → In x xs → test x ≡ true)
    → list_all test xs ≡ true
In-list_all test [] h = refl
In-list_all test (x ∷ xs) h = true_both (test x) (list_all test xs) (h x (inl refl))
    (In-list_all test xs (λ y k. h y (inr k)))

pub zip_map : {X A B : Type 0} (R : A → B → Type 0) (f : X → A) (g : X → B) (xs : List X)
    → ((x : X) → In x xs → R (f x) (g x)) → AllZip R (map f xs) (map g xs)
zip_map R f g [] h = tt
zip_map R f g (x ∷ xs) h = (h x (inl refl), zip_map R f g xs (λ y k. h y (inr k)))

pub zip_right : {X B : Type 0} (R : X → B → Type 0) (g : X → B) (xs : List X) → ((x : X) → In x xs → R x (g x))
    → AllZip R xs (map g xs)
zip_right R g [] h = tt
zip_right R g (x ∷ xs) h = (h x (inl refl), zip_right R g xs (λ y k. h y (inr k)))

pub zip_left : {A B C : Type 0} (R : C → B → Type 0) (f : A → C) (xs : List A) (ys : List B)
    → AllZip (λ x y. R (f x) y) xs ys → AllZip R (map f xs) ys
zip_left R f [] [] h = tt
zip_left R f [] (y ∷ ys) h = absurd h
zip_left R f (x ∷ xs) [] h = absurd h
zip_left R f (x ∷ xs) (y ∷ ys) h = (h.0, zip_left R f xs ys h.1)

pub zip_with : {A B : Type 0} (P Q : A → B → Type 0) (xs : List A) (ys : List B)
    → ((x : A) (y : B) → In x xs → In y ys → P x y → Q x y) → AllZip P xs ys → AllZip Q xs ys
zip_with P Q [] [] h z = tt
zip_with P Q [] (y ∷ ys) h z = absurd z
zip_with P Q (x ∷ xs) [] h z = absurd z
zip_with P Q (x ∷ xs) (y ∷ ys) h z = (
  h x y (inl refl) (inl refl) z.0,
  zip_with P Q xs ys (λ a b i j. h a b (inr i) (inr j)) z.1,
)

pub zip_both : {A B : Type 0} (P Q : A → B → Type 0) (xs : List A) (ys : List B) → AllZip P xs ys → AllZip Q xs ys
    → AllZip (λ x y. P x y × Q x y) xs ys
zip_both P Q [] [] p q = tt
zip_both P Q [] (y ∷ ys) p q = absurd p
zip_both P Q (x ∷ xs) [] p q = absurd p
zip_both P Q (x ∷ xs) (y ∷ ys) p q = ((p.0, q.0), zip_both P Q xs ys p.1 q.1)

pub all_by : {A : Type 0} (P : A → Type 0) (xs : List A) → ((x : A) → In x xs → P x) → AllByRecursion P xs
all_by P [] h = tt
all_by P (x ∷ xs) h = (h x (inl refl), all_by P xs (λ y k. h y (inr k)))

pub all_in : {A : Type 0} (P : A → Type 0) (xs : List A) → AllByRecursion P xs → (x : A) → In x xs → P x
all_in P [] all x h = absurd h
all_in P (y ∷ xs) all x (inl e) = subst P e all.0
all_in P (y ∷ xs) all x (inr h) = all_in P xs all.1 x h

-- what pairs with an item
pub zip_find : {A B : Type 0} (R : A → B → Type 0) (xs : List A) (ys : List B) (x : A) → AllZip R xs ys → In x xs
    → (y : B) × In y ys × R x y
zip_find R [] ys x z h = absurd h
zip_find R (a ∷ xs) [] x z h = absurd z
zip_find R (a ∷ xs) (b ∷ ys) x z (inl e) = (b, inl refl, subst (λ w. R w b) e z.0)
zip_find R (a ∷ xs) (b ∷ ys) x z (inr h) = let r = zip_find R xs ys x z.1 h in (r.0, inr r.1, r.2)

-- a list of nothing has no number
pub nothing_listed : (c : ℕ) → Contains {X = ℕ} [] c → ⊥
nothing_listed c h = let lt = h.1 in omega (arith, lt)
