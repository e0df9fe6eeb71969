-- Facts on tests and options.
use Rattle.std.proofs.Common.{◌≡◌, ℕ, suc, ◌<◌, ◌≤◌, zero, Bool, true, false, List, [], ◌∷◌, ◌++◌, length, Option, Some}
use Rattle.std.proofs.Common.{None, refl, sym, ap, arith, inl, inr, get_or, drop, map, ◌-◌, ◌∙◌}
use Rattle.std.specs.Prelude.{◌⊎◌, ◌&&◌, not, nat_eq, slice_get, unwrap_or, is_some, option_map}
use Rattle.std.proofs.lemmas.Bool.{eqb-true}
use Rattle.std.proofs.lemmas.Option.{get_or_from_slice_get, slice_get-get_or, slice_get-map, slice_get_read}

pub not_false : false ≡ true → ⊥
not_false e = cc

pub is_false : (b : Bool) → (b ≡ true → ⊥) → b ≡ false
is_false true f = absurd (f refl)
is_false false f = refl

pub not_true : (b : Bool) → not b ≡ true → b ≡ false
not_true true e = absurd (not_false e)
not_true false e = refl

pub both_true : (a b : Bool) → (a && b) ≡ true → (a ≡ true) × (b ≡ true)
both_true true b e = (refl, e)
both_true false b e = absurd (not_false e)

pub true_both : (a b : Bool) → a ≡ true → b ≡ true → (a && b) ≡ true
true_both true b p q = q
true_both false b p q = absurd (not_false p)

pub not_none : {A : Type 0} (x : A) → Some x ≡ None → ⊥
not_none x e = cc

pub some_is : {A : Type 0} (x y : A) → Some x ≡ Some y → x ≡ y
some_is x y e = ap (λ o. unwrap_or o x) e

pub none_is : {A : Type 0} (o : Option A) → is_some o ≡ false → o ≡ None
none_is None e = refl
none_is (Some x) e = absurd (not_false (sym e))

-- ---- numbers

pub split : (i l : ℕ) → i ≤ l → (l ≡ i) ⊎ (suc i ≤ l)
split zero zero le = inl refl
split zero (suc l) le = inr (omega arith)
split (suc i) zero le = absurd (omega (arith, le))
split (suc i) (suc l) le = elim (split i l (omega (arith, le)))
    [ inl e ↦ inl (ap suc e) | inr h ↦ inr (omega (arith, h)) ]

pub compare : (i j : ℕ) → (i < j) ⊎ ((i ≡ j) ⊎ (j < i))
compare zero zero = inr (inl refl)
compare zero (suc j) = inl (omega arith)
compare (suc i) zero = inr (inr (omega arith))
compare (suc i) (suc j) = elim (compare i j) [
  | inl h ↦ inl (omega (arith, h))
  | inr e ↦
      elim e [ inl s ↦ inr (inl (ap suc s)) | inr h ↦ inr (inr (omega (arith, h))) ]
]

pub same_or_apart : (i j : ℕ) → (i ≡ j) ⊎ (i ≡ j → ⊥)
same_or_apart i j = elim (compare i j) [
  | inl less ↦ inr (λ e. omega (arith, less, e))
  | inr more ↦ elim more [ inl same ↦ inl same | inr greater ↦ inr (λ e. omega (arith, greater, e)) ]
]

pub less_not_equal : (k n : ℕ) → k < n → nat_eq k n ≡ false
less_not_equal k n lt = is_false (nat_eq k n) (λ is. let e : k ≡ n = eqb-true k n is in omega (arith, lt, e))

-- ---- lists

pub nil_of : (js : List ℕ) → length js ≡ 0 → js ≡ []
nil_of [] e = refl
nil_of (j ∷ js) e = absurd (omega (arith, e))

pub cons_of : (n : ℕ) (js : List ℕ) → length js ≡ suc n
    → (l : ℕ) × (rest : List ℕ) × (js ≡ l ∷ rest) × (length rest ≡ n)
cons_of n [] e = absurd (omega (arith, e))
cons_of n (j ∷ js) e = (j, js, refl, omega (arith, e))

-- an element of a list with one more at its end
pub at_end : {A : Type 0} (xs : List A) (y z : A) (n : ℕ) → slice_get (xs ++ y ∷ []) n ≡ Some z
    → (slice_get xs n ≡ Some z) ⊎ ((n ≡ length xs) × (y ≡ z))
at_end [] y z zero e = inr (refl, some_is y z e)
at_end [] y z (suc n) e = absurd (not_none z (sym e))
at_end (x ∷ xs) y z zero e = inl e
at_end (x ∷ xs) y z (suc n) e = elim (at_end xs y z n e) [ inl h ↦ inl h | inr h ↦ inr (ap suc h.0, h.1) ]

pub still_at : {A : Type 0} (xs ys : List A) (n : ℕ) (x : A) → slice_get xs n ≡ Some x → slice_get (xs ++ ys) n ≡ Some x
still_at [] ys n x e = absurd (not_none x (sym e))
still_at (y ∷ xs) ys zero x e = e
still_at (y ∷ xs) ys (suc n) x e = still_at xs ys n x e

pub last_at : {A : Type 0} (xs : List A) (x : A) → slice_get (xs ++ x ∷ []) (length xs) ≡ Some x
last_at [] x = refl
last_at (y ∷ xs) x = last_at xs x

pub read_as : {A : Type 0} (xs : List A) (n : ℕ) (x d : A) → n < length xs → x ≡ get_or xs n x → get_or xs n d ≡ x
read_as xs n x d within read = get_or_from_slice_get xs n x d (slice_get_read xs (length xs) n x refl within read)

pub no_last : {A : Type 0} (xs : List A) → slice_get xs (length xs - 1) ≡ None → length xs ≡ 0
no_last [] e = refl
no_last (x ∷ xs) e = absurd (not_none (get_or (x ∷ xs) (length (x ∷ xs) - 1) x)
    (sym (slice_get-get_or (x ∷ xs) (length (x ∷ xs) - 1) x (omega arith)) ∙ e))

-- an element of a list, and what is left from there
pub there_is : {A : Type 0} (xs : List A) (n : ℕ) → n < length xs
    → (x : A) × (slice_get xs n ≡ Some x) × (drop n xs ≡ x ∷ drop (suc n) xs)
there_is [] n within = absurd (omega (arith, within))
there_is (x ∷ xs) zero within = (x, refl, refl)
there_is (x ∷ xs) (suc n) within = there_is xs n (omega (arith, within))

pub mapped_at : {A B : Type 0} (f : A → B) (xs : List A) (n : ℕ) (x : A) → n < length xs → x ≡ get_or xs n x
    → slice_get (map f xs) n ≡ Some (f x)
mapped_at f xs n x within read = slice_get-map f xs n
    ∙ ap (λ o. option_map f o) (slice_get_read xs (length xs) n x refl within read)
