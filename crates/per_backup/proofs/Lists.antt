-- Places of lists, and results.
use Rattle.std.proofs.Common.{◌≡◌, ℕ, zero, suc, ◌+◌, ◌<◌, ◌≤◌, List, [], ◌∷◌, ◌++◌, length, get_or, drop, Option, Some}
use Rattle.std.proofs.Common.{None, Result, Ok, Err, slice_get, slice_set, refl, sym, ap, ◌∙◌, subst, arith}
use Rattle.std.specs.Prelude.{IfErr, IfOk, IfSome}
use Rattle.std.specs.List.{AllByRecursion}

pub get_set : {A : Type 0} (xs : List A) (n : ℕ) (x y : A) → slice_get xs n ≡ Some y
    → slice_get (slice_set xs n x) n ≡ Some x
get_set [] n x y is = absurd cc
get_set (z ∷ zs) zero x y is = refl
get_set (z ∷ zs) (suc n) x y is = get_set zs n x y is

-- what stands there, set again
pub set_same : {A : Type 0} (xs : List A) (n : ℕ) (x : A) → slice_get xs n ≡ Some x → slice_set xs n x ≡ xs
set_same [] n x is = refl
set_same (y ∷ ys) zero x is = let e : y ≡ x = grind arith in ap (λ z. z ∷ ys) (sym e)
set_same (y ∷ ys) (suc n) x is = ap (λ zs. y ∷ zs) (set_same ys n x is)

pub get_append : {A : Type 0} (xs ys : List A) (n : ℕ) (x : A) → slice_get xs n ≡ Some x
    → slice_get (xs ++ ys) n ≡ Some x
get_append [] ys n x is = absurd cc
get_append (z ∷ zs) ys zero x is = is
get_append (z ∷ zs) ys (suc n) x is = get_append zs ys n x is

pub all_at : {A : Type 0} (P : A → Type 0) (xs : List A) (n : ℕ) (x : A) → AllByRecursion P xs → slice_get xs n ≡ Some x
    → P x
all_at P [] n x every is = absurd cc
all_at P (y ∷ ys) zero x every is = let e : y ≡ x = grind arith in subst P e every.0
all_at P (y ∷ ys) (suc n) x every is = all_at P ys n x every.1 is

pub length_set : {A : Type 0} (xs : List A) (n : ℕ) (x : A) → length (slice_set xs n x) ≡ length xs
length_set [] n x = refl
length_set (y ∷ ys) zero x = refl
length_set (y ∷ ys) (suc n) x = let e = length_set ys n x in omega (arith, e)

-- an item of a list, and what is left from there
pub item_at : {A : Type 0} (xs : List A) (i : ℕ) (x : A) → i < length xs → x ≡ get_or xs i x
    → drop i xs ≡ x ∷ drop (suc i) xs
item_at [] i x lt e = absurd (omega (arith, lt))
item_at (y ∷ ys) zero x lt e = ap (λ z. z ∷ ys) (sym e)
item_at (y ∷ ys) (suc i) x lt e = item_at ys i x (omega (arith, lt)) e

pub dropped_all : {A : Type 0} (xs : List A) (i : ℕ) → length xs ≤ i → drop i xs ≡ []
dropped_all [] zero le = refl
dropped_all [] (suc i) le = refl
dropped_all (x ∷ xs) zero le = absurd (omega (arith, le))
dropped_all (x ∷ xs) (suc i) le = dropped_all xs i (omega (arith, le))

-- ---- results

pub ok_same : {X E : Type 0} (x y : X) → ◌≡◌ {A = Result X E} (Ok x) (Ok y) → x ≡ y
ok_same x y is = cc

pub no_ok : {X E : Type 0} (e : E) (x : X) → ◌≡◌ {A = Result X E} (Err e) (Ok x) → ⊥
no_ok e x is = absurd cc

pub no_err : {X E : Type 0} (e : E) (x : X) → ◌≡◌ {A = Result X E} (Ok x) (Err e) → ⊥
no_err e x is = absurd cc

pub some_same : {X : Type 0} (x y : X) → Some x ≡ Some y → x ≡ y
some_same x y is = cc

pub ok_so : {X E : Type 0} (r : Result X E) (x : X) (P : X → Type 0) → r ≡ Ok x → IfOk r P → P x
ok_so {X} {E} r x P is given = subst (λ (y : Result X E). IfOk y P) is given

pub err_so : {X E : Type 0} (r : Result X E) (e : E) (P : E → Type 0) → r ≡ Err e → IfErr r P → P e
err_so {X} {E} r e P is given = subst (λ (y : Result X E). IfErr y P) is given

pub some_weaker : {X : Type 0} (o : Option X) (P Q : X → Type 0) → ((x : X) → P x → Q x) → IfSome o P → IfSome o Q
some_weaker None P Q leads p = tt
some_weaker (Some x) P Q leads p = leads x p
