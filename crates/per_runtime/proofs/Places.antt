-- Things stored under numbers, one of them set; and a result that was tested.
use Rattle.std.specs.Prelude.{◌≡◌, ◌≢◌, ◌⊎◌, ◌<◌, ℕ, zero, suc, List, [], ◌∷◌, length, true, false, Some, None, Result}
use Rattle.std.specs.Prelude.{Ok, Err, is_err, OnErr, OnOk, slice_get, slice_set}
use Rattle.std.proofs.Common.{refl, sym, ap, inl, inr, ⊎_elim, arith, true≢false}

pub none_some : {A : Type 0} → (x : A) → None ≡ Some x → ⊥
none_some x e = cc

pub get_set : {A : Type 0} → (xs : List A) (n : ℕ) (x : A) → n < length xs → slice_get (slice_set xs n x) n ≡ Some x
get_set [] n x less = absurd (omega (arith, less))
get_set (y ∷ ys) zero x less = refl
get_set (y ∷ ys) (suc n) x less = get_set ys n x (omega (arith, less))

pub get_set_other : {A : Type 0} → (xs : List A) (n k : ℕ) (x : A) → k ≢ n
    → slice_get (slice_set xs n x) k ≡ slice_get xs k
get_set_other [] n k x differs = refl
get_set_other (y ∷ ys) zero zero x differs = absurd (differs refl)
get_set_other (y ∷ ys) zero (suc k) x differs = refl
get_set_other (y ∷ ys) (suc n) zero x differs = refl
get_set_other (y ∷ ys) (suc n) (suc k) x differs = get_set_other ys n k x (λ e. differs (ap suc e))

-- what is there, set again, changes nothing
pub set_same : {A : Type 0} → (xs : List A) (n : ℕ) (x : A) → slice_get xs n ≡ Some x → slice_set xs n x ≡ xs
set_same [] n x e = refl
set_same {A} (y ∷ ys) zero x e = let it : x ≡ y = cc in ap (λ (z : A). z ∷ ys) it
set_same {A} (y ∷ ys) (suc n) x e = ap (λ (zs : List A). y ∷ zs) (set_same ys n x e)

pub some_is : {A : Type 0} → (x y : A) → Some x ≡ Some y → x ≡ y
some_is x y e = cc

-- numbers that differ
pub less_or_more : (n k : ℕ) → n ≢ k → (n < k) ⊎ (k < n)
less_or_more zero zero differs = absurd (differs refl)
less_or_more zero (suc k) differs = inl (omega arith)
less_or_more (suc n) zero differs = inr (omega arith)
less_or_more (suc n) (suc k) differs = ⊎_elim (λ less. inl (omega (arith, less))) (λ more. inr (omega (arith, more)))
    (less_or_more n k (λ e. differs (ap suc e)))

-- ---- a result that was tested

pub on_err : {T E P : Type 0} → (r : Result T E) → is_err r ≡ true → OnErr r P → P
on_err (Ok x) is p = absurd (true≢false (sym is))
on_err (Err e) is p = p

pub on_ok : {T E P : Type 0} → (r : Result T E) → is_err r ≡ false → OnOk r P → P
on_ok (Ok x) is p = p
on_ok (Err e) is p = absurd (true≢false is)
