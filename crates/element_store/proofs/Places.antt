-- Lists by their places.
use Rattle.std.proofs.Common.{◌≡◌, ℕ, zero, suc, ◌+◌, ◌<◌, ◌≤◌, List, [], ◌∷◌, ◌++◌, length, get_or, map, take, refl}
use Rattle.std.proofs.Common.{ap, ◌∙◌, arith}
use Rattle.std.specs.Prelude.{sum_by}
use Rattle.std.specs.List.{AllByRecursion, AllZip, Contains, fold}
use Rattle.std.proofs.lemmas.List.Sums.{sum_by-append, sum_by-cons}
use Rattle.std.proofs.lemmas.List.{get_or_append_left, get_or_push, length_push}

pub same_default : {X : Type 0} (xs : List X) (k : ℕ) (a b : X) → k < length xs → get_or xs k a ≡ get_or xs k b
same_default [] k a b lt = absurd (omega (arith, lt))
same_default (x ∷ xs) zero a b lt = refl
same_default (x ∷ xs) (suc k) a b lt = same_default xs k a b (omega (arith, lt))

pub each_at : {X : Type 0} (P : X → Type 0) (xs : List X) (k : ℕ) (d : X) → AllByRecursion P xs → k < length xs
    → P (get_or xs k d)
each_at P [] k d all lt = absurd (omega (arith, lt))
each_at P (x ∷ xs) zero d all lt = all.0
each_at P (x ∷ xs) (suc k) d all lt = each_at P xs k d all.1 (omega (arith, lt))

pub each_both : {X : Type 0} (P Q R : X → Type 0) (xs : List X) → ((x : X) → P x → Q x → R x) → AllByRecursion P xs
    → AllByRecursion Q xs → AllByRecursion R xs
each_both P Q R [] to one two = tt
each_both P Q R (x ∷ xs) to one two = (to x one.0 two.0, each_both P Q R xs to one.1 two.1)

pub each_by_place : {X : Type 0} (P Q : X → Type 0) (xs : List X)
    → ((k : ℕ) (x : X) → k < length xs → get_or xs k x ≡ x → P x → Q x) → AllByRecursion P xs → AllByRecursion Q xs
each_by_place P Q [] to all = tt
each_by_place P Q (x ∷ xs) to all = (
  to 0 x (omega arith) refl all.0,
  each_by_place P Q xs (λ k y lt is p. to (suc k) y (omega (arith, lt)) is p) all.1,
)

pub each_through : {X : Type 0} (P : X → Type 0) (t : X → X) (xs : List X) → ((x : X) → P x → P (t x))
    → AllByRecursion P xs → AllByRecursion P (map t xs)
each_through P t [] to all = tt
each_through P t (x ∷ xs) to all = (to x all.0, each_through P t xs to all.1)

pub zip_at : {X Y : Type 0} (R : X → Y → Type 0) (xs : List X) (ys : List Y) (k : ℕ) (a : X) (b : Y) → AllZip R xs ys
    → k < length xs → R (get_or xs k a) (get_or ys k b)
zip_at R [] [] k a b zip lt = absurd (omega (arith, lt))
zip_at R [] (y ∷ ys) k a b zip lt = absurd zip
zip_at R (x ∷ xs) [] k a b zip lt = absurd zip
zip_at R (x ∷ xs) (y ∷ ys) zero a b zip lt = zip.0
zip_at R (x ∷ xs) (y ∷ ys) (suc k) a b zip lt = zip_at R xs ys k a b zip.1 (omega (arith, lt))

pub zip_length : {X Y : Type 0} (R : X → Y → Type 0) (xs : List X) (ys : List Y) → AllZip R xs ys
    → length xs ≡ length ys
zip_length R [] [] zip = refl
zip_length R [] (y ∷ ys) zip = absurd zip
zip_length R (x ∷ xs) [] zip = absurd zip
zip_length R (x ∷ xs) (y ∷ ys) zip = ap suc (zip_length R xs ys zip.1)

pub zip_map : {X Y : Type 0} (R S : X → Y → Type 0) (xs : List X) (ys : List Y) → ((x : X) (y : Y) → R x y → S x y)
    → AllZip R xs ys → AllZip S xs ys
zip_map R S [] [] to zip = tt
zip_map R S [] (y ∷ ys) to zip = absurd zip
zip_map R S (x ∷ xs) [] to zip = absurd zip
zip_map R S (x ∷ xs) (y ∷ ys) to zip = (to x y zip.0, zip_map R S xs ys to zip.1)

pub zip_through : {X Y : Type 0} (R : X → Y → Type 0) (t : X → X) (u : Y → Y) (xs : List X) (ys : List Y)
    → ((x : X) (y : Y) → R x y → R (t x) (u y)) → AllZip R xs ys → AllZip R (map t xs) (map u ys)
zip_through R t u [] [] to zip = tt
zip_through R t u [] (y ∷ ys) to zip = absurd zip
zip_through R t u (x ∷ xs) [] to zip = absurd zip
zip_through R t u (x ∷ xs) (y ∷ ys) to zip = (to x y zip.0, zip_through R t u xs ys to zip.1)

pub zip_by_place : {X Y : Type 0} (R S : X → Y → Type 0) (xs : List X) (ys : List Y)
    → ((k : ℕ) (x : X) (y : Y) → k < length xs → k < length ys → get_or xs k x ≡ x → get_or ys k y ≡ y → R x y → S x y)
    → AllZip R xs ys → AllZip S xs ys
zip_by_place R S [] [] to zip = tt
zip_by_place R S [] (y ∷ ys) to zip = absurd zip
zip_by_place R S (x ∷ xs) [] to zip = absurd zip
zip_by_place R S (x ∷ xs) (y ∷ ys) to zip = (
  to 0 x y (omega arith) (omega arith) refl refl zip.0,
  zip_by_place R S xs ys (λ k a b lt less is too r.
      to (suc k) a b (omega (arith, lt)) (omega (arith, less)) is too r) zip.1,
)

pub in_front : {X : Type 0} (xs : List X) (x y : X) → Contains xs y → Contains (xs ++ x ∷ []) y
in_front xs x y has = (
  has.0,
  (let l = length_push xs x in let lt = has.1 in omega (arith, l, lt)),
  get_or_append_left xs (x ∷ []) y has.0 has.1 ∙ has.2,
)

pub at_last : {X : Type 0} (xs : List X) (x : X) → Contains (xs ++ x ∷ []) x
at_last xs x = (length xs, (let l = length_push xs x in omega (arith, l)), get_or_push xs x x (length xs) refl)

pub sum_push : {X : Type 0} (f : X → ℕ) (xs : List X) (x : X) → sum_by f (xs ++ x ∷ []) ≡ sum_by f xs + f x
sum_push f xs x = let a = sum_by-append f xs (x ∷ []) in let b = sum_by-cons f x [] in omega (arith, a, b)

pub sum_take : {X : Type 0} (f : X → ℕ) (n : ℕ) (xs : List X) → sum_by f (take n xs) ≤ sum_by f xs
sum_take f zero xs = omega arith
sum_take f (suc n) [] = omega arith
sum_take f (suc n) (x ∷ xs) =
    let a = sum_by-cons f x (take n xs) in
    let b = sum_by-cons f x xs in
    let c = sum_take f n xs in
    omega (arith, a, b, c)

pub fold_push : {X Y : Type 0} (f : Y → X → Y) (a : Y) (xs : List X) (x : X)
    → fold f a (xs ++ x ∷ []) ≡ f (fold f a xs) x
fold_push f a [] x = refl
fold_push f a (y ∷ xs) x = fold_push f (f a y) xs x
