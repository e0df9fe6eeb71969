-- Lists that come to nothing.
use Rattle.std.proofs.Common.{◌≡◌, ℕ, zero, suc, ◌+◌, ◌<◌, ◌≤◌, List, [], ◌∷◌, ◌++◌, refl, sym, ap, ◌∙◌, subst, ⊎_elim}
use Rattle.std.proofs.Common.{arith}
use Rattle.std.specs.List.{flat_map, range_with_len}
use Rattle.std.proofs.lemmas.Bool.{cases_lt}

pub nil_left : {A : Type 0} (xs ys : List A) → xs ++ ys ≡ [] → xs ≡ []
nil_left [] ys e = refl
nil_left (x ∷ xs) ys e = let some : x ∷ (xs ++ ys) ≡ [] = e in cc

pub nil_right : {A : Type 0} (xs ys : List A) → xs ++ ys ≡ [] → ys ≡ []
nil_right [] ys e = e
nil_right (x ∷ xs) ys e = let some : x ∷ (xs ++ ys) ≡ [] = e in cc

pub nil_join : {A : Type 0} (xs ys : List A) → xs ≡ [] → ys ≡ [] → xs ++ ys ≡ []
nil_join xs ys e f = ap (λ zs. zs ++ ys) e ∙ f

-- what maps to nothing item by item
pub flat_silent : {X A B : Type 0} (f : X → List A) (g : X → List B) → ((x : X) → f x ≡ [] → g x ≡ []) → (xs : List X)
    → flat_map f xs ≡ [] → flat_map g xs ≡ []
flat_silent f g silent [] e = refl
flat_silent f g silent (x ∷ xs) e = nil_join (g x) (flat_map g xs) (silent x (nil_left (f x) (flat_map f xs) e))
    (flat_silent f g silent xs (nil_right (f x) (flat_map f xs) e))

pub range_silent : {A : Type 0} (f : ℕ → List A) (from n k : ℕ) → flat_map f (range_with_len from n) ≡ [] → from ≤ k
    → k < from + n → f k ≡ []
range_silent f from zero k e low high = absurd (omega (arith, low, high))
range_silent f from (suc n) k e low high = ⊎_elim
    (λ later. range_silent f (from + 1) n k (nil_right (f from) (flat_map f (range_with_len (from + 1) n)) e)
    (omega (arith, later)) (omega (arith, high)))
    (λ here. let same : from ≡ k = omega (arith, low, here) in
    subst (λ i. f i ≡ []) same (nil_left (f from) (flat_map f (range_with_len (from + 1) n)) e))
    (cases_lt from k)

pub all_silent : {A : Type 0} (f : ℕ → List A) (from n : ℕ) → ((k : ℕ) → from ≤ k → k < from + n → f k ≡ [])
    → flat_map f (range_with_len from n) ≡ []
all_silent f from zero silent = refl
all_silent f from (suc n) silent = nil_join (f from) (flat_map f (range_with_len (from + 1) n))
    (silent from (omega arith) (omega arith))
    (all_silent f (from + 1) n (λ k low high. silent k (omega (arith, low)) (omega (arith, high))))

-- ---- numbers, one after another

range_more : (from n : ℕ) → range_with_len from (suc n) ≡ range_with_len from n ++ (from + n) ∷ []
range_more from zero = let same : from ≡ from + 0 = omega arith in ap (λ m. m ∷ []) same
range_more from (suc n) =
    let same : from + 1 + n ≡ from + suc n = omega arith in
    ap (λ ms. from ∷ ms) (range_more (from + 1) n ∙ ap (λ m. range_with_len (from + 1) n ++ m ∷ []) same)

pub one_more : (n : ℕ) (xs : List ℕ) → xs ≡ range_with_len 1 n → xs ++ (n + 1) ∷ [] ≡ range_with_len 1 (n + 1)
one_more n xs e =
    let same : n + 1 ≡ 1 + n = omega arith in
    let next : suc n ≡ n + 1 = omega arith in
    ap (λ ys. ys ++ (n + 1) ∷ []) e ∙ ap (λ m. range_with_len 1 n ++ m ∷ []) same ∙ sym (range_more 1 n)
    ∙ ap (λ m. range_with_len 1 m) next
