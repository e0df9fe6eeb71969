-- One number more of a range from 1 on.
use Rattle.std.proofs.Common.{◌≡◌, ℕ, ◌+◌, List, [], ◌∷◌, ◌++◌, map, refl, sym, ap, ◌∙◌, arith}
use Rattle.std.specs.List.{range_with_len}
use Rattle.std.proofs.lemmas.List.FromFn.{map-range_with_len_more}

map_same : (xs : List ℕ) → map (λ (x : ℕ). x) xs ≡ xs
map_same [] = refl
map_same (x ∷ xs) = ap (λ (ys : List ℕ). x ∷ ys) (map_same xs)

pub one_more : (n : ℕ) (xs : List ℕ) → xs ≡ range_with_len 1 n → xs ++ (n + 1) ∷ [] ≡ range_with_len 1 (n + 1)
one_more n xs is =
    ap (λ (ys : List ℕ). ys ++ (n + 1) ∷ []) (is ∙ sym (map_same (range_with_len 1 n)))
    ∙ sym (map-range_with_len_more (λ (x : ℕ). x) 1 n (n + 1) (omega arith))
    ∙ map_same (range_with_len 1 (n + 1))
