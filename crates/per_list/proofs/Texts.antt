-- Texts that are put together piece by piece.
use Rattle.std.proofs.Common.{◌≡◌, ℕ, suc, ◌+◌, ◌-◌, ◌<◌, ◌≤◌, List, ◌++◌, sym, ap, ◌∙◌, arith}
use Rattle.std.specs.List.{flat_map, range_with_len}
use Rattle.std.proofs.lemmas.List.{append-nil, append_assoc}

-- ---- a piece for each number

-- what is there and what the numbers from one on come to is what was there at first and what all of them come to
abbrev pub Left : (f : ℕ → List ℕ) → (total number : ℕ) → (start now : List ℕ) → Type 0
Left f total number start now =
    now ++ flat_map f (range_with_len number (total - number)) ≡ start ++ flat_map f (range_with_len 0 total)

pub left_more : (f : ℕ → List ℕ) (total number : ℕ) (start now new : List ℕ) → number < total
    → Left f total number start now → new ≡ now ++ f number
    → Left f total (number + 1) start new
left_more f total number start now new lt left added =
    let rest = flat_map f (range_with_len (number + 1) (total - (number + 1))) in
    let one : total - number ≡ suc (total - (number + 1)) = omega (arith, lt) in
    ap (λ (xs : List ℕ). xs ++ rest) added
    ∙ append_assoc now (f number) rest
    ∙ sym (ap (λ n. now ++ flat_map f (range_with_len number n)) one)
    ∙ left

pub left_all : (f : ℕ → List ℕ) (total number : ℕ) (start now : List ℕ) → total ≤ number
    → Left f total number start now
    → now ≡ start ++ flat_map f (range_with_len 0 total)
left_all f total number start now past left =
    let none : total - number ≡ 0 = omega (arith, past) in
    sym (append-nil now) ∙ sym (ap (λ n. now ++ flat_map f (range_with_len number n)) none) ∙ left

-- ---- one piece after another

one_more : (start front mid piece new : List ℕ) → mid ≡ start ++ front → new ≡ mid ++ piece
    → new ≡ start ++ (front ++ piece)
one_more start front mid piece new begun added =
    added ∙ ap (λ (xs : List ℕ). xs ++ piece) begun ∙ append_assoc start front piece

pub five : (start a b c d e p q r s t : List ℕ) → a ≡ start ++ p → b ≡ a ++ q → c ≡ b ++ r → d ≡ c ++ s → e ≡ d ++ t
    → e ≡ start ++ (p ++ q ++ r ++ s ++ t)
five start a b c d e p q r s t first second third fourth fifth =
    one_more start (p ++ q ++ r ++ s) d t e
    (one_more start (p ++ q ++ r) c s d (one_more start (p ++ q) b r c (one_more start p a q b first second) third)
    fourth)
    fifth
