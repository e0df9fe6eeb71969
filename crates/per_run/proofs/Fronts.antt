-- The first line of a piece of the input, the start of a line with more bytes, and how far a piece is handled.
use Rattle.std.proofs.Common.{ℕ, zero, suc, List, [], ◌∷◌, ◌++◌, length, take, drop, ◌≡◌, ◌<◌, ◌≤◌, ◌+◌, ◌-◌}
use Rattle.std.proofs.Common.{min, get_or, add-one, refl, Bool, true, ◌==◌}
use Rattle.std.proofs.Common.{sym, ◌∙◌, ap, subst, arith, ⊎_elim, append_assoc, append-nil, length-append}
use Rattle.std.proofs.Math.Seq.{drop-cons, take-suc}
use Rattle.std.proofs.lemmas.List.{length-take, take-append-drop, take_all, take-append-le}
use Rattle.std.proofs.lemmas.Bool.{cases_lt, ne_eqb}
use Rattle.std.proofs.lemmas.Bool.Decides.{nat_tests}
use Rattle.per_run.specs.Steps.{HasNoFeed}
use Rattle.per_run.proofs.Splits.{clean_more}

pub piece_more : (piece : List ℕ) (i : ℕ) → i < length piece
    → take (i + 1) piece ≡ take i piece ++ get_or piece i 0 ∷ []
piece_more piece i within = ap (λ (n : ℕ). take n piece) (add-one i) ∙ take-suc piece i 0 within

-- one byte more that is no line feed
clean_next : (bytes : List ℕ) (i : ℕ) → i < length bytes → (get_or bytes i 0 ≡ 10 → ⊥) → HasNoFeed (take i bytes)
    → HasNoFeed (take (i + 1) bytes)
clean_next bytes i within apart clean = subst HasNoFeed (sym (piece_more bytes i within))
    (clean_more (take i bytes) (get_or bytes i 0) clean (ne_eqb _ _ apart))

-- as many bytes as come before the first line feed
pub clean_upto : (bytes : List ℕ) (n : ℕ) → n ≤ length bytes → ((k : ℕ) → k < n → get_or bytes k 0 ≡ 10 → ⊥)
    → HasNoFeed (take n bytes)
clean_upto bytes zero within apart = refl
clean_upto bytes (suc n) within apart = subst (λ (k : ℕ). HasNoFeed (take k bytes)) (add-one n)
    (clean_next bytes n (omega (arith, within)) (apart n (omega arith))
    (clean_upto bytes n (omega (arith, within)) (λ k below. apart k (omega (arith, below)))))

-- ---- what is kept

take_over : (xs ys : List ℕ) (n : ℕ) → take (length xs + n) (xs ++ ys) ≡ xs ++ take n ys
take_over [] ys n = let e : 0 + n ≡ n = omega arith in ap (λ (k : ℕ). take k ys) e
take_over (x ∷ xs) ys n =
    let e : length (x ∷ xs) + n ≡ (length xs + n) + 1 = omega arith in
    ap (λ (k : ℕ). take k (x ∷ (xs ++ ys))) (e ∙ add-one (length xs + n))
    ∙ ap (λ (l : List ℕ). x ∷ l) (take_over xs ys n)

take_few : (bytes : List ℕ) (room count : ℕ) → count ≡ min (length bytes) room → take count bytes ≡ take room bytes
take_few bytes room count is = ⊎_elim (λ many. ap (λ (n : ℕ). take n bytes) (omega (arith, is, many)))
    (λ few. take_all count bytes (omega (arith, is, few)) ∙ sym (take_all room bytes few))
    (cases_lt room (length bytes))

-- nothing is kept only of a line of which nothing is there
pub no_rest : (rest : List ℕ) → take 262145 rest ≡ [] → rest ≡ []
no_rest [] is = refl
no_rest (b ∷ rest) is = let bad : b ∷ take 262144 rest ≡ [] = is in cc

pub is_empty : (text kept : List ℕ) (none : Bool) → text ≡ kept → none ≡ (length text == 0) → none ≡ true → kept ≡ []
is_empty text [] none same says is = refl
is_empty text (b ∷ kept) none same says is = let long : length text ≡ length (b ∷ kept) =
    ap length same in absurd (grind (arith, nat_tests))

-- the start of a line of which nothing was kept
pub front_alone : (line kept : List ℕ) → kept ≡ [] → (rest : List ℕ) → kept ≡ take 262145 rest
    → take 262145 line ≡ take 262145 (rest ++ line)
front_alone line kept none rest is = ap (λ (r : List ℕ). take 262145 (r ++ line))
    (sym (no_rest rest (sym is ∙ none)))

-- as many bytes as the start of a line still takes
pub keeps_front : (n : ℕ) (kept rest bytes : List ℕ) (count : ℕ) → kept ≡ take n rest
    → count ≡ min (length bytes) (n - length kept) → kept ++ take count bytes ≡ take n (rest ++ bytes)
keeps_front n kept rest bytes count is counts =
    let long : length kept ≡ min n (length rest) = ap length is ∙ length-take n rest in
    ap (λ (l : List ℕ). kept ++ l) (take_few bytes (n - length kept) count counts) ∙ ⊎_elim
    (λ short.
    let whole : kept ≡ rest = is ∙ take_all n rest (omega (arith, short)) in
    let room : n ≡ length rest + (n - length rest) = omega (arith, short) in
    ap (λ (l : List ℕ). l ++ take (n - length l) bytes) whole ∙ sym (take_over rest bytes (n - length rest))
    ∙ ap (λ (k : ℕ). take k (rest ++ bytes)) (sym room))
    (λ full.
    let none : n - length kept ≡ 0 = omega (arith, long, full) in
    ap (λ (k : ℕ). kept ++ take k bytes) none ∙ append-nil kept ∙ is ∙ sym (take-append-le n rest bytes full))
    (cases_lt (length rest) n)

-- ---- the lines of a piece

pub piece_is : (piece : List ℕ) (i : ℕ) → i < length piece
    → take i piece ++ get_or piece i 0 ∷ drop (i + 1) piece ≡ piece
piece_is piece i within =
    ap (λ (l : List ℕ). take i piece ++ l) (ap (λ (n : ℕ). get_or piece i 0 ∷ drop n piece) (add-one i)
    ∙ sym (drop-cons piece i 0 within)) ∙ take-append-drop i piece

pub at_feed : (piece : List ℕ) (i : ℕ) → i < length piece → get_or piece i 0 ≡ 10
    → piece ≡ take i piece ++ 10 ∷ drop (i + 1) piece
at_feed piece i within feed = sym (piece_is piece i within)
    ∙ ap (λ (b : ℕ). take i piece ++ b ∷ drop (i + 1) piece) feed

-- a line more of the piece
pub front_more : (piece front rest line others : List ℕ) → piece ≡ front ++ rest → rest ≡ line ++ 10 ∷ others
    → piece ≡ (front ++ (line ++ 10 ∷ [])) ++ others
front_more piece front rest line others is parts = is ∙ ap (λ (l : List ℕ). front ++ l)
    (parts ∙ sym (append_assoc line (10 ∷ []) others)) ∙ sym (append_assoc front (line ++ 10 ∷ []) others)

pub rest_less : (rest line others : List ℕ) → rest ≡ line ++ 10 ∷ others → length others < length rest
rest_less rest line others parts = omega (arith, ap length parts, length-append line (10 ∷ others))

-- what was given before the line is no longer than with all of the piece
pub line_small : (given piece front rest line others : List ℕ) (limit : ℕ) → length (given ++ piece) < limit
    → piece ≡ front ++ rest → rest ≡ line ++ 10 ∷ others → length ((given ++ front) ++ line) < limit
line_small given piece front rest line others limit small is parts = omega (
  arith,
  small,
  length-append given piece,
  ap length is,
  length-append front rest,
  ap length parts,
  length-append line (10 ∷ others),
  length-append (given ++ front) line,
  length-append given front,
)

-- the whole piece after what was given
pub given_whole : (given piece front rest : List ℕ) → piece ≡ front ++ rest → (given ++ front) ++ rest ≡ given ++ piece
given_whole given piece front rest is = append_assoc given front rest ∙ ap (λ (l : List ℕ). given ++ l) (sym is)

pub given_at_line : (given piece front rest line others : List ℕ) → piece ≡ front ++ rest → rest ≡ line ++ 10 ∷ others
    → (given ++ front) ++ (line ++ 10 ∷ others) ≡ given ++ piece
given_at_line given piece front rest line others is parts =
    ap (λ (l : List ℕ). (given ++ front) ++ l) (sym parts) ∙ given_whole given piece front rest is
