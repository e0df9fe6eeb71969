-- The bytes of blocks, compared with others piece by piece.
use Rattle.std.proofs.Common.{◌≡◌, ℕ, suc, zero, ◌+◌, ◌-◌, ◌*◌, ◌≤◌, min, List, [], ◌∷◌, ◌++◌, length, take, drop}
use Rattle.std.proofs.Common.{sym, ap, ◌∙◌, arith, ⊎_elim}
use Rattle.std.specs.Prelude.{flat_map}
use Rattle.std.proofs.lemmas.List.{length-take, length-drop, take-append-drop, take-take, take_all, drop-drop, drop_at}
use Rattle.std.proofs.lemmas.List.{drop_all, drop-take, take_rest}
use Rattle.std.proofs.lemmas.Bool.{cases_lt}
use Rattle.block_files.specs.Areas.{block, joined}
use Rattle.block_files.specs.lemmas.Joined.{length-block}

-- ---- lists, cut twice

take_both : (k m : ℕ) (xs : List ℕ) → take k (take m xs) ≡ take (min k m) xs
take_both k m xs = ⊎_elim
    (λ less. (
    let e : m ≡ min k m = omega arith in
    take_all k (take m xs) (omega (arith, length-take m xs)) ∙ ap (λ n. take n xs) e))
    (λ most. (
    let e : k ≡ min k m = omega arith in
    take-take k m xs most ∙ ap (λ n. take n xs) e))
    (cases_lt m k)

take_step : (a k : ℕ) (xs : List ℕ) → take (a + k) xs ≡ take a xs ++ take k (drop a xs)
take_step a k xs =
    sym (take-append-drop a (take (a + k) xs))
    ∙ ap (λ front. front ++ drop a (take (a + k) xs)) (take-take a (a + k) xs (omega arith))
    ∙ ap (λ rest. take a xs ++ rest) (drop-take a k xs)

-- ---- a piece of the joined blocks

drop_blocks : (file : List ℕ) (n : ℕ) (blocks : List ℕ)
    → drop (256 * n) (flat_map (block file) blocks) ≡ flat_map (block file) (drop n blocks)
drop_blocks file zero blocks = let e : 256 * 0 ≡ 0 = omega arith in
    ap (λ m. drop m (flat_map (block file) blocks)) e
drop_blocks file (suc n) [] = drop_all (256 * suc n) [] (omega arith)
drop_blocks file (suc n) (k ∷ blocks) =
    let e : 256 * suc n ≡ 256 + 256 * n = omega arith in
    let all = block file k ++ flat_map (block file) blocks in
    ap (λ m. drop m all) e
    ∙ sym (drop-drop (256 * n) 256 all)
    ∙ ap (drop (256 * n)) (drop_at (block file k) (flat_map (block file) blocks) 256 (length-block file k))
    ∙ drop_blocks file n blocks

joined_from : (file blocks : List ℕ) (n k len : ℕ) → 256 * n ≤ len
    → take k (drop (256 * n) (joined file blocks len)) ≡ joined file (drop n blocks) (min k (len - 256 * n))
joined_from file blocks n k len within =
    let all = flat_map (block file) blocks in
    let rest = len - 256 * n in
    let e : len ≡ 256 * n + rest = omega arith in
    ap (λ m. take k (drop (256 * n) (take m all))) e
    ∙ ap (take k) (drop-take (256 * n) rest all)
    ∙ take_both k rest (drop (256 * n) all)
    ∙ ap (take (min k rest)) (drop_blocks file n blocks)

-- ---- one piece after another

module _ (file blocks bytes : List ℕ) where
  abbrev held : List ℕ
  held = joined file blocks (length bytes)

  module _ (i : ℕ) (piece : List ℕ) (within : 65536 * i ≤ length bytes)
      (is : piece ≡ take 65536 (drop (65536 * i) bytes)) where
    pub piece_length : length piece ≡ min 65536 (length bytes - 65536 * i)
    piece_length = omega (arith, ap length is, length-take 65536 (drop (65536 * i) bytes), length-drop (65536 * i) bytes)

    -- the blocks from there on have room for it
    pub piece_fits : length bytes ≤ 256 * length blocks
        → length piece ≤ 256 * length (take (length blocks - 256 * i) (drop (256 * i) blocks))
    piece_fits room =
        let rest = ap length (take_rest blocks (256 * i)) ∙ length-drop (256 * i) blocks in
        omega (arith, piece_length, rest)

    held_piece : take 65536 (drop (65536 * i) held) ≡ joined file (drop (256 * i) blocks) (length piece)
    held_piece =
        let e : 65536 * i ≡ 256 * (256 * i) = omega arith in
        let long : min 65536 (length bytes - 256 * (256 * i)) ≡ length piece =
        omega (arith, piece_length) in
        ap (λ a. take 65536 (drop a held)) e
        ∙ joined_from file blocks (256 * i) 65536 (length bytes) (omega arith)
        ∙ ap (joined file (drop (256 * i) blocks)) long

    -- the blocks hold a piece more
    pub same_more : joined file (drop (256 * i) blocks) (length piece) ≡ piece
        → take (65536 * i) held ≡ take (65536 * i) bytes
        → take (65536 * (i + 1)) held ≡ take (65536 * (i + 1)) bytes
    same_more same was =
        let e : 65536 * (i + 1) ≡ 65536 * i + 65536 = omega arith in
        let front : List ℕ = take (65536 * i) bytes in
        ap (λ n. take n held) e
        ∙ take_step (65536 * i) 65536 held
        ∙ ap (λ xs. xs ++ take 65536 (drop (65536 * i) held)) was
        ∙ ap (λ xs. front ++ xs) (held_piece ∙ same ∙ is)
        ∙ sym (take_step (65536 * i) 65536 bytes)
        ∙ ap (λ n. take n bytes) (sym e)

    -- and each piece where they hold all
    pub piece_same : held ≡ bytes → joined file (drop (256 * i) blocks) (length piece) ≡ piece
    piece_same same = sym held_piece ∙ ap (λ xs. take 65536 (drop (65536 * i) xs)) same ∙ sym is

  -- all of them
  pub same_all : (n : ℕ) → length bytes ≤ 65536 * n → take (65536 * n) held ≡ take (65536 * n) bytes → held ≡ bytes
  same_all n all same =
      let short = length-take (length bytes) (flat_map (block file) blocks) in
      sym (take_all (65536 * n) held (omega (arith, short))) ∙ same ∙ take_all (65536 * n) bytes all
