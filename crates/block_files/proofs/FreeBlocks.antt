-- The free blocks of a set: how many, which, and how a choice of the lowest goes on.
use Rattle.std.proofs.Common.{◌≡◌, ℕ, suc, zero, ◌+◌, ◌-◌, ◌<◌, ◌≤◌, List, [], ◌∷◌, ◌++◌, length, get_or, take, drop}
use Rattle.std.proofs.Common.{Bool, true, false, not, cond, refl, sym, ap, ◌∙◌, subst, arith, append_assoc}
use Rattle.std.specs.Prelude.{count_by}
use Rattle.std.proofs.lemmas.List.{append-nil, drop_more, drop_all, length-append, get_or-take, length-take-le}
use Rattle.std.proofs.lemmas.List.Sums.{sum_by-cons}
use Rattle.block_files.specs.BlockSets.{contains, free_of, free_from, free_blocks, AreFree}

-- ---- the list of free blocks

abbrev count_free : Bool → ℕ
count_free flag = cond (not flag) 1 0

-- it is as long as the count says
pub length-free_from : (b : ℕ) (flags : List Bool) → length (free_from b flags) ≡ count_by not flags
length-free_from b [] = refl
length-free_from b (true ∷ flags) = omega (arith, sum_by-cons count_free true flags, length-free_from (b + 1) flags)
length-free_from b (false ∷ flags) = omega (arith, sum_by-cons count_free false flags, length-free_from (b + 1) flags)

-- a block whose flag is down, in a list of flags that begins at block b
pub record IsFreeFrom (b : ℕ) (flags : List Bool) (k : ℕ) : Type 0 where
  pub low : b ≤ k
  pub high : k < b + length flags
  pub free : get_or flags (k - b) false ≡ false

further : (b : ℕ) (flag : Bool) (flags : List Bool) (k : ℕ) → IsFreeFrom (b + 1) flags k → IsFreeFrom b (flag ∷ flags) k
further b flag flags k is = record {
  low = omega (arith, is.low);
  high = omega (arith, is.high);
  free = let e : k - b ≡ suc (k - (b + 1)) = omega (arith, is.low) in
      ap (λ n. get_or (flag ∷ flags) n false) e ∙ is.free;
}

pub free_from-at : (b : ℕ) (flags : List Bool) (i : ℕ) → i < length (free_from b flags)
    → IsFreeFrom b flags (get_or (free_from b flags) i 0)
free_from-at b [] i lt = absurd (omega arith)
free_from-at b (true ∷ flags) i lt = further b true flags _ (free_from-at (b + 1) flags i lt)
free_from-at b (false ∷ flags) zero lt = record {
  low = omega arith;
  high = omega arith;
  free = let e : b - b ≡ 0 = omega arith in ap (λ n. get_or (false ∷ flags) n false) e;
}
free_from-at b (false ∷ flags) (suc i) lt = further b false flags _ (free_from-at (b + 1) flags i (omega arith))

pub free_from-ascend : (b : ℕ) (flags : List Bool) (i j : ℕ) → i < j → j < length (free_from b flags)
    → get_or (free_from b flags) i 0 < get_or (free_from b flags) j 0
free_from-ascend b [] i j less lt = absurd (omega arith)
free_from-ascend b (true ∷ flags) i j less lt = free_from-ascend (b + 1) flags i j less lt
free_from-ascend b (false ∷ flags) i zero less lt = absurd (omega arith)
free_from-ascend b (false ∷ flags) zero (suc j) less lt =
    omega (arith, (free_from-at (b + 1) flags j (omega arith)).low)
free_from-ascend b (false ∷ flags) (suc i) (suc j) less lt =
    free_from-ascend (b + 1) flags i j (omega arith) (omega arith)

-- ---- the lowest of them

pub length-lowest : (set : List Bool) (count : ℕ) → count ≤ free_of set → length (take count (free_blocks set)) ≡ count
length-lowest set count enough = length-take-le count (free_blocks set) (omega (arith, length-free_from 0 set))

pub lowest_free : (set : List Bool) (count : ℕ) → count ≤ free_of set → AreFree set (take count (free_blocks set))
lowest_free set count enough =
    let long = length-lowest set count enough in
    let all = length-free_from 0 set in
    let at = λ (i : ℕ) (lt : i < length (take count (free_blocks set))). (
    let inside : i < count = omega arith in
    let e = get_or-take count (free_blocks set) i 0 inside in
    let f : IsFreeFrom 0 set (get_or (free_blocks set) i 0) = free_from-at 0 set i (omega arith) in
    let P : ℕ → Type 0 = λ k. IsFreeFrom 0 set k in
    subst P (sym e) f) in
    record {
      below = λ i lt. omega (arith, (at i lt).high);
      free = λ i lt. (
          let k = get_or (take count (free_blocks set)) i 0 in
          let e : k ≡ k - 0 = omega arith in
          ap (λ n. get_or set n false) e ∙ (at i lt).free);
      ascend = λ i j less lt. (
          let inside : j < count = omega arith in
          let e = get_or-take count (free_blocks set) i 0 (omega arith) in
          let f = get_or-take count (free_blocks set) j 0 inside in
          omega (arith, free_from-ascend 0 set i j less (omega arith)));
    }

-- ---- the choice, block by block

-- where block i is next, the chosen blocks and the lowest of the rest are what is wanted
pub record IsChoosing (set : List Bool) (count i : ℕ) (blocks : List ℕ) : Type 0 where
  pub few : length blocks ≤ count
  pub rest : blocks ++ take (count - length blocks) (free_from i (drop i set)) ≡ take count (free_blocks set)

pub choosing_none : (set : List Bool) (count : ℕ) → IsChoosing set count 0 []
choosing_none set count = record {
  few = omega arith;
  rest = let e : count - 0 ≡ count = omega arith in ap (λ n. take n (free_blocks set)) e;
}

-- the rest begins at a block whose flag is this
rest_at : (set : List Bool) (i : ℕ) (flag : Bool) → i < length set → contains set i ≡ flag
    → free_from i (drop i set) ≡ free_from i (flag ∷ drop (i + 1) set)
rest_at set i flag lt is = ap (free_from i) (drop_more set i false lt) ∙ ap (λ f. free_from i (f ∷ drop (i + 1) set)) is

pub choosing_skip : (set : List Bool) (count i : ℕ) (blocks : List ℕ) → i < length set → contains set i ≡ true
    → IsChoosing set count i blocks → IsChoosing set count (i + 1) blocks
choosing_skip set count i blocks lt is now = record {
  few = now.few;
  rest = ap (λ rest. blocks ++ take (count - length blocks) rest) (sym (rest_at set i true lt is)) ∙ now.rest;
}

-- a choice may begin after blocks that are all taken
pub choosing_from : (set : List Bool) (count i : ℕ) → i ≤ length set → ((b : ℕ) → b < i → contains set b ≡ true)
    → IsChoosing set count i []
choosing_from set count zero within taken = choosing_none set count
choosing_from set count (suc i) within taken =
    let e : i + 1 ≡ suc i = omega arith in
    let P : ℕ → Type 0 = λ n. IsChoosing set count n [] in
    subst P e (choosing_skip set count i [] (omega arith) (taken i (omega arith))
    (choosing_from set count i (omega arith) (λ b below. taken b (omega arith))))

pub choosing_more : (set : List Bool) (count i : ℕ) (blocks : List ℕ) → i < length set → contains set i ≡ false
    → length blocks < count → IsChoosing set count i blocks → IsChoosing set count (i + 1) (blocks ++ i ∷ [])
choosing_more set count i blocks lt is room now =
    let later = free_from (i + 1) (drop (i + 1) set) in
    let long = length-append blocks (i ∷ []) in
    let e : count - length (blocks ++ i ∷ []) ≡ count - length blocks - 1 = omega arith in
    let f : count - length blocks ≡ suc (count - length blocks - 1) = omega arith in
    record {
      few = omega arith;
      rest =
          append_assoc blocks (i ∷ []) (take (count - length (blocks ++ i ∷ [])) later)
          ∙ ap (λ n. blocks ++ i ∷ take n later) e
          ∙ ap (λ n. blocks ++ take n (i ∷ later)) (sym f)
          ∙ ap (λ rest. blocks ++ take (count - length blocks) rest) (sym (rest_at set i false lt is))
          ∙ now.rest;
    }

pub choosing_full : (set : List Bool) (count i : ℕ) (blocks : List ℕ) → length blocks ≡ count
    → IsChoosing set count i blocks → blocks ≡ take count (free_blocks set)
choosing_full set count i blocks full now =
    let e : count - length blocks ≡ 0 = omega arith in
    sym (append-nil blocks) ∙ ap (λ n. blocks ++ take n (free_from i (drop i set))) (sym e) ∙ now.rest

take-nil : (n : ℕ) → take {A = ℕ} n [] ≡ []
take-nil zero = refl
take-nil (suc n) = refl

pub choosing_all : (set : List Bool) (count i : ℕ) (blocks : List ℕ) → length set ≤ i → IsChoosing set count i blocks
    → blocks ≡ take count (free_blocks set)
choosing_all set count i blocks past now =
    sym (append-nil blocks)
    ∙ ap (λ rest. blocks ++ rest) (sym (take-nil (count - length blocks)))
    ∙ ap (λ rest. blocks ++ take (count - length blocks) (free_from i rest)) (sym (drop_all i set past))
    ∙ now.rest

-- ---- a list that was chosen so

module _ (set : List Bool) (count : ℕ) (fresh : List ℕ) (is : fresh ≡ take count (free_blocks set))
    (enough : count ≤ free_of set) where
  pub chosen_free : AreFree set fresh
  chosen_free = let P : List ℕ → Type 0 = λ xs. AreFree set xs in subst P (sym is) (lowest_free set count enough)

  pub length-chosen : length fresh ≡ count
  length-chosen = ap length is ∙ length-lowest set count enough
