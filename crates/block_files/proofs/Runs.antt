-- Runs of blocks that follow one another, read in place, each with zeros past the file's end.
use Rattle.std.proofs.Common.{◌≡◌, ℕ, ◌+◌, ◌-◌, ◌*◌, ◌/◌, ◌%◌, ◌<◌, ◌≤◌, min, List, ◌++◌, length, get_or, take, drop}
use Rattle.std.proofs.Common.{replicate, sym, ap, ◌∙◌, arith, ⊎_elim}
use Rattle.std.specs.Prelude.{flat_map}
use Rattle.std.proofs.lemmas.List.{length-append, length-take-le, length-drop, length-replicate, get_or_append_left}
use Rattle.std.proofs.lemmas.List.{get_or-append_right, get_or-take, get_or-drop, get_or-replicate, get_or_past}
use Rattle.std.proofs.lemmas.List.{ext_get_or}
use Rattle.std.proofs.lemmas.List.{take_min}
use Rattle.std.proofs.lemmas.Bool.{cases_lt}
use borrow.Rule.Slice.PartMut.{put_mid, post_of}
use Rattle.block_files.specs.Areas.{block, joined}
use Rattle.block_files.specs.lemmas.Joined.{length-blocks, read_joined}
use Rattle.per_base.specs.Contents.{blocks_for}

-- ---- a part that is written in place

module _ (a k : ℕ) (xs ys : List ℕ) (within : a ≤ length xs) where
  pub put_before : (i : ℕ) → i < a → get_or (put_mid a k xs ys) i 0 ≡ get_or xs i 0
  put_before i lt =
      get_or_append_left (take a xs) (ys ++ post_of a k xs) 0 i (omega (arith, length-take-le a xs within))
      ∙ get_or-take a xs i 0 lt

  pub put_inside : (i j : ℕ) → i ≡ a + j → j < length ys → get_or (put_mid a k xs ys) i 0 ≡ get_or ys j 0
  put_inside i j is lt =
      get_or-append_right (take a xs) (ys ++ post_of a k xs) a i 0 (length-take-le a xs within) (omega arith)
      ∙ (let e : i - a ≡ j = omega arith in ap (λ n. get_or (ys ++ post_of a k xs) n 0) e)
      ∙ get_or_append_left ys (post_of a k xs) 0 j lt

  pub put_long : length ys ≡ k → a + k ≤ length xs → length (put_mid a k xs ys) ≡ length xs
  put_long long fits =
      omega (
        arith,
        length-append (take a xs) (ys ++ post_of a k xs),
        length-append ys (post_of a k xs),
        length-take-le a xs within,
        length-drop k (drop a xs),
        length-drop a xs,
      )

-- what one read gives, with zeros past it
pub padded : (file out zeros : List ℕ) (at n : ℕ) → n ≡ min (length out) (length file - at)
    → take n out ≡ take n (drop at file) → zeros ≡ replicate (length out - n) 0
    → (i : ℕ) → i < length out → get_or (put_mid n (length out - n) out zeros) i 0 ≡ get_or file (at + i) 0
padded file out zeros at n count same cleared i lt = ⊎_elim
    (λ before. (
    put_before n (length out - n) out zeros (omega arith) i before
    ∙ sym (get_or-take n out i 0 before)
    ∙ ap (λ xs. get_or xs i 0) same
    ∙ get_or-take n (drop at file) i 0 before
    ∙ get_or-drop at file i 0))
    (λ after. (
    let long = ap length cleared ∙ length-replicate {A = ℕ} (length out - n) 0 in
    put_inside n (length out - n) out zeros (omega arith) i (i - n) (omega arith) (omega arith)
    ∙ ap (λ xs. get_or xs (i - n) 0) cleared
    ∙ get_or-replicate (length out - n) (i - n) 0 0 (omega arith)
    ∙ sym (get_or_past file (at + i) 0 (omega arith))))
    (cases_lt i n)

-- ---- one run after another

-- the list has the bytes of the first n blocks, as far as it reaches
pub record IsGathered (file blocks : List ℕ) (n : ℕ) (out : List ℕ) : Type 0 where
  pub at : (q r : ℕ) → q < n → r < 256 → 256 * q + r < length out
      → get_or out (256 * q + r) 0 ≡ get_or file (256 * get_or blocks q 0 + r) 0

pub gathered_none : (file blocks out : List ℕ) → IsGathered file blocks 0 out
gathered_none file blocks out = record { at = λ q r lt small inside. absurd (omega arith) }

-- the first of the blocks that are still needed follow one another
pub run_numbers : (blocks : List ℕ) (next needed count : ℕ) → count ≤ needed - next
    → ((j : ℕ) → j < count → get_or (take (needed - next) (drop next blocks)) j 0
    ≡ get_or (take (needed - next) (drop next blocks)) 0 0 + j)
    → (j : ℕ) → j < next + count - next → get_or blocks (next + j) 0 ≡ get_or blocks next 0 + j
run_numbers blocks next needed count below follow j lt =
    let e : next + 0 ≡ next = omega arith in
    sym (at j (omega arith)) ∙ follow j (omega arith)
    ∙ ap (λ b. b + j) (at 0 (omega arith) ∙ ap (λ k. get_or blocks k 0) e)
  where
    at : (k : ℕ) → k < needed - next → get_or (take (needed - next) (drop next blocks)) k 0 ≡ get_or blocks (next + k) 0
    at k less = get_or-take (needed - next) (drop next blocks) k 0 less ∙ get_or-drop next blocks k 0

pub gathered_more : (file blocks out run : List ℕ) (next end stop : ℕ) → stop ≡ min (256 * end) (length out)
    → 256 * next ≤ stop → length run ≡ stop - 256 * next
    → ((j : ℕ) → j < end - next → get_or blocks (next + j) 0 ≡ get_or blocks next 0 + j)
    → ((i : ℕ) → i < stop - 256 * next → get_or run i 0 ≡ get_or file (256 * get_or blocks next 0 + i) 0)
    → IsGathered file blocks next out
    → IsGathered file blocks end (put_mid (256 * next) (stop - 256 * next) out run)
gathered_more file blocks out run next end stop stops from long follow read was = record {
  at = λ q r lt small inside. (
      let reach : 256 * q + r < length out =
      omega (arith, put_long (256 * next) (stop - 256 * next) out run (omega arith) long (omega arith)) in
      ⊎_elim
      (λ before. (
      put_before (256 * next) (stop - 256 * next) out run (omega arith) (256 * q + r) (omega arith)
      ∙ was.at q r before small reach))
      (λ after. (
      let i = 256 * (q - next) + r in
      let block_is : 256 * get_or blocks next 0 + i ≡ 256 * get_or blocks q 0 + r =
      omega (
        arith,
        follow (q - next) (omega arith),
        (let e : next + (q - next) ≡ q = omega arith in
            ap (λ n. get_or blocks n 0) e),
      ) in
      put_inside (256 * next) (stop - 256 * next) out run (omega arith) (256 * q + r) i (omega arith) (omega arith)
      ∙ read i (omega arith)
      ∙ ap (λ n. get_or file n 0) block_is))
      (cases_lt q next));
}

pub gathered_all : (file blocks out : List ℕ) (n : ℕ) → length out ≤ 256 * length blocks → blocks_for (length out) ≤ n
    → IsGathered file blocks n out → out ≡ joined file blocks (length out)
gathered_all file blocks out n room all is =
    let long = length-take-le (length out) (flat_map (block file) blocks) (omega (arith, length-blocks file blocks)) in
    ext_get_or 0 out (joined file blocks (length out)) (sym long) at
  where
    at : (i : ℕ) → i < length out → get_or out i 0 ≡ get_or (joined file blocks (length out)) i 0
    at i lt =
        let q = i / 256 in
        let r = i % 256 in
        let split : 256 * q + r ≡ i = omega arith in
        ap (λ n. get_or out n 0) (sym split)
        ∙ is.at q r (omega arith) (omega arith) (omega arith)
        ∙ sym (read_joined file blocks (length out) q r (omega arith) (omega arith) (omega arith))
        ∙ ap (λ n. get_or (joined file blocks (length out)) n 0) split

-- the blocks have no bytes past their end
pub joined_cut : (file blocks : List ℕ) (len size : ℕ) → size ≡ min len (256 * length blocks)
    → joined file blocks size ≡ joined file blocks len
joined_cut file blocks len size is =
    let all = flat_map (block file) blocks in
    ap (λ n. take n all) (is ∙ ap (min len) (sym (length-blocks file blocks))) ∙ take_min len all
