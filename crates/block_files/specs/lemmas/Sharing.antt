-- The blocks of a content beside an earlier one: how they are merged of the earlier and the fresh ones, and what they
-- hold.
use Rattle.std.proofs.Common.{◌≡◌, ◌≢◌, ℕ, suc, zero, ◌+◌, ◌*◌, ◌<◌, ◌≤◌, List, [], ◌∷◌, ◌++◌, length, get_or, Bool}
use Rattle.std.proofs.Common.{true, false, cond, refl, sym, ap, ◌∙◌, arith, ⊎_elim}
use Rattle.std.specs.Prelude.{slice_index}
use Rattle.std.proofs.lemmas.List.{length-append, get_or_append_left, get_or_push}
use Rattle.std.proofs.lemmas.Bool.{cases_lt, cases_Bool, cond-true, cond-false, both_ways}
use Rattle.per_base.specs.Contents.{blocks_for}
use Rattle.block_files.specs.BlockSets.{contains, AreDistinct, IsNotAmong, AreFree, IsAdded, SharesBlocks}
use Rattle.block_files.specs.Parts.{is_changed, changed_blocks, changed_below, IsMerged}
use Rattle.block_files.specs.Areas.{HoldsShared, IsFull}
use Rattle.block_files.specs.Writes.{IsTaken, IsApartFromChanged}
use Rattle.block_files.specs.lemmas.PartLemmas.{same_part, changed_to-le, changed_more, changed_same, changed_at}
use Rattle.block_files.specs.lemmas.Partly.{length-part, read_part}
use Rattle.block_files.specs.lemmas.Joined.{holds_from}

-- ---- the merging, block by block

-- the block of part i
abbrev merged : (bytes was old fresh : List ℕ) (i : ℕ) → ℕ
merged bytes was old fresh i = cond (is_changed bytes was i) (slice_index fresh (changed_below bytes was i))
    (slice_index old i)

pub record IsMerging (bytes was old fresh : List ℕ) (i next : ℕ) (blocks : List ℕ) : Type 0 where
  pub next_is : next ≡ changed_below bytes was i
  pub count : length blocks ≡ i
  pub each : (m : ℕ) → m < i → get_or blocks m 0 ≡ cond (is_changed bytes was m)
      (slice_index fresh (changed_below bytes was m)) (slice_index old m)

module _ (bytes was old fresh : List ℕ) where
  pub merging_none : IsMerging bytes was old fresh 0 0 []
  merging_none = record { next_is = refl; count = refl; each = λ m lt. absurd (omega arith) }

  each_more : (i b : ℕ) (blocks : List ℕ) → length blocks ≡ i → b ≡ merged bytes was old fresh i
      → ((m : ℕ) → m < i → get_or blocks m 0 ≡ merged bytes was old fresh m) → (m : ℕ) → m < i + 1
      → get_or (blocks ++ b ∷ []) m 0 ≡ merged bytes was old fresh m
  each_more i b blocks long is each m lt = ⊎_elim
      (λ before. get_or_append_left blocks (b ∷ []) 0 m (omega arith) ∙ each m before)
      (λ past. (
      let here : i ≡ m = omega arith in
      get_or_push blocks b 0 m (omega arith) ∙ is ∙ ap (merged bytes was old fresh) here))
      (cases_lt m i)

  pub merging_fresh : (i next b : ℕ) (blocks : List ℕ) → is_changed bytes was i ≡ true → b ≡ get_or fresh next 0
      → IsMerging bytes was old fresh i next blocks → IsMerging bytes was old fresh (i + 1) (next + 1)
      (blocks ++ b ∷ [])
  merging_fresh i next b blocks differ is now = record {
    next_is = omega (arith, now.next_is, changed_more bytes was i differ);
    count = omega (arith, now.count, length-append blocks (b ∷ []));
    each = each_more i b blocks now.count
        (is ∙ ap (λ n. get_or fresh n 0) now.next_is ∙ sym
        (cond-true (is_changed bytes was i) (slice_index fresh (changed_below bytes was i)) (slice_index old i)
        differ))
        now.each;
  }

  pub merging_old : (i next b : ℕ) (blocks : List ℕ) → is_changed bytes was i ≡ false → b ≡ get_or old i 0
      → IsMerging bytes was old fresh i next blocks → IsMerging bytes was old fresh (i + 1) next (blocks ++ b ∷ [])
  merging_old i next b blocks same is now = record {
    next_is = omega (arith, now.next_is, changed_same bytes was i same);
    count = omega (arith, now.count, length-append blocks (b ∷ []));
    each = each_more i b blocks now.count
        (is ∙ sym (cond-false (is_changed bytes was i) (slice_index fresh (changed_below bytes was i))
        (slice_index old i)
        same))
        now.each;
  }

  pub merging_all : (i next : ℕ) (blocks : List ℕ) → i ≡ blocks_for (length bytes)
      → IsMerging bytes was old fresh i next blocks → IsMerged bytes was old fresh blocks
  merging_all i next blocks all now = record {
    count = now.count ∙ all;
    each =
        λ m lt. now.each m (omega (arith, now.count));
  }

-- a part that is as in the earlier content is within both
pub same_inside : (bytes was : List ℕ) (i j : ℕ) → is_changed bytes was i ≡ false → j < 256 → 256 * i + j < length bytes
    → 256 * i + j < length was
same_inside bytes was i j same small inside = omega (
  arith,
  ap length (same_part bytes was i same),
  length-part bytes i,
  length-part was i,
)

-- ---- the merged blocks

-- each fresh block has its part
part_of : (bytes was : List ℕ) (n t : ℕ) → t < changed_below bytes was n
    → (i : ℕ) × (i < n) × (is_changed bytes was i ≡ true) × (changed_below bytes was i ≡ t)
part_of bytes was zero t lt = absurd (omega arith)
part_of bytes was (suc n) t lt = ⊎_elim
    (λ before. let (i, less, differ, is) = part_of bytes was n t before in (i, omega arith, differ, is))
    (λ past. ⊎_elim
    (λ differ. (
    let e = ap (λ b. changed_below bytes was n + cond b 1 0) differ in
    (n, omega arith, differ, omega (arith, e))))
    (λ same. (let e = ap (λ b. changed_below bytes was n + cond b 1 0) same in absurd (omega (arith, e))))
    (cases_Bool (is_changed bytes was n)))
    (cases_lt t (changed_below bytes was n))

module _ (bytes was old fresh blocks : List ℕ) (set : List Bool) (is : IsMerged bytes was old fresh blocks)
    (free : AreFree set fresh) (many : length fresh ≡ changed_blocks bytes was) where
  abbrev at_fresh : ℕ → ℕ
  at_fresh i = changed_below bytes was i

  fresh_lt : (i : ℕ) → i < length blocks → is_changed bytes was i ≡ true → at_fresh i < length fresh
  fresh_lt i lt differ = omega (
    arith,
    changed_at bytes was i (blocks_for (length bytes)) (omega (arith, is.count))
        differ,
  )

  fresh_is : (i : ℕ) → i < length blocks → is_changed bytes was i ≡ true
      → get_or blocks i 0 ≡ get_or fresh (at_fresh i) 0
  fresh_is i lt differ = is.each i lt ∙ cond-true (is_changed bytes was i)
      (slice_index fresh (changed_below bytes was i))
      (slice_index old i) differ

  old_is : (i : ℕ) → i < length blocks → is_changed bytes was i ≡ false → get_or blocks i 0 ≡ get_or old i 0
  old_is i lt same = is.each i lt ∙ cond-false (is_changed bytes was i) (slice_index fresh (changed_below bytes was i))
      (slice_index old i) same

  pub shares : SharesBlocks bytes was old set blocks
  shares = record {
    equal = old_is;
    fresh = λ i lt differ. (
        let e = fresh_is i lt differ in
        let inside = fresh_lt i lt differ in
        (omega (arith, free.below (at_fresh i) inside), ap (contains set) e ∙ free.free (at_fresh i) inside));
  }

  -- a block of the set is none of those outside it
  taken_apart : (a b : ℕ) → contains set a ≡ true → contains set b ≡ false → a ≢ b
  taken_apart a b taken out e = both_ways (contains set b) out (sym (ap (contains set) e) ∙ taken)

  module _ (apart : AreDistinct old) (taken : (i : ℕ) → i < length old → contains set (slice_index old i) ≡ true)
      (room : length was ≤ 256 * length old) where
    old_lt : (i : ℕ) → i < length blocks → is_changed bytes was i ≡ false → i < length old
    old_lt i lt same = omega (arith, is.count, same_inside bytes was i 0 same (omega arith) (omega (arith, is.count)))

    old_taken : (i : ℕ) → i < length blocks → is_changed bytes was i ≡ false → contains set (get_or blocks i 0) ≡ true
    old_taken i lt same = ap (contains set) (old_is i lt same) ∙ taken i (old_lt i lt same)

    pub distinct : AreDistinct blocks
    distinct i j less lt = ⊎_elim
        (λ differ_i. ⊎_elim
        (λ differ_j. λ e. absurd (omega (
          arith,
          free.ascend (at_fresh i) (at_fresh j)
              (changed_at bytes was i j less differ_i) (fresh_lt j lt differ_j),
          fresh_is i (omega arith) differ_i,
          fresh_is j lt differ_j,
        )))
        (λ same_j. λ e. taken_apart (get_or blocks j 0) (get_or blocks i 0) (old_taken j lt same_j)
        (shares.fresh i (omega arith) differ_i).1 (sym e))
        (cases_Bool (is_changed bytes was j)))
        (λ same_i. ⊎_elim
        (λ differ_j. λ e. taken_apart (get_or blocks i 0) (get_or blocks j 0) (old_taken i (omega arith) same_i)
        (shares.fresh j lt differ_j).1 e)
        (λ same_j. λ e. apart i j less (old_lt j lt same_j)
        (sym (old_is i (omega arith) same_i) ∙ e ∙ old_is j lt same_j))
        (cases_Bool (is_changed bytes was j)))
        (cases_Bool (is_changed bytes was i))

    -- with the fresh blocks the set has all of them
    pub added_merged : (new : List Bool) → IsAdded fresh set new → IsAdded blocks set new
    added_merged new added = record {
      added = λ i lt. ⊎_elim
          (λ differ. ap (contains new) (fresh_is i lt differ) ∙ added.added (at_fresh i) (fresh_lt i lt differ))
          (λ same. added.kept (get_or blocks i 0) (λ t inside.
          taken_apart (get_or blocks i 0) (get_or fresh t 0) (old_taken i lt same) (free.free t inside))
          ∙ old_taken i lt same)
          (cases_Bool (is_changed bytes was i));
      kept = λ b none. added.kept b (λ t inside e. (
          let (i, less, differ, here) = part_of bytes was (blocks_for (length bytes)) t (omega arith) in
          let lt : i < length blocks = omega (arith, is.count) in
          none i lt (e ∙ ap (λ n. get_or fresh n 0) (sym here) ∙ sym (fresh_is i lt differ))));
      capacity = added.capacity;
      free = omega (arith, added.free, changed_to-le bytes was (blocks_for (length bytes)), is.count);
    }

-- ---- what they hold, and what is apart from them

pub holds_shared : (file blocks bytes old was : List ℕ) (set : List Bool) → SharesBlocks bytes was old set blocks
    → length blocks ≡ blocks_for (length bytes) → length was ≤ 256 * length old
    → IsFull file old was → HoldsShared file blocks bytes was
holds_shared file blocks bytes old was set shares count room full i lt same j small inside =
    let within_was = same_inside bytes was i j same small inside in
    let held = holds_from file old was full i (omega arith) j small within_was in
    let e = shares.equal i lt same in
    let f = ap (λ k. get_or file (256 * k + j) 0) e in
    let g = sym (read_part was i j small) ∙ ap (λ xs. get_or xs j 0) (sym (same_part bytes was i same))
    ∙ read_part bytes i j small in
    (omega (arith, held.0, e), f ∙ held.1 ∙ g)

pub taken_apart_changed : (blocks bytes old was : List ℕ) (set : List Bool) → SharesBlocks bytes was old set blocks
    → (k : ℕ) → IsTaken set k → IsApartFromChanged blocks bytes was k
taken_apart_changed blocks bytes old was set shares k taken i lt differ e =
    both_ways (contains set (get_or blocks i 0)) (shares.fresh i lt differ).1 (sym (ap (contains set) e) ∙ taken)

pub taken_apart_free : (set : List Bool) (blocks : List ℕ) → AreFree set blocks → (k : ℕ) → IsTaken set k
    → IsNotAmong blocks k
taken_apart_free set blocks free k taken i lt e = both_ways (contains set (get_or blocks i 0)) (free.free i lt)
    (sym (ap (contains set) e) ∙ taken)

pub free_distinct : (set : List Bool) (blocks : List ℕ) → AreFree set blocks → AreDistinct blocks
free_distinct set blocks free i j less lt e = omega (arith, free.ascend i j less lt)
