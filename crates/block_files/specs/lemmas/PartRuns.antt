-- Runs of parts that differ and whose blocks follow one another: how one is found, and what its write puts into a file.
use Rattle.std.proofs.Common.{◌≡◌, ◌≢◌, ◌⊎◌, ℕ, ◌+◌, ◌-◌, ◌*◌, ◌<◌, ◌≤◌, min, List, length, get_or, take, drop, true}
use Rattle.std.proofs.Common.{sym, ap, ◌∙◌, subst, arith, ⊎_elim, inl, inr}
use Rattle.std.proofs.lemmas.List.{length-take, length-drop, get_or-take, get_or-drop}
use Rattle.std.proofs.lemmas.Bool.{cases_lt}
use Rattle.per_base.specs.Contents.{blocks_for}
use Rattle.disk_model.specs.Image.{put_bytes}
use Rattle.disk_model.specs.Written.{put_inside, length-put_some}
use Rattle.block_files.specs.BlockSets.{AreDistinct}
use Rattle.block_files.specs.Parts.{is_changed, changed_blocks, changed_below}
use Rattle.block_files.specs.Areas.{HoldsPart}
use Rattle.block_files.specs.Writes.{IsApartFromChanged, IsRun}
use Rattle.block_files.specs.lemmas.PartLemmas.{changed_run, changed_to-mono}

-- ---- a run is found

module _ (blocks bytes was : List ℕ) (first : ℕ) where
  pub run_one : first < blocks_for (length bytes) → is_changed bytes was first ≡ true
      → IsRun blocks bytes was first (first + 1)
  run_one inside differs = record {
    some = omega arith;
    within = omega arith;
    differ = λ i from lt. (
        let e : first ≡ i = omega arith in
        let P : ℕ → Type 0 = λ k. is_changed bytes was k ≡ true in
        subst P e differs);
    follow = λ i from lt. (let e : i ≡ first = omega arith in omega (arith, ap (λ k. get_or blocks k 0) e));
  }

  pub run_more : (i : ℕ) → i < blocks_for (length bytes) → is_changed bytes was i ≡ true
      → get_or blocks i 0 ≡ get_or blocks first 0 + (i - first) → IsRun blocks bytes was first i
      → IsRun blocks bytes was first (i + 1)
  run_more i inside differs follows run = record {
    some = omega (arith, run.some);
    within = omega arith;
    differ = λ k from lt. ⊎_elim
        (λ before. run.differ k from before)
        (λ last. (
        let e : i ≡ k = omega arith in
        let P : ℕ → Type 0 = λ n. is_changed bytes was n ≡ true in
        subst P e differs))
        (cases_lt k i);
    follow = λ k from lt. ⊎_elim
        (λ before. run.follow k from before)
        (λ last. (
        let e : i ≡ k = omega arith in
        let P : ℕ → Type 0 = λ n. get_or blocks n 0 ≡ get_or blocks first 0 + (n - first) in
        subst P e follows))
        (cases_lt k i);
  }

-- ---- its blocks, and its bytes

module _ (blocks bytes was : List ℕ) (first end : ℕ) (room : length bytes ≤ 256 * length blocks)
    (run : IsRun blocks bytes was first end) where
  abbrev low : ℕ
  low = get_or blocks first 0

  -- the block of a part that is not of the run is before its blocks or after them
  pub run_other : (m : ℕ) → AreDistinct blocks → m < length blocks → (m < first) ⊎ (end ≤ m)
      → (get_or blocks m 0 < low) ⊎ (low + (end - first) ≤ get_or blocks m 0)
  run_other m distinct lt outside = ⊎_elim
      (λ below. inl below)
      (λ from. ⊎_elim
      (λ within. (
      let k = first + (get_or blocks m 0 - low) in
      let same : get_or blocks k 0 ≡ get_or blocks m 0 = omega (arith, run.follow k (omega arith) (omega arith)) in
      absurd (⊎_elim
      (λ less. distinct m k (omega arith) (omega (arith, run.within)) (sym same))
      (λ more. distinct k m (omega arith) lt same)
      outside)))
      (λ past. inr past)
      (cases_lt (get_or blocks m 0) (low + (end - first))))
      (cases_lt (get_or blocks m 0) low)

  -- so does each block that is apart from those that change
  pub run_apart : (k : ℕ) → IsApartFromChanged blocks bytes was k → (k < low) ⊎ (low + (end - first) ≤ k)
  run_apart k apart = ⊎_elim
      (λ below. inl below)
      (λ from. ⊎_elim
      (λ within. (
      let m = first + (k - low) in
      let same : k ≡ get_or blocks m 0 = omega (arith, run.follow m (omega arith) (omega arith)) in
      absurd (apart m (omega (arith, run.within)) (run.differ m (omega arith) (omega arith)) same)))
      (λ past. inr past)
      (cases_lt k (low + (end - first))))
      (cases_lt k low)

  -- the parts of a run are all counted
  pub run_counted : changed_below bytes was end ≡ changed_below bytes was first + (end - first)
  run_counted =
      let e : first + (end - first) ≡ end = omega (arith, run.some) in
      ap (changed_below bytes was) (sym e)
      ∙ changed_run bytes was first (end - first) (λ m from lt. run.differ m from (omega arith))

  pub run_few : changed_below bytes was first + (end - first) ≤ changed_blocks bytes was
  run_few = omega (arith, run_counted, changed_to-mono bytes was end (blocks_for (length bytes)) run.within)

  -- what is written
  module _ (stop : ℕ) (stops : stop ≡ min (256 * end) (length bytes)) where
    abbrev sent : List ℕ
    sent = take (stop - 256 * first) (drop (256 * first) bytes)

    pub length-sent : length sent ≡ stop - 256 * first
    length-sent = omega (
      arith,
      length-take (stop - 256 * first) (drop (256 * first) bytes),
      length-drop (256 * first) bytes,
    )

    pub sent_fits : length sent ≤ 256 * (end - first)
    sent_fits = omega (arith, length-sent)

    pub put_run : (file : List ℕ) (m : ℕ) → first ≤ m → m < end
        → HoldsPart (put_bytes file (256 * low) sent) blocks bytes m
    put_run file m from below j small inside =
        let i = 256 * (m - first) + j in
        let lt : i < length sent = omega (arith, length-sent) in
        let some : length sent ≢ 0 = omega arith in
        let place : 256 * get_or blocks m 0 + j ≡ 256 * low + i = omega (arith, run.follow m from below) in
        let byte : 256 * first + i ≡ 256 * m + j = omega arith in (
          omega (arith, length-put_some file (256 * low) sent some),
          ap (λ k. get_or (put_bytes file (256 * low) sent) k 0) place
              ∙ put_inside file (256 * low) sent i lt
              ∙ get_or-take (stop - 256 * first) (drop (256 * first) bytes) i 0 (omega (arith, length-sent))
              ∙ get_or-drop (256 * first) bytes i 0
              ∙ ap (λ k. get_or bytes k 0) byte,
        )
