-- Writes part by part: parts join, a part of a write tears as the write does, and all parts are the write.
use Rattle.std.proofs.Common.{◌≡◌, ◌≢◌, ◌⊎◌, ℕ, ◌+◌, ◌-◌, ◌*◌, ◌<◌, ◌≤◌, ◌&&◌, Bool, max, true, false, List, ◌++◌}
use Rattle.std.proofs.Common.{length, take, drop, get_or, sym, refl, ap, ◌∙◌, subst, inl, inr, ⊎_elim, arith, leb}
use Rattle.std.proofs.Common.{le-leb, lt-ltb, le-ltb, ne_eqb, take-add, take_all}
use Rattle.std.proofs.Math.Path.{fun_ext}
use Rattle.std.proofs.lemmas.List.{ext_get_or, length-append, length-take-le, get_or_append_left, get_or-append_right}
use Rattle.std.proofs.lemmas.Bool.{cases_lt, cases_eq, lt-leb}
use Rattle.disk_model.specs.Image.{Image, put_bytes, put_image, TornImage}
use Rattle.disk_model.specs.Written.{put_outside, put_inside, length-put_some, put_image_here, put_image_elsewhere}
use Rattle.flash_disk.specs.PutPart.{in_range, PutPart, PutOrNot}

within : (at n i : ℕ) → at ≤ i → i < at + n → in_range at n i ≡ true
within at n i from to = rw (le-leb at i from, lt-ltb i (at + n) to)

not_both : (a : Bool) → (a && false) ≡ false
not_both true = refl
not_both false = refl

beyond : (at n i : ℕ) → (i < at) ⊎ (at + n ≤ i) → in_range at n i ≡ false
beyond at n i out = ⊎_elim
    (λ before. rw (lt-leb at i before))
    (λ past. rw (le-ltb i (at + n) past) (not_both (leb at i)))
    out

-- ---- one part

module _ (file at : ℕ) (bytes : List ℕ) (len : ℕ) (old new : Image) where
  -- in its range the file has the bytes
  pub part_inside : PutPart file at bytes len old new → (j : ℕ) → j < length bytes → at + j < len
      → get_or (new file) (at + j) 0 ≡ get_or bytes j 0
  part_inside part j inside below =
      let e : at + j - at ≡ j = omega arith in
      part.bytes_are (at + j) below ∙ rw (within at (length bytes) (at + j) (omega arith) (omega arith))
      (ap (λ k. get_or bytes k 0) e)

  -- outside its range the file has what it had
  pub part_outside : PutPart file at bytes len old new → (i : ℕ) → i < len → (i < at) ⊎ (at + length bytes ≤ i)
      → get_or (new file) i 0 ≡ get_or (old file) i 0
  part_outside part i below out = part.bytes_are i below ∙ rw (beyond at (length bytes) i out)

  -- what is said in the range and outside of it is said of each byte
  pub by_range : {P : ℕ → Type 0} → ((j : ℕ) → j < length bytes → at + j < len → P (at + j))
      → ((i : ℕ) → i < len → (i < at) ⊎ (at + length bytes ≤ i) → P i) → (i : ℕ) → i < len → P i
  by_range {P} inside outside i below = ⊎_elim
      (λ before. outside i below (inl before))
      (λ from. ⊎_elim
      (λ to. let e : at + (i - at) ≡ i = omega arith in subst P e (inside (i - at) (omega arith) (omega arith)))
      (λ past. outside i below (inr past))
      (cases_lt i (at + length bytes)))
      (cases_lt i at)

  -- a part is made by its bytes in the range and what there was outside
  pub put_part : ((f : ℕ) → f ≢ file → new f ≡ old f) → length (new file) ≡ len → length (old file) ≤ len
      → ((j : ℕ) → j < length bytes → at + j < len → get_or (new file) (at + j) 0 ≡ get_or bytes j 0)
      → ((i : ℕ) → i < len → (i < at) ⊎ (at + length bytes ≤ i) → get_or (new file) i 0 ≡ get_or (old file) i 0)
      → PutPart file at bytes len old new
  put_part others long no_shorter inside outside = record {
    others = others;
    long = long;
    no_shorter = no_shorter;
    bytes_are = by_range
        (λ j lt below. let e : at + j - at ≡ j = omega arith in
        inside j lt below ∙ sym (rw (within at (length bytes) (at + j) (omega arith) (omega arith))
        (ap (λ k. get_or bytes k 0) e)))
        (λ i below out. outside i below out ∙ sym (rw (beyond at (length bytes) i out)));
  }

  same_file : (next : List ℕ) → PutPart file at bytes len old new → length next ≡ len
      → ((j : ℕ) → j < length bytes → at + j < len → get_or next (at + j) 0 ≡ get_or bytes j 0)
      → ((i : ℕ) → i < len → (i < at) ⊎ (at + length bytes ≤ i) → get_or next i 0 ≡ get_or (old file) i 0)
      → new file ≡ next
  same_file next part long inside outside =
      let each : (i : ℕ) → i < len → get_or (new file) i 0 ≡ get_or next i 0 = by_range
      (λ j lt below. part_inside part j lt below ∙ sym (inside j lt below))
      (λ i below out. part_outside part i below out ∙ sym (outside i below out)) in
      let new_long = part.long in
      ext_get_or 0 (new file) next (new_long ∙ sym long) (λ i lt. each i (omega arith))

  same_image : (next : Image) → PutPart file at bytes len old new → ((f : ℕ) → f ≢ file → next f ≡ old f)
      → new file ≡ next file → new ≡ next
  same_image next part others here = fun_ext λ f. ⊎_elim
      (λ e. subst (λ q. new q ≡ next q) (sym e) here)
      (λ other. part.others f other ∙ sym (others f other))
      (cases_eq f file)

  -- a part that is all of a write is the write
  pub whole_part : 0 < length bytes → len ≡ max (length (old file)) (at + length bytes)
      → PutPart file at bytes len old new → new ≡ put_image old file at bytes
  whole_part some reaches part =
      let here = put_image_here old file at bytes in
      let ne : length bytes ≢ 0 = λ e. absurd (omega (arith, e)) in
      let put = same_file (put_bytes (old file) at bytes) part (length-put_some (old file) at bytes ne ∙ sym reaches)
      (λ j lt below. put_inside (old file) at bytes j lt)
      (λ i below out. put_outside (old file) at bytes i out) in
      same_image (put_image old file at bytes) part (put_image_elsewhere old file at bytes) (put ∙ sym here)

  -- a part that says what was there changes nothing
  pub same_part : PutPart file at bytes len old new → len ≡ length (old file)
      → ((j : ℕ) → j < length bytes → at + j < len → get_or bytes j 0 ≡ get_or (old file) (at + j) 0) → new ≡ old
  same_part part long agrees =
      same_image old part (λ f other. refl) (same_file (old file) part (sym long)
      (λ j lt below. sym (agrees j lt below)) (λ i below out. refl))

-- a part that has more around its bytes, but only what was there, is the part of these bytes alone
pub narrower : (file page from : ℕ) (content bytes : List ℕ) (len : ℕ) (old new : Image) → length content ≡ 256
    → from + length bytes ≤ 256
    → ((j : ℕ) → j < length bytes → get_or content (from + j) 0 ≡ get_or bytes j 0)
    → ((j : ℕ) → j < 256 → (j < from) ⊎ (from + length bytes ≤ j)
    → get_or content j 0 ≡ get_or (old file) (256 * page + j) 0)
    → PutPart file (256 * page) content len old new → PutPart file (256 * page + from) bytes len old new
narrower file page from content bytes len old new full room has around part =
    put_part file (256 * page + from) bytes len old new part.others part.long part.no_shorter
    (λ j lt below.
    let e : 256 * page + (from + j) ≡ 256 * page + from + j = omega arith in
    subst (λ i. get_or (new file) i 0 ≡ get_or content (from + j) 0) e
    (part_inside file (256 * page) content len old new part (from + j) (omega arith) (omega arith)) ∙ has j lt)
    (by_range file (256 * page) content len old new
    {P = λ i. (i < 256 * page + from) ⊎ (256 * page + from + length bytes ≤ i)
    → get_or (new file) i 0 ≡ get_or (old file) i 0}
    (λ j lt below out. part_inside file (256 * page) content len old new part j lt below
    ∙ around j (omega arith) (⊎_elim (λ before. inl (omega (arith, before))) (λ past. inr (omega (arith, past))) out))
    (λ i below out apart. part_outside file (256 * page) content len old new part i below out))

-- ---- what a write that was cut short leaves

-- nothing done is a write cut short
pub torn_refl : (file at n : ℕ) (image : Image) → TornImage file at n image image
torn_refl file at n image = record {
  others = λ f other. refl;
  torn = record { kept = λ i inside out. refl; no_shorter = omega arith; no_longer = omega arith };
}

-- a write cut short and then again is one cut short
pub torn_then : (file at n : ℕ) (a b c : Image) → TornImage file at n a b → TornImage file at n b c
    → TornImage file at n a c
torn_then file at n a b c first second =
    let short = first.torn.no_shorter in
    let long = first.torn.no_longer in
    let shorter = second.torn.no_shorter in
    let longer = second.torn.no_longer in
    record {
      others = λ f other. second.others f other ∙ first.others f other;
      torn = record {
        kept = λ i inside out. second.torn.kept i (omega arith) out ∙ first.torn.kept i inside out;
        no_shorter = omega arith;
        no_longer = omega arith;
      };
    }

-- a part of a write is a write cut short
pub torn_part : (file at n a : ℕ) (part : List ℕ) (len : ℕ) (old new : Image) → PutPart file a part len old new → at ≤ a
    → a + length part ≤ at + n
    → 0 < n → len ≤ max (length (old file)) (at + n) → TornImage file at n old new
torn_part file at n a part len old new put from to some reach =
    let long = put.long in
    let no_shorter = put.no_shorter in
    let ne : n ≢ 0 = λ e. absurd (omega (arith, e)) in
    record {
      others = put.others;
      torn = record {
        kept = λ i inside out. part_outside file a part len old new put i (omega arith)
            (⊎_elim (λ before. inl (omega (arith, before))) (λ past. inr (omega (arith, past))) out);
        no_shorter = omega arith;
        no_longer = rw (ne_eqb n 0 ne) (omega arith);
      };
    }

-- ---- part after part

-- two parts one after the other are one
pub part_then : (file at : ℕ) (front back : List ℕ) (len : ℕ) (a b c : Image) → PutPart file at front len a b
    → PutPart file (at + length front) back len b c → PutPart file at (front ++ back) len a c
part_then file at front back len a b c first second =
    let both = length-append front back in
    put_part file at (front ++ back) len a c (λ f other. second.others f other ∙ first.others f other) second.long
    first.no_shorter
    (λ j lt below. ⊎_elim
    (λ early. part_outside file (at + length front) back len b c second (at + j) below (inl (omega arith))
    ∙ part_inside file at front len a b first j early below ∙ sym (get_or_append_left front back 0 j early))
    (λ late.
    let e : at + length front + (j - length front) ≡ at + j = omega arith in
    subst (λ i. get_or (c file) i 0 ≡ get_or back (j - length front) 0) e
    (part_inside file (at + length front) back len b c second (j - length front) (omega arith) (omega arith))
    ∙ sym (get_or-append_right front back (length front) j 0 refl late))
    (cases_lt j (length front)))
    (λ i below out.
    let apart : (i < at) ⊎ (at + (length front + length back) ≤ i) = subst (λ n. (i < at) ⊎ (at + n ≤ i)) both out in
    part_outside file (at + length front) back len b c second i below
    (⊎_elim (λ before. inl (omega (arith, before))) (λ past. inr (omega (arith, past))) apart)
    ∙ part_outside file at front len a b first i below (⊎_elim (λ before. inl before)
    (λ past. inr (omega (arith, past))) apart))

-- the first k bytes of a write are done: none yet, or a part
abbrev pub PartSoFar : (file at : ℕ) → List ℕ → (len k : ℕ) → Image → Image → Type 0
PartSoFar file at bytes len k image0 image = ((k ≡ 0) × (image ≡ image0))
    ⊎ PutPart file at (take k bytes) len image0 image

module _ (file at : ℕ) (bytes : List ℕ) (len : ℕ) (image0 : Image) where
  -- at the start none are
  pub part_from_nothing : PartSoFar file at bytes len 0 image0 image0
  part_from_nothing = inl (refl, refl)

  -- the next m bytes
  pub part_more : (k m : ℕ) (image next : Image) → k ≤ length bytes → PartSoFar file at bytes len k image0 image
      → PutPart file (at + k) (take m (drop k bytes)) len image next
      → PutPart file at (take (k + m) bytes) len image0 next
  part_more k m image next inside so_far more = ⊎_elim
      (λ none.
      let z : k ≡ 0 = none.0 in
      let e : at + k ≡ at = omega arith in
      let front : PutPart file at (take m (drop k bytes)) len image0 next =
      subst (λ i. PutPart file at (take m (drop k bytes)) len i next) none.1
      (subst (λ i. PutPart file i (take m (drop k bytes)) len image next) e more) in
      subst (λ q. PutPart file at q len image0 next) (sym
      (take-add k m bytes ∙ ap (λ q. take q bytes ++ take m (drop k bytes)) z)) front)
      (λ front.
      let long = length-take-le k bytes inside in
      subst (λ q. PutPart file at q len image0 next) (sym (take-add k m bytes))
      (part_then file at (take k bytes) (take m (drop k bytes)) len image0 image next front
      (subst (λ n. PutPart file (at + n) (take m (drop k bytes)) len image next) (sym long) more)))
      so_far

  -- all bytes are done
  pub part_all : (image : Image) → 0 < length bytes → PartSoFar file at bytes len (length bytes) image0 image
      → PutPart file at bytes len image0 image
  part_all image some so_far = ⊎_elim
      (λ none. let z = none.0 in absurd (omega arith))
      (λ all. subst (λ q. PutPart file at q len image0 image) (take_all (length bytes) bytes (omega arith)) all)
      so_far

  -- what is done is a write cut short
  pub torn_so_far : (k : ℕ) (image : Image) → k ≤ length bytes → 0 < length bytes
      → len ≤ max (length (image0 file)) (at + length bytes)
      → PartSoFar file at bytes len k image0 image → TornImage file at (length bytes) image0 image
  torn_so_far k image inside some reach so_far = ⊎_elim
      (λ none. subst (TornImage file at (length bytes) image0) (sym none.1) (torn_refl file at (length bytes) image0))
      (λ front. let long = length-take-le k bytes inside in
      torn_part file at (length bytes) at (take k bytes) len image0 image front (omega arith) (omega arith) some reach)
      so_far

  -- and so it is in the middle of the next part
  pub torn_in_more : (k m : ℕ) (image left : Image) → k + m ≤ length bytes → 0 < length bytes
      → len ≤ max (length (image0 file)) (at + length bytes)
      → PartSoFar file at bytes len k image0 image → PutOrNot file (at + k) (take m (drop k bytes)) len image left
      → TornImage file at (length bytes) image0 left
  torn_in_more k m image left inside some reach so_far more = ⊎_elim
      (λ same. torn_so_far k left (omega arith) some reach
      (subst (PartSoFar file at bytes len k image0) (sym same) so_far))
      (λ done. torn_so_far (k + m) left inside some reach (inr (part_more k m image left (omega arith) so_far done)))
      more
