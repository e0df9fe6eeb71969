-- What a whole write leaves, byte by byte, and that it is one way to tear the write.
use Rattle.std.specs.Prelude.{◌≡◌, ◌≢◌, ◌⊎◌, ℕ, ◌+◌, ◌-◌, ◌<◌, ◌≤◌, max, List, ◌++◌, length, take, drop, replicate}
use Rattle.std.specs.Prelude.{get_or, cond, Bool}
use Rattle.std.proofs.Common.{refl, sym, ap, ◌∙◌, subst, ⊎_elim, arith, eq-eqb, ne_eqb}
use Rattle.std.proofs.lemmas.List.{length-append, length-drop, length-take-le, get_or_append_left, get_or-append_right}
use Rattle.std.proofs.lemmas.List.{get_or-take, get_or-drop, get_or-replicate, get_or_past, length-replicate}
use Rattle.std.proofs.lemmas.Bool.{cases_lt, cases_eq}
use Rattle.disk_model.specs.Image.{Image, end_of, put_bytes, put_image, Torn, TornImage}

read_zeros : (n i : ℕ) → get_or {A = ℕ} (replicate n 0) i 0 ≡ 0
read_zeros n i = ⊎_elim
    (λ inside. get_or-replicate n i 0 0 inside)
    (λ past. get_or_past (replicate n 0) i 0 (omega (arith, length-replicate {A = ℕ} n 0)))
    (cases_lt i n)

-- zeros past the end read as nothing there
pub read_padded : (old : List ℕ) (n i : ℕ) → get_or (old ++ replicate n 0) i 0 ≡ get_or old i 0
read_padded old n i = ⊎_elim
    (λ inside. get_or_append_left old (replicate n 0) 0 i inside)
    (λ past. get_or-append_right old (replicate n 0) (length old) i 0 refl past ∙ read_zeros n (i - length old)
    ∙ sym (get_or_past old i 0 past))
    (cases_lt i (length old))

module _ (old : List ℕ) (at : ℕ) (bytes : List ℕ) where
  -- what stands before the bytes: as many bytes as their place says
  unfoldable before : List ℕ
  before = take at (old ++ replicate (at - length old) 0)

  unfoldable after : List ℕ
  after = drop (at + length bytes) old

  length-before : length before ≡ at
  unfolding before
  length-before = length-take-le at (old ++ replicate (at - length old) 0)
      (omega (arith, length-append old (replicate (at - length old) 0), length-replicate {A = ℕ} (at - length old) 0))

  length-after : length after ≡ length old - (at + length bytes)
  unfolding after
  length-after = length-drop (at + length bytes) old

  length-spliced : length (before ++ bytes ++ after) ≡ max (length old) (at + length bytes)
  length-spliced = omega (
    arith,
    length-append (before ++ bytes) after,
    length-append before bytes,
    length-before,
    length-after,
  )

  read_before : (i : ℕ) → i < at → get_or (before ++ bytes ++ after) i 0 ≡ get_or old i 0
  unfolding before
  read_before i inside =
      get_or_append_left (before ++ bytes) after 0 i (omega (arith, length-append before bytes, length-before))
      ∙ get_or_append_left before bytes 0 i (omega (arith, length-before))
      ∙ get_or-take at (old ++ replicate (at - length old) 0) i 0 inside
      ∙ read_padded old (at - length old) i

  read_inside : (j : ℕ) → j < length bytes → get_or (before ++ bytes ++ after) (at + j) 0 ≡ get_or bytes j 0
  read_inside j inside =
      get_or_append_left (before ++ bytes) after 0 (at + j) (omega (arith, length-append before bytes, length-before))
      ∙ get_or-append_right before bytes at (at + j) 0 length-before (omega arith)
      ∙ (let e : at + j - at ≡ j = omega arith in ap (λ k. get_or bytes k 0) e)

  read_after : (i : ℕ) → at + length bytes ≤ i → get_or (before ++ bytes ++ after) i 0 ≡ get_or old i 0
  unfolding after
  read_after i past =
      get_or-append_right (before ++ bytes) after (at + length bytes) i 0
      (length-append before bytes ∙ ap (λ n. n + length bytes) length-before) past
      ∙ get_or-drop (at + length bytes) old (i - (at + length bytes)) 0
      ∙ (let e : at + length bytes + (i - (at + length bytes)) ≡ i = omega arith in ap (λ k. get_or old k 0) e)

  -- a write of no bytes, or of some
  put_cases : (P : List ℕ → Type 0) → (length bytes ≡ 0 → P old) → (length bytes ≢ 0 → P (before ++ bytes ++ after))
      → P (put_bytes old at bytes)
  unfolding before after put_bytes
  put_cases P none some = ⊎_elim
      (λ e. subst (λ b. P (cond b old (before ++ bytes ++ after))) (sym (eq-eqb (length bytes) 0 e)) (none e))
      (λ ne. subst (λ b. P (cond b old (before ++ bytes ++ after))) (sym (ne_eqb (length bytes) 0 ne)) (some ne))
      (cases_eq (length bytes) 0)

  -- a write of no bytes changes nothing
  pub put_none : length bytes ≡ 0 → put_bytes old at bytes ≡ old
  put_none none = put_cases (λ new. new ≡ old) (λ _. refl) (λ some. absurd (some none))

  -- outside the range a file reads as before
  pub put_outside : (i : ℕ) → (i < at) ⊎ (at + length bytes ≤ i) → get_or (put_bytes old at bytes) i 0 ≡ get_or old i 0
  put_outside i outside = put_cases (λ new. get_or new i 0 ≡ get_or old i 0) (λ _. refl)
      (λ _. ⊎_elim (read_before i) (read_after i) outside)

  -- in the range it reads as what was written
  pub put_inside : (j : ℕ) → j < length bytes → get_or (put_bytes old at bytes) (at + j) 0 ≡ get_or bytes j 0
  put_inside j inside = put_cases (λ new. get_or new (at + j) 0 ≡ get_or bytes j 0) (λ none. absurd (omega arith))
      (λ _. read_inside j inside)

  -- it reaches as far as before, and as far as the bytes do
  pub length-put_bytes : length (put_bytes old at bytes) ≡ max (length old) (end_of at (length bytes))
  unfolding before after put_bytes
  length-put_bytes =
      let P : Bool → Type 0 = λ b. length (cond b old (before ++ bytes ++ after))
      ≡ max (length old) (cond b 0 (at + length bytes)) in
      ⊎_elim
      (λ e. subst P (sym (eq-eqb (length bytes) 0 e)) (omega arith))
      (λ ne. subst P (sym (ne_eqb (length bytes) 0 ne)) length-spliced)
      (cases_eq (length bytes) 0)

  -- a write of some bytes
  pub length-put_some : length bytes ≢ 0 → length (put_bytes old at bytes) ≡ max (length old) (at + length bytes)
  length-put_some some = put_cases (λ new. length new ≡ max (length old) (at + length bytes))
      (λ none. absurd (some none)) (λ _. length-spliced)

  -- a whole write is one way to tear it
  pub put_torn : Torn at (length bytes) old (put_bytes old at bytes)
  put_torn = record {
    kept = λ i inside outside. put_outside i outside;
    no_shorter = omega (arith, length-put_bytes);
    no_longer = omega (arith, length-put_bytes);
  }

-- what a whole write makes of the file that it is in, and that it leaves every other file
pub put_image_here : (image : Image) (file at : ℕ) (bytes : List ℕ)
    → put_image image file at bytes file ≡ put_bytes (image file) at bytes
put_image_here image file at bytes =
    subst (λ b. cond b (put_bytes (image file) at bytes) (image file) ≡ put_bytes (image file) at bytes)
    (sym (eq-eqb file file refl)) refl

pub put_image_elsewhere : (image : Image) (file at : ℕ) (bytes : List ℕ) (f : ℕ) → f ≢ file
    → put_image image file at bytes f ≡ image f
put_image_elsewhere image file at bytes f other =
    subst (λ b. cond b (put_bytes (image f) at bytes) (image f) ≡ image f) (sym (ne_eqb f file other)) refl

-- a whole write is one way to tear it
pub put_tears : (image : Image) (file at : ℕ) (bytes : List ℕ)
    → TornImage file at (length bytes) image (put_image image file at bytes)
put_tears image file at bytes = record {
  others = put_image_elsewhere image file at bytes;
  torn = subst (λ new. Torn at (length bytes) (image file) new) (sym (put_image_here image file at bytes))
      (put_torn (image file) at bytes);
}
