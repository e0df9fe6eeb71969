-- What calls of the disk say of the bytes of a flash.
use Rattle.std.proofs.Common.{◌≡◌, ◌≢◌, ◌⊎◌, ℕ, ◌+◌, ◌-◌, ◌<◌, ◌≤◌, List, length, take, drop, max, min}
use Rattle.std.proofs.Common.{replicate, get_or, sym, ap, ◌∙◌, subst, inl, inr, ⊎_elim, arith}
use Rattle.std.proofs.lemmas.List.{get_or_default, get_or_past, get_or-replicate, get_or-take, length-replicate}
use Rattle.std.proofs.lemmas.List.{length-take-le, get_or-drop}
use Rattle.std.proofs.lemmas.Bool.{cases_lt}
use Rattle.disk_model.specs.Image.{Image, put_bytes, put_image}
use Rattle.disk_model.specs.Written.{put_outside, put_inside, length-put_some, put_image_here}
use Rattle.folder_flash.specs.Bytes.{flash_byte, AreFlashBytes, IsSameFlash, PutsIntoFlash}

-- outside a write of some bytes that begins within the file, or at its end
kept : (old : List ℕ) (at : ℕ) (bytes : List ℕ) → length bytes ≢ 0 → at ≤ length old → (i : ℕ)
    → (i < at) ⊎ (at + length bytes ≤ i) → flash_byte (put_bytes old at bytes) i ≡ flash_byte old i
kept old at bytes some within i outside =
    let long = length-put_some old at bytes some in
    ⊎_elim
    (λ inside. get_or_default (put_bytes old at bytes) i 255 0 (omega (arith, long))
    ∙ put_outside old at bytes i outside ∙ get_or_default old i 0 255 inside)
    (λ past. ⊎_elim
    (λ before. absurd (omega arith))
    (λ after. get_or_past (put_bytes old at bytes) i 255 (omega (arith, long)) ∙ sym (get_or_past old i 255 past))
    outside)
    (cases_lt i (length old))

-- a write that begins within the file, or at its end
pub puts : (old : List ℕ) (at : ℕ) (bytes : List ℕ) → length bytes ≢ 0 → at ≤ length old
    → PutsIntoFlash at bytes old (put_bytes old at bytes)
puts old at bytes some within =
    let long = length-put_some old at bytes some in
    record {
      inside = λ j lt. sym (put_inside old at bytes j lt)
          ∙ get_or_default (put_bytes old at bytes) (at + j) 0 255 (omega (arith, long));
      outside = kept old at bytes some within;
    }

-- blank bytes at the end of the file change no byte of the flash
pub fills : (old bytes : List ℕ) (at : ℕ) → length bytes ≢ 0 → at ≡ length old
    → ((j : ℕ) → j < length bytes → get_or bytes j 0 ≡ 255) → IsSameFlash old (put_bytes old at bytes)
fills old bytes at some end blank i =
    let done = puts old at bytes some (omega (arith, end)) in
    ⊎_elim
    (λ before. done.outside i (inl before))
    (λ from. ⊎_elim
    (λ inside.
    let e : at + (i - at) ≡ i = omega arith in
    let lt : i - at < length bytes = omega arith in
    subst (λ k. flash_byte (put_bytes old at bytes) k ≡ flash_byte old k) e
    (sym (done.inside (i - at) lt) ∙ blank (i - at) lt
    ∙ sym (get_or_past old (at + (i - at)) 255 (omega (arith, end)))))
    (λ past. done.outside i (inr past))
    (cases_lt i (at + length bytes)))
    (cases_lt i at)

-- what is blank up to a place, and then put there
pub fills_then_puts : (at : ℕ) (bytes old mid new : List ℕ) → IsSameFlash old mid → PutsIntoFlash at bytes mid new
    → PutsIntoFlash at bytes old new
fills_then_puts at bytes old mid new same done = record {
  inside = done.inside;
  outside = λ i outside. done.outside i outside ∙ same i;
}

-- the first of blank bytes
pub first_are_blank : (blank : List ℕ) (n : ℕ) → blank ≡ replicate 32768 255 → n ≤ 32768
    → (j : ℕ) → j < length (take n blank) → get_or (take n blank) j 0 ≡ 255
first_are_blank blank n is few j lt =
    let long : length blank ≡ 32768 = ap length is ∙ length-replicate {A = ℕ} 32768 255 in
    let within : j < n = omega (arith, lt, length-take-le n blank (omega (arith, long))) in
    get_or-take n blank j 0 within ∙ ap (λ xs. get_or xs j 0) is ∙ get_or-replicate 32768 j 255 0 (omega arith)

-- what was read, and blank bytes after it
pub reads : (file out got : List ℕ) (at n room : ℕ) → n ≡ min room (length file - at)
    → take n got ≡ take n (drop at file)
    → length out ≡ room → ((j : ℕ) → j < n → get_or out j 0 ≡ get_or got j 0)
    → ((j : ℕ) → n ≤ j → j < length out → get_or out j 0 ≡ 255) → AreFlashBytes file at out
reads file out got at n room is same long kept blank j lt = ⊎_elim
    (λ inside. kept j inside ∙ sym (get_or-take n got j 0 inside) ∙ ap (λ xs. get_or xs j 0) same
    ∙ get_or-take n (drop at file) j 0 inside ∙ get_or-drop at file j 0
    ∙ get_or_default file (at + j) 0 255 (omega (arith, inside, is)))
    (λ past. blank j past lt ∙ sym (get_or_past file (at + j) 255 (omega (arith, past, lt, is, long))))
    (cases_lt j n)

not_none : (n : ℕ) → 0 < n → n ≢ 0
not_none n some none = omega (arith, some, none)

-- ---- the same of an image whose file 0 has the bytes

pub length_after : (image : Image) (at : ℕ) (bytes : List ℕ) → 0 < length bytes
    → length (put_image image 0 at bytes 0) ≡ max (length (image 0)) (at + length bytes)
length_after image at bytes some = ap length (put_image_here image 0 at bytes)
    ∙ length-put_some (image 0) at bytes (not_none (length bytes) some)

pub puts_in : (image : Image) (at : ℕ) (bytes : List ℕ) → 0 < length bytes → at ≤ length (image 0)
    → PutsIntoFlash at bytes (image 0) (put_image image 0 at bytes 0)
puts_in image at bytes some within = subst (PutsIntoFlash at bytes (image 0)) (sym (put_image_here image 0 at bytes))
    (puts (image 0) at bytes (not_none (length bytes) some) within)

pub fills_in : (image : Image) (at : ℕ) (bytes : List ℕ) → 0 < length bytes → at ≡ length (image 0)
    → ((j : ℕ) → j < length bytes → get_or bytes j 0 ≡ 255) → IsSameFlash (image 0) (put_image image 0 at bytes 0)
fills_in image at bytes some end blank = subst (λ file. IsSameFlash (image 0) file)
    (sym (put_image_here image 0 at bytes)) (fills (image 0) bytes at (not_none (length bytes) some) end blank)
