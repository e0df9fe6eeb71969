-- Two writes of neighbouring bytes are one.
use Rattle.std.proofs.Common.{◌≡◌, ◌≢◌, ◌⊎◌, ℕ, ◌+◌, ◌-◌, ◌<◌, ◌≤◌, List, length, take, drop, get_or, refl, sym, ◌∙◌}
use Rattle.std.proofs.Common.{ap, subst, inl, inr, ⊎_elim, arith, cond, eq-eqb, ne_eqb, ◌==◌, Bool, true, false}
use Rattle.std.proofs.lemmas.List.{ext_get_or, length-take-le, length-drop, get_or-take, get_or-drop}
use Rattle.std.proofs.lemmas.Bool.{cases_lt, cases_eq}
use Rattle.disk_model.specs.Image.{Image, end_of, put_bytes, put_image}
use Rattle.disk_model.specs.Written.{put_none, put_outside, put_inside, length-put_bytes}

end_at : (at n : ℕ) → (end_of at n ≡ 0) × (n ≡ 0) ⊎ (end_of at n ≡ at + n) × (n ≢ 0)
end_at at n = ⊎_elim
    (λ e. inl (subst (λ b. cond b 0 (at + n) ≡ 0) (sym (eq-eqb n 0 e)) refl, e))
    (λ ne. inr (subst (λ b. cond b 0 (at + n) ≡ at + n) (sym (ne_eqb n 0 ne)) refl, ne))
    (cases_eq n 0)

module _ (old : List ℕ) (at : ℕ) (bytes : List ℕ) (n k : ℕ) (fits : n + k ≤ length bytes) where
  abbrev first : List ℕ
  first = take n bytes

  abbrev second : List ℕ
  second = take k (drop n bytes)

  abbrev both : List ℕ
  both = take (n + k) bytes

  abbrev mid : List ℕ
  mid = put_bytes old at first

  len_first : length first ≡ n
  len_first = length-take-le n bytes (omega arith)

  len_second : length second ≡ k
  len_second = length-take-le k (drop n bytes) (omega (arith, length-drop n bytes))

  len_both : length both ≡ n + k
  len_both = length-take-le (n + k) bytes fits

  lengths : length (put_bytes mid (at + n) second) ≡ length (put_bytes old at both)
  lengths =
      let a = length-put_bytes mid (at + n) second in
      let b = length-put_bytes old at first in
      let c = length-put_bytes old at both in
      let e1 : end_of at (length first) ≡ end_of at n = ap (λ x. end_of at x) len_first in
      let e2 : end_of (at + n) (length second) ≡ end_of (at + n) k = ap (λ x. end_of (at + n) x) len_second in
      let e3 : end_of at (length both) ≡ end_of at (n + k) = ap (λ x. end_of at x) len_both in
      ⊎_elim
      (λ z1. ⊎_elim
      (λ z2. ⊎_elim (λ z3. omega (arith, a, b, c, e1, e2, e3, z1.0, z1.1, z2.0, z2.1, z3.0, z3.1))
      (λ z3. omega (arith, a, b, c, e1, e2, e3, z1.0, z1.1, z2.0, z2.1, z3.0, z3.1)) (end_at at (n + k)))
      (λ z2. ⊎_elim (λ z3. omega (arith, a, b, c, e1, e2, e3, z1.0, z1.1, z2.0, z2.1, z3.0, z3.1))
      (λ z3. omega (arith, a, b, c, e1, e2, e3, z1.0, z1.1, z2.0, z2.1, z3.0, z3.1)) (end_at at (n + k)))
      (end_at (at + n) k))
      (λ z1. ⊎_elim
      (λ z2. ⊎_elim (λ z3. omega (arith, a, b, c, e1, e2, e3, z1.0, z1.1, z2.0, z2.1, z3.0, z3.1))
      (λ z3. omega (arith, a, b, c, e1, e2, e3, z1.0, z1.1, z2.0, z2.1, z3.0, z3.1)) (end_at at (n + k)))
      (λ z2. ⊎_elim (λ z3. omega (arith, a, b, c, e1, e2, e3, z1.0, z1.1, z2.0, z2.1, z3.0, z3.1))
      (λ z3. omega (arith, a, b, c, e1, e2, e3, z1.0, z1.1, z2.0, z2.1, z3.0, z3.1)) (end_at at (n + k)))
      (end_at (at + n) k))
      (end_at at n)

  out_of : (i : ℕ) → (i < at) ⊎ (at + (n + k) ≤ i)
      → get_or (put_bytes mid (at + n) second) i 0 ≡ get_or (put_bytes old at both) i 0
  out_of i out =
      put_outside mid (at + n) second i (⊎_elim (λ lt. inl (omega arith)) (λ le. inr (omega (arith, len_second))) out)
      ∙ put_outside old at first i (⊎_elim (λ lt. inl lt) (λ le. inr (omega (arith, len_first))) out)
      ∙ sym (put_outside old at both i (⊎_elim (λ lt. inl lt) (λ le. inr (omega (arith, len_both))) out))

  in_first : (j : ℕ) → j < n
      → get_or (put_bytes mid (at + n) second) (at + j) 0 ≡ get_or (put_bytes old at both) (at + j) 0
  in_first j lt =
      put_outside mid (at + n) second (at + j) (inl (omega arith))
      ∙ put_inside old at first j (omega (arith, len_first))
      ∙ get_or-take n bytes j 0 lt
      ∙ sym (get_or-take (n + k) bytes j 0 (omega arith))
      ∙ sym (put_inside old at both j (omega (arith, len_both)))

  in_second : (j : ℕ) → j < k
      → get_or (put_bytes mid (at + n) second) (at + n + j) 0 ≡ get_or (put_bytes old at both) (at + n + j) 0
  in_second j lt =
      put_inside mid (at + n) second j (omega (arith, len_second))
      ∙ get_or-take k (drop n bytes) j 0 lt
      ∙ get_or-drop n bytes j 0
      ∙ sym (get_or-take (n + k) bytes (n + j) 0 (omega arith))
      ∙ sym (put_inside old at both (n + j) (omega (arith, len_both)))
      ∙ (let e : at + (n + j) ≡ at + n + j = omega arith in ap (λ i. get_or (put_bytes old at both) i 0) e)

  pub put_on : put_bytes mid (at + n) second ≡ put_bytes old at both
  put_on = ext_get_or 0 (put_bytes mid (at + n) second) (put_bytes old at both) lengths
      (λ i lt. ⊎_elim
      (λ before. out_of i (inl before))
      (λ from. ⊎_elim
      (λ inside.
      let e : at + (i - at) ≡ i = omega arith in
      let l : i - at < n = omega arith in
      subst (λ x. get_or (put_bytes mid (at + n) second) x 0 ≡ get_or (put_bytes old at both) x 0) e
      (in_first (i - at) l))
      (λ past. ⊎_elim
      (λ inside.
      let e : at + n + (i - (at + n)) ≡ i = omega arith in
      let l : i - (at + n) < k = omega arith in
      subst (λ x. get_or (put_bytes mid (at + n) second) x 0 ≡ get_or (put_bytes old at both) x 0) e
      (in_second (i - (at + n)) l))
      (λ beyond. out_of i (inr (omega arith)))
      (cases_lt i (at + (n + k))))
      (cases_lt i (at + n)))
      (cases_lt i at))

cond_on : (b : Bool) (x y : List ℕ) (f : List ℕ → List ℕ) (z : List ℕ) → f x ≡ z → cond b (f (cond b x y)) (cond b x
    y) ≡ cond b z y
cond_on true x y f z e = e
cond_on false x y f z e = refl

pub put_image_on : (image : Image) (file at : ℕ) (bytes : List ℕ) (n k : ℕ) → n + k ≤ length bytes
    → put_image (put_image image file at (take n bytes)) file (at + n) (take k (drop n bytes))
    ≡ put_image image file at (take (n + k) bytes)
put_image_on image file at bytes n k fits = λ i f.
    (cond_on (f == file) (put_bytes (image f) at (take n bytes)) (image f)
    (λ xs. put_bytes xs (at + n) (take k (drop n bytes))) (put_bytes (image f) at (take (n + k) bytes))
    (put_on (image f) at bytes n k fits)) i

cond_same : (b : Bool) (x y : List ℕ) → x ≡ y → cond b x y ≡ y
cond_same true x y e = e
cond_same false x y e = refl

-- a write of no bytes
pub put_image_none : (image : Image) (file at : ℕ) (bytes : List ℕ) → length bytes ≡ 0
    → put_image image file at bytes ≡ image
put_image_none image file at bytes none = λ i f.
    (cond_same (f == file) (put_bytes (image f) at bytes) (image f) (put_none (image f) at bytes none)) i
