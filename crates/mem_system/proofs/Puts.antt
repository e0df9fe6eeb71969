-- How a write in memory makes the bytes of a whole write.
use Rattle.std.proofs.Common.{◌≡◌, ◌≢◌, ◌⊎◌, ℕ, ◌+◌, ◌-◌, ◌<◌, ◌≤◌, List, length, replicate, get_or, sym, ap, ◌∙◌}
use Rattle.std.proofs.Common.{subst, inl, inr, ⊎_elim, arith}
use Rattle.std.proofs.lemmas.List.{ext_get_or, length-append, length-replicate}
use Rattle.std.proofs.lemmas.Bool.{cases_lt}
use Rattle.disk_model.specs.Image.{put_bytes}
use Rattle.disk_model.specs.History.{grown}
use Rattle.disk_model.specs.Written.{read_padded, put_outside, put_inside, length-put_some}

-- a file that was made long enough and then written over
pub put_is : (old bytes file new : List ℕ) (at : ℕ) → length bytes ≢ 0 → file ≡ grown old (at + length bytes)
    → length new ≡ length file
    → ((j : ℕ) → j < length bytes → get_or new (at + j) 0 ≡ get_or bytes j 0)
    → ((i : ℕ) → (i < at) ⊎ (at + length bytes ≤ i) → get_or new i 0 ≡ get_or file i 0)
    → new ≡ put_bytes old at bytes
put_is old bytes file new at some long same inside outside =
    let read_old : (i : ℕ) → get_or file i 0 ≡ get_or old i 0 =
    λ i. ap (λ xs. get_or xs i 0) long ∙ read_padded old (at + length bytes - length old) i in
    let around : (i : ℕ) → (i < at) ⊎ (at + length bytes ≤ i) → get_or new i 0 ≡ get_or (put_bytes old at bytes) i 0 =
    λ i out. outside i out ∙ read_old i ∙ sym (put_outside old at bytes i out) in
    let within : (i : ℕ) → at ≤ i → i < at + length bytes → get_or new i 0 ≡ get_or (put_bytes old at bytes) i 0 =
    λ i from to.
    let e : at + (i - at) ≡ i = omega arith in
    let lt : i - at < length bytes = omega arith in
    subst (λ k. get_or new k 0 ≡ get_or (put_bytes old at bytes) k 0) e
    (inside (i - at) lt ∙ sym (put_inside old at bytes (i - at) lt)) in
    ext_get_or 0 new (put_bytes old at bytes)
    (same ∙ ap length long ∙ omega (
      arith,
      length-append old (replicate (at + length bytes - length old) 0),
      length-replicate {A = ℕ} (at + length bytes - length old) 0,
      length-put_some old at bytes some,
    ))
    (λ i lt. ⊎_elim
    (λ before. around i (inl before))
    (λ from. ⊎_elim (within i from) (λ past. around i (inr past)) (cases_lt i (at + length bytes)))
    (cases_lt i at))
