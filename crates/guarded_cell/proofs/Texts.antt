-- A text, or a blank, written at the start of a slot.
use Rattle.std.proofs.Common.{◌≡◌, ◌≢◌, ℕ, ◌+◌, ◌-◌, ◌^◌, ◌<◌, ◌≤◌, List, ◌++◌, length, take, drop, replicate, refl}
use Rattle.std.proofs.Common.{sym, ap, ◌∙◌, subst, ⊎_elim, zero-add, eqb, ne_eqb, arith}
use Rattle.std.proofs.lemmas.List.{drop_at}
use Rattle.std.proofs.lemmas.Bool.{cond-false, cases_eq}
use Rattle.hash_guard.specs.SealedText.{sealed, max_body, VerifiesAs}
use Rattle.hash_guard.specs.Laws.{length-sealed, sealed_verifies, verifies_once, blank_never}
use Rattle.disk_model.specs.Image.{put_bytes}
use Rattle.disk_model.specs.Written.{put_none}
use Rattle.guarded_cell.specs.Register.{IsBlank}

put_front : (old bytes : List ℕ) → length bytes ≢ 0 → put_bytes old 0 bytes ≡ bytes ++ drop (length bytes) old
unfolding put_bytes
put_front old bytes some =
    cond-false (eqb (length bytes) 0) old (take 0 (old ++ replicate (0 - length old) 0) ++ bytes
    ++ drop (0 + length bytes) old) (ne_eqb (length bytes) 0 some)
    ∙ ap (λ (n : ℕ). bytes ++ drop n old) (zero-add (length bytes))

-- bytes that are written again change nothing
pub put_twice : (old bytes : List ℕ) → put_bytes (put_bytes old 0 bytes) 0 bytes ≡ put_bytes old 0 bytes
put_twice old bytes = ⊎_elim
    (λ none. put_none (put_bytes old 0 bytes) 0 bytes none)
    (λ some. put_front (put_bytes old 0 bytes) bytes some
    ∙ ap (λ (xs : List ℕ). bytes ++ drop (length bytes) xs) (put_front old bytes some)
    ∙ ap (λ (xs : List ℕ). bytes ++ xs) (drop_at bytes (drop (length bytes) old) (length bytes) refl)
    ∙ sym (put_front old bytes some))
    (cases_eq (length bytes) 0)

-- a sealed text at the start of a slot verifies, and nothing else does there
pub put_verifies : (old : List ℕ) (generation : ℕ) (text : List ℕ) → 1 ≤ generation → generation < 2 ^ 64
    → length text ≤ max_body
    → VerifiesAs (put_bytes old 0 (sealed generation text)) generation text
put_verifies old generation text positive fits short =
    let some : length (sealed generation text) ≢ 0 = λ e. omega (arith, e, length-sealed generation text) in
    subst (λ (slot : List ℕ). VerifiesAs slot generation text) (sym (put_front old (sealed generation text) some))
    (sealed_verifies generation text (drop (length (sealed generation text)) old) positive fits short)

pub put_only : (old : List ℕ) (generation : ℕ) (text : List ℕ) → 1 ≤ generation → generation < 2 ^ 64
    → length text ≤ max_body
    → (h : ℕ) (t : List ℕ) → VerifiesAs (put_bytes old 0 (sealed generation text)) h t → (h ≡ generation) × (t ≡ text)
put_only old generation text positive fits short h t v =
    verifies_once (put_bytes old 0 (sealed generation text)) h generation t text v
    (put_verifies old generation text positive fits short)

-- zeros at the start of a slot blank it
pub put_blank : (old : List ℕ) → IsBlank (put_bytes old 0 (replicate 44 0))
put_blank old g t v =
    let long : length (replicate {A = ℕ} 44 0) ≡ 44 = refl in
    let some : length (replicate {A = ℕ} 44 0) ≢ 0 = λ e. omega (arith, e, long) in
    blank_never (drop (length (replicate {A = ℕ} 44 0)) old) g t
    (subst (λ (slot : List ℕ). VerifiesAs slot g t) (put_front old (replicate 44 0) some) v)
