-- The lightest of the blocks so far, after one more was looked at.
use Rattle.std.proofs.Common.{◌≡◌, ◌≢◌, ◌⊎◌, ℕ, ◌+◌, ◌<◌, ◌≤◌, sym, subst, inl, inr, ⊎_elim, arith}
use Rattle.std.proofs.lemmas.Bool.{cases_lt}

module _ (load : ℕ → ℕ) (but blocks : ℕ) where
  abbrev pub IsBest : ℕ → ℕ → Type 0
  IsBest block best = (best ≢ but → best < blocks) × ((b : ℕ) → b < block → b ≢ but
      → (best ≢ but) × (load best ≤ load b))

  abbrev pub Beats : ℕ → ℕ → Type 0
  Beats block best = (block ≢ but) × ((best ≡ but) ⊎ (load block < load best))

  pub taken : (block best : ℕ) → block < blocks → IsBest block best → Beats block best → IsBest (block + 1) block
  taken block best within is beats = (
    (λ _. within),
    (λ b below other. ⊎_elim
        (λ before. (
          beats.0,
          (let old = is.1 b before other in ⊎_elim
              (λ none. absurd (old.0 none))
              (λ less. let le = old.1 in omega (arith, less, le))
              beats.1),
        ))
        (λ past. let e : block ≡ b = omega arith in subst (λ q. (block ≢ but) × (load block ≤ load q)) e
        (beats.0, omega arith))
        (cases_lt b block)),
  )

  pub kept : (block best : ℕ) → IsBest block best → (Beats block best → ⊥) → IsBest (block + 1) best
  kept block best is worse = (
    is.0,
    (λ b below other. ⊎_elim
        (λ before. is.1 b before other)
        (λ past. let e : block ≡ b = omega arith in let apart : block ≢ but = subst (λ q. q ≢ but) (sym e) other in
        subst (λ q. (best ≢ but) × (load best ≤ load q)) e (
          (λ same. worse (apart, inl same)),
          ⊎_elim (λ less. absurd (worse (apart, inr less))) (λ le. le)
              (cases_lt (load block) (load best)),
        ))
        (cases_lt b block)),
  )
