-- What every copy holds alone stands when one copy holds anything.
use Rattle.std.proofs.Common.{◌≡◌, ◌≢◌, ◌⊎◌, ℕ, zero, suc, ◌+◌, ◌*◌, ◌<◌, ◌≤◌, List, sym, subst, inl, inr}
use Rattle.std.proofs.Common.{⊎_elim, arith}
use Rattle.std.proofs.lemmas.Bool.{cases_eq}
use Rattle.hash_guard.specs.SealedText.{VerifiesAs}
use Rattle.disk_model.specs.Image.{Image}
use Rattle.disk_model.specs.Damage.{AtLeast}
use Rattle.disk_model.specs.declared.place.Place.{Place}
use Rattle.guarded_cell.specs.Register.{own, Holds, IsHeldBy, IsAlone, IsStanding}
use Rattle.guarded_cell.specs.lemmas.StopLaws.{at_least_one, alone_only}

at_least_all : (P : ℕ → Type 0) (n m : ℕ) → ((c : ℕ) → c < n → P c) → m ≤ n → AtLeast P n m
at_least_all P n zero all few = tt
at_least_all P zero (suc m) all few = absurd (omega (arith, few))
at_least_all P (suc n) (suc m) all few = inl (
  all n (omega arith),
  at_least_all P n m (λ c below. all c (omega (arith, below))) (omega (arith, few)),
)

-- all but one are enough
pub at_least_but : (P : ℕ → Type 0) (lost n m : ℕ) → ((c : ℕ) → c < n → c ≢ lost → P c) → m < n → AtLeast P n m
at_least_but P lost n zero all few = tt
at_least_but P lost zero (suc m) all few = absurd (omega (arith, few))
at_least_but P lost (suc n) (suc m) all few = ⊎_elim
    (λ last. inr (at_least_all P n (suc m)
    (λ c below. all c (omega (arith, below)) (λ same. omega (arith, below, last, same))) (omega (arith, few))))
    (λ apart. inl (
      all n (omega arith) apart,
      at_least_but P lost n m (λ c below. all c (omega (arith, below))) (omega (arith, few)),
    ))
    (cases_eq n lost)

-- of two or more one is not the lost one
pub another_of : (P : ℕ → Type 0) (lost n m : ℕ) → 2 ≤ m → AtLeast P n m → (c : ℕ) × (c < n) × (c ≢ lost) × P c
another_of P lost n zero two has = absurd (omega (arith, two))
another_of P lost zero (suc m) two has = absurd has
another_of P lost (suc n) (suc m) two has = ⊎_elim
    (λ both. ⊎_elim
    (λ last. let found = at_least_one P n m (omega (arith, two)) both.1 in let below = found.1 in (
      found.0,
      omega (arith, below),
      (λ same. omega (arith, below, last, same)),
      found.2,
    ))
    (λ apart. (n, omega arith, apart, both.0))
    (cases_eq n lost))
    (λ rest. let found = another_of P lost n (suc m) two rest in (
      found.0,
      (let below = found.1 in omega (arith, below)),
      found.2,
      found.3,
    ))
    has

module _ (old new : Image) (place : Place) (lost g : ℕ) (text : List ℕ)
    (same : (c k : ℕ) → c < place.copies → c ≢ lost → k < 4
    → new (place.first + 4 * c + k) ≡ old (place.first + 4 * c + k))
    (alone : IsAlone old place g text) where
  still_held : (c : ℕ) → c < place.copies → c ≢ lost → Holds new place c g text
  still_held c inside apart = subst (λ s. VerifiesAs s g text)
      (sym (same c (own g) inside apart (omega arith))) (alone.held c inside)

  -- a copy that was not lost holds no other
  still_alone : (c h : ℕ) (t : List ℕ) → c < place.copies → c ≢ lost → Holds new place c h t → (h ≡ g) × (t ≡ text)
  still_alone c h t inside apart holds = alone_only old place g text alone c inside h t
      (subst (λ s. VerifiesAs s h t) (same c (own h) inside apart (omega arith)) holds)

  enough : (m : ℕ) → m < place.copies → IsHeldBy new place m g text
  enough m few = at_least_but (λ c. Holds new place c g text) lost place.copies m still_held few

  pub outvoted_only : (m : ℕ) → 2 ≤ m → (h : ℕ) (t : List ℕ) → IsHeldBy new place m h t → (h ≡ g) × (t ≡ text)
  outvoted_only m two h t held =
      let found = another_of (λ c. Holds new place c h t) lost place.copies m two held in
      still_alone found.0 h t found.1 found.2 found.3

  pub outvoted : (m : ℕ) → 2 ≤ m → m < place.copies → IsStanding new place m g text
  outvoted m two few = record {
    enough = enough m few;
    greatest = λ h t held. (let same : h ≡ g = (outvoted_only m two h t held).0 in omega (arith, same));
  }

  -- also where one copy is enough, unless one gives a greater generation
  pub stands_still : (m : ℕ) → 1 ≤ m → m < place.copies
      → ((c h : ℕ) (t : List ℕ) → c < place.copies → Holds new place c h t → h ≤ g) → IsStanding new place m g text
  stands_still m positive few most = record {
    enough = enough m few;
    greatest = λ h t held.
        (let found = at_least_one (λ c. Holds new place c h t) place.copies m positive held in
        most found.0 h t found.1 found.2);
  }

  -- and no other stands, unless one has as great a generation
  pub stands_alone : (h : ℕ) (t : List ℕ) → 1 < place.copies
      → ((c i : ℕ) (u : List ℕ) → c < place.copies → Holds new place c i u → (i < g) ⊎ ((i ≡ g) × (u ≡ text)))
      → IsStanding new place 1 h t → (h ≡ g) × (t ≡ text)
  stands_alone h t few below stands =
      let found = at_least_one (λ c. Holds new place c h t) place.copies 1 (omega arith) stands.enough in
      let high = stands.greatest g text (enough 1 few) in
      ⊎_elim
      (λ less. absurd (omega (arith, high, less)))
      (λ same. same)
      (below found.0 h t found.1 found.2)
