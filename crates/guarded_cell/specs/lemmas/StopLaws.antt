-- What the stops of a register say of the text that stands.
use Rattle.std.proofs.Common.{◌≡◌, ◌⊎◌, ℕ, zero, suc, ◌+◌, ◌<◌, ◌≤◌, List, subst, inl, inr, ⊎_elim, arith}
use Rattle.std.proofs.lemmas.Bool.{cases_eq, cases_lt}
use Rattle.hash_guard.specs.SealedText.{VerifiesAs}
use Rattle.hash_guard.specs.Laws.{verifies_once}
use Rattle.disk_model.specs.Image.{Image}
use Rattle.disk_model.specs.Damage.{AtLeast, IsUndamaged}
use Rattle.disk_model.specs.Place.{slot}
use Rattle.disk_model.specs.declared.place.Place.{Place}
use Rattle.guarded_cell.specs.Register.{Holds, IsHeldBy, IsAlone, IsStanding, HasNoStanding, IsOneEach, own, other}
use Rattle.guarded_cell.specs.Stops.{IsOldOrNew}

-- ---- that many of the copies

pub at_least_map : (P Q : ℕ → Type 0) (n m : ℕ) → ((c : ℕ) → c < n → P c → Q c) → AtLeast P n m → AtLeast Q n m
at_least_map P Q n zero f some = tt
at_least_map P Q zero (suc m) f some = absurd some
at_least_map P Q (suc n) (suc m) f some = ⊎_elim
    (λ both. inl (f n (omega arith) both.0, at_least_map P Q n m (λ c lt. f c (omega (arith, lt))) both.1))
    (λ rest. inr (at_least_map P Q n (suc m) (λ c lt. f c (omega (arith, lt))) rest))
    some

one_of : (P : ℕ → Type 0) (n m : ℕ) → AtLeast P n (suc m) → (c : ℕ) × (c < n) × P c
one_of P zero m some = absurd some
one_of P (suc n) m some = ⊎_elim
    (λ both. (n, omega arith, both.0))
    (λ rest. let (c, lt, it) = one_of P n m rest in (c, omega (arith, lt), it))
    some

-- where m is at least 1, one of them
pub at_least_one : (P : ℕ → Type 0) (n m : ℕ) → 1 ≤ m → AtLeast P n m → (c : ℕ) × (c < n) × P c
at_least_one P n zero positive some = absurd (omega (arith, positive))
at_least_one P n (suc m) positive some = one_of P n m some

-- ---- a text alone

-- where each copy holds a text alone, a copy holds no other
pub alone_only : (image : Image) (place : Place) (g : ℕ) (text : List ℕ) → IsAlone image place g text
    → (copy : ℕ) → copy < place.copies → (h : ℕ) (t : List ℕ) → Holds image place copy h t → (h ≡ g) × (t ≡ text)
alone_only image place g text alone copy lt h t held = ⊎_elim
    (λ same. verifies_once (image (slot place copy (own g))) h g t text
    (subst (λ (p : ℕ). VerifiesAs (image (slot place copy p)) h t) same held) (alone.held copy lt))
    (λ differ.
    let e : own h ≡ other g = omega (arith, differ) in
    absurd (alone.blank copy lt h t (subst (λ (p : ℕ). VerifiesAs (image (slot place copy p)) h t) e held)))
    (cases_eq (own h) (own g))

-- ---- a write

module _ (place : Place) (m g : ℕ) (text next damaged : List ℕ) (start image : Image) (positive : 1 ≤ m)
    (alone : IsAlone start place g text) (stop : IsOldOrNew place (g + 1) next damaged start image) where
  -- what stands after a stop of a write is the old text or the new one
  pub write_old_or_new : (h : ℕ) (t : List ℕ) → IsHeldBy image place m h t
      → ((h ≡ g) × (t ≡ text)) ⊎ ((h ≡ g + 1) × (t ≡ next))
  write_old_or_new h t enough =
      let (copy, lt, held) = at_least_one (λ c. Holds image place c h t) place.copies m positive enough in
      ⊎_elim (λ was. inl (alone_only start place g text alone copy lt h t was)) inr (stop.known copy lt h t held)

  -- and something stands where enough copies are not damaged
  pub write_stands : AtLeast (λ c. IsUndamaged damaged place c) place.copies m → ¬ (HasNoStanding image place m)
  write_stands safe nothing = ⊎_elim
      (λ old. nothing g text (at_least_map (λ c. IsUndamaged damaged place c) (λ c. Holds image place c g text)
      place.copies m
      (λ c lt spared. let e : own g ≡ own (g + 1 + 1) = omega arith in old c lt spared g text e (alone.held c lt))
      safe))
      (λ new. nothing (g + 1) next (at_least_map (λ c. IsUndamaged damaged place c)
      (λ c. Holds image place c (g + 1) next) place.copies m new safe))
      stop.stands

-- ---- an opening, or an adoption of the text that stands

-- where that many copies that held the text that stands are not damaged, it stands
pub put_stands : (place : Place) (m g : ℕ) (text damaged : List ℕ) (start image : Image)
    → IsStanding start place m g text → IsOldOrNew place g text damaged start image
    → AtLeast (λ c. IsUndamaged damaged place c × Holds start place c g text) place.copies m
    → IsStanding image place m g text
put_stands place m g text damaged start image stands stop safe = record {
  enough = at_least_map (λ c. IsUndamaged damaged place c × Holds start place c g text)
      (λ c. Holds image place c g text) place.copies m
      (λ c lt both. stop.kept c lt both.0 both.1) safe;
  greatest = λ h t enough. ⊎_elim
      (λ above. absurd (
      let was : IsHeldBy start place m h t = at_least_map (λ c. Holds image place c h t)
      (λ c. Holds start place c h t) place.copies m
      (λ c lt held. ⊎_elim (λ it. it) (λ new. absurd (omega (arith, above, new.0))) (stop.known c lt h t held)) enough
      in
      let le = stands.greatest h t was in
      omega (arith, above, le)))
      (λ within. within)
      (cases_lt g h);
}

-- The next text after the one that stands is adopted, and no greater generation is held: where that many copies that
-- held what stands are not damaged, something stands, and it is that text or the adopted one.
module _ (place : Place) (m g : ℕ) (text next damaged : List ℕ) (start image : Image) (positive : 1 ≤ m)
    (one : IsOneEach start place) (stands : IsStanding start place m g text)
    (least : (copy : ℕ) → copy < place.copies → (h : ℕ) (t : List ℕ) → Holds start place copy h t → h ≤ g)
    (stop : IsOldOrNew place (g + 1) next damaged start image)
    (safe : AtLeast (λ c. IsUndamaged damaged place c × Holds start place c g text) place.copies m) where
  held_again : IsHeldBy image place m g text ⊎ IsHeldBy image place m (g + 1) next
  held_again = ⊎_elim
      (λ old. inl (at_least_map (λ c. IsUndamaged damaged place c × Holds start place c g text)
      (λ c. Holds image place c g text) place.copies m
      (λ c lt both. let e : own g ≡ own (g + 1 + 1) = omega arith in old c lt both.0 g text e both.1) safe))
      (λ new. inr (at_least_map (λ c. IsUndamaged damaged place c × Holds start place c g text)
      (λ c. Holds image place c (g + 1) next) place.copies m
      (λ c lt both. new c lt both.0) safe))
      stop.stands

  pub adopt_stands : ¬ (HasNoStanding image place m)
  adopt_stands nothing = ⊎_elim (λ it. nothing g text it) (λ it. nothing (g + 1) next it) held_again

  pub adopt_old_or_new : (h : ℕ) (t : List ℕ) → IsStanding image place m h t
      → ((h ≡ g) × (t ≡ text)) ⊎ ((h ≡ g + 1) × (t ≡ next))
  adopt_old_or_new h t now =
      let (copy, lt, held) = at_least_one (λ c. Holds image place c h t) place.copies m positive now.enough in
      let (a, alt, was_text) = at_least_one (λ c. Holds start place c g text) place.copies m positive stands.enough in
      ⊎_elim
      (λ was.
      let low = least copy lt h t was in
      let high : g ≤ h = ⊎_elim (λ it. now.greatest g text it)
      (λ it. let le = now.greatest (g + 1) next it in omega (arith, le)) held_again in
      let same : h ≡ g = omega (arith, low, high) in
      inl (same, one copy a g t text lt alt (subst (λ (x : ℕ). Holds start place copy x t) same was) was_text))
      inr
      (stop.known copy lt h t held)
