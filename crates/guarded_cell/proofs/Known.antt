-- Which texts the slots of a place may hold in a case, and what is left of that after a crash and damage.
use Rattle.std.proofs.Common.{◌≡◌, ◌⊎◌, ℕ, ◌<◌, List, Bool, refl, sym, ap, ◌∙◌, subst, inl, inr, ⊎_elim, arith}
use Rattle.hash_guard.specs.SealedText.{VerifiesAs}
use Rattle.disk_model.specs.Image.{Image, put_bytes}
use Rattle.disk_model.specs.Case.{Case, IsSettledAt}
use Rattle.disk_model.specs.Damage.{IsSoundFor, DecaysFor, IsUndamaged}
use Rattle.disk_model.specs.Frame.{Spares, IsSettledOn}
use Rattle.disk_model.specs.Place.{slot}
use Rattle.disk_model.specs.declared.place.Place.{Place}
use Rattle.guarded_cell.specs.Register.{Holds, own}
use Rattle.guarded_cell.specs.Stops.{SlotText, IsSlotPiece}
use Rattle.guarded_cell.specs.Starts.{IsChosen, PutsSome, StartsCase}
use Rattle.guarded_cell.specs.Differing.{IsSlotMidway, TextsCase}

-- a slot of the place holds a text that it held at the start, or one of some others
abbrev pub IsKnown : (place : Place) → (Extra : ℕ → List ℕ → Type 0) → (start image : Image) → Type 0
IsKnown place Extra start image = (copy parity : ℕ) → copy < place.copies → parity < 2 → (h : ℕ) (t : List ℕ)
    → VerifiesAs (image (slot place copy parity)) h t → VerifiesAs (start (slot place copy parity)) h t ⊎ Extra h t

-- so it is in a case, in which some files are as at the start
pub record IsKnownCase (place : Place) (Extra : ℕ → List ℕ → Type 0) (Kept : ℕ → Type 0) (start : Image)
    (c : Case) : Type 0 where
  pub base : IsKnown place Extra start c.base
  pub full : IsKnown place Extra start c.full
  pub kept : IsSettledOn Kept start c

module _ (place : Place) (Extra : ℕ → List ℕ → Type 0) where
  pub known_same : (start : Image) → IsKnown place Extra start start
  known_same start copy parity lt p h t v = inl v

  pub known_puts : (Files : ℕ → Type 0) (bytes : List ℕ) (start a b : Image) → PutsSome Files bytes a b
      → ((old : List ℕ) (h : ℕ) (t : List ℕ) → VerifiesAs (put_bytes old 0 bytes) h t → Extra h t)
      → IsKnown place Extra start a → IsKnown place Extra start b
  known_puts Files bytes start a b puts only known copy parity lt p h t v = ⊎_elim
      (λ same. known copy parity lt p h t (subst (λ (s : List ℕ). VerifiesAs s h t) same v))
      (λ put. inr (only (a (slot place copy parity)) h t (subst (λ (s : List ℕ). VerifiesAs s h t) put v)))
      (puts.each (slot place copy parity))

  pub known_texts : (bytes : List ℕ) (start a b : Image) → ((f : ℕ) → IsSlotMidway bytes (a f) (b f))
      → ((old : List ℕ) (h : ℕ) (t : List ℕ) → VerifiesAs (put_bytes old 0 bytes) h t → Extra h t)
      → IsKnown place Extra start a → IsKnown place Extra start b
  known_texts bytes start a b each only known copy parity lt p h t v = ⊎_elim
      (λ same. known copy parity lt p h t (subst (λ (s : List ℕ). VerifiesAs s h t) same v))
      (λ changed. ⊎_elim
      (λ put. inr (only put.0 h t (subst (λ (s : List ℕ). VerifiesAs s h t) put.1 v)))
      (λ blank. absurd (blank h t v))
      changed)
      (each (slot place copy parity))

  module _ (Kept : ℕ → Type 0) (start : Image) where
    pub case_settled : (image : Image) (c : Case) → IsSettledAt image c → IsKnown place Extra start image
        → Spares Kept start image
        → IsKnownCase place Extra Kept start c
    case_settled image c settled known spares = record {
      base = subst (λ (im : Image). IsKnown place Extra start im) (sym settled.base) known;
      full = subst (λ (im : Image). IsKnown place Extra start im) (sym settled.full) known;
      kept = record {
        base = λ f keep. ap (λ (im : Image). im f) settled.base ∙ spares f keep;
        full = λ f keep. ap (λ (im : Image). im f) settled.full ∙ spares f keep;
        left = λ f keep. ap (λ (im : Image). im f) settled.left ∙ spares f keep;
      };
    }

    pub case_same : (c : Case) → IsSettledAt start c → IsKnownCase place Extra Kept start c
    case_same c settled = case_settled start c settled (known_same start) (λ f keep. refl)

    pub case_step : (parity : ℕ) (chosen : List Bool) (bytes : List ℕ) (d c : Case)
        → StartsCase place parity chosen bytes d c
        → ((old : List ℕ) (h : ℕ) (t : List ℕ) → VerifiesAs (put_bytes old 0 bytes) h t → Extra h t)
        → ((f : ℕ) → Kept f → ¬ (IsChosen place parity chosen f))
        → IsKnownCase place Extra Kept start d → IsKnownCase place Extra Kept start c
    case_step parity chosen bytes d c fronts only apart k = record {
      base = subst (λ (im : Image). IsKnown place Extra start im) (sym fronts.base) k.base;
      full = known_puts (IsChosen place parity chosen) bytes start d.full c.full fronts.full only k.full;
      kept = record {
        base = λ f keep. ap (λ (im : Image). im f) fronts.base ∙ k.kept.base f keep;
        full = λ f keep. fronts.full.others f (apart f keep) ∙ k.kept.full f keep;
        left = λ f keep. fronts.left f (apart f keep) ∙ k.kept.left f keep;
      };
    }

    pub case_texts : (parity : ℕ) (chosen : List Bool) (bytes : List ℕ) (d c : Case)
        → TextsCase (IsChosen place parity chosen) bytes d c
        → ((old : List ℕ) (h : ℕ) (t : List ℕ) → VerifiesAs (put_bytes old 0 bytes) h t → Extra h t)
        → ((f : ℕ) → Kept f → ¬ (IsChosen place parity chosen f))
        → IsKnownCase place Extra Kept start d → IsKnownCase place Extra Kept start c
    case_texts parity chosen bytes d c texts only apart k = record {
      base = subst (λ (im : Image). IsKnown place Extra start im) (sym texts.base) k.base;
      full = known_texts bytes start d.full c.full texts.each only k.full;
      kept = record {
        base = λ f keep. ap (λ (im : Image). im f) texts.base ∙ k.kept.base f keep;
        full = λ f keep. texts.full f (apart f keep) ∙ k.kept.full f keep;
        left = λ f keep. texts.left f (apart f keep) ∙ k.kept.left f keep;
      };
    }

    -- after a crash and damage
    pub after_known : (c : Case) → IsKnownCase place Extra Kept start c → IsSoundFor (IsSlotPiece place) c
        → (damaged : List ℕ) (image : Image) → DecaysFor (IsSlotPiece place) damaged c.left image
        → IsKnown place Extra start image
    after_known c k sound damaged image decay copy parity lt p h t v =
        let piece : SlotText = record { copy = copy; parity = parity; generation = h; text = t } in
        let now : IsSlotPiece place image piece = record { copy = lt; parity = p; verifies = v } in
        let was : IsSlotPiece place c.left piece = decay.pieces piece now in
        ⊎_elim
        (λ b. k.base copy parity lt p h t b.verifies)
        (λ f. k.full copy parity lt p h t f.verifies)
        (sound piece was)

-- a slot of a copy outside the damage is as the crash left it
pub undamaged_slot : (place : Place) (damaged : List ℕ) (left image : Image)
    → DecaysFor (IsSlotPiece place) damaged left image
    → (copy parity : ℕ) → IsUndamaged damaged place copy → parity < 2
    → image (slot place copy parity) ≡ left (slot place copy parity)
undamaged_slot place damaged left image decay copy parity safe p =
    decay.others (slot place copy parity) (safe parity (omega (arith, p)))

-- so what it held and a file that is as it was, it holds
pub undamaged_holds : (place : Place) (damaged : List ℕ) (left image : Image)
    → DecaysFor (IsSlotPiece place) damaged left image
    → (copy g : ℕ) (t : List ℕ) → IsUndamaged damaged place copy → Holds left place copy g t
    → Holds image place copy g t
undamaged_holds place damaged left image decay copy g t safe held =
    let small : own g < 2 = omega arith in
    subst (λ (s : List ℕ). VerifiesAs s g t) (sym (undamaged_slot place damaged left image decay copy (own g)
    safe small)) held
