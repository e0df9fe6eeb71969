-- What a text shows that is held alone, and that what is held depends on the slots alone.
use Rattle.std.proofs.Common.{◌≡◌, ℕ, zero, suc, ◌+◌, ◌%◌, ◌<◌, ◌≤◌, List, [], ◌∷◌, ◌++◌, true, false, cond, not, eqb}
use Rattle.std.proofs.Common.{Option, Some, None, find, length, nat_le, nat_lt, Bool, refl, sym, ap, ◌∙◌, subst, ⊎_elim}
use Rattle.std.proofs.Common.{eq-eqb, arith}
use Rattle.std.proofs.lemmas.Bool.{cases_eq, cond-true, cond-false}
use Rattle.hash_guard.specs.SealedText.{VerifiesAs, verified}
use Rattle.hash_guard.specs.Laws.{verifies-verified, verified-none}
use Rattle.disk_model.specs.Image.{Image}
use Rattle.disk_model.specs.Case.{Case}
use Rattle.disk_model.specs.Frame.{IsSettledOn}
use Rattle.disk_model.specs.Place.{slot, IsNoSlot}
use Rattle.disk_model.specs.declared.place.Place.{Place}
use Rattle.guarded_cell.specs.declared.looking.Seen.{Seen}
use Rattle.guarded_cell.specs.Register.{IsAlone, own, other}
use Rattle.guarded_cell.specs.Held.{Text, of_parity, text_held, is_seen, holds, copies_that, lacking, with_copy}
use Rattle.guarded_cell.specs.Held.{with_slot, held_in_first, held, standing}
use Rattle.guarded_cell.specs.lemmas.SeenLaws.{is_alike, seen_more}
use Rattle.guarded_cell.specs.lemmas.HeldLaws.{is_holds}
use Rattle.guarded_cell.specs.Stands.{SameSlots}
use Rattle.guarded_cell.specs.Stops.{SlotText, IsSlotPiece, AfterStop, HoldsLess, KeepsText}

-- ---- a text alone

held_nothing : (image : Image) (place : Place) → held_in_first image place 0 ≡ []
unfolding held_in_first
held_nothing image place = refl

none_pass : (test : ℕ → Bool) (n : ℕ) → ((c : ℕ) → c < n → test c ≡ false) → copies_that test n ≡ []
none_pass test zero fails = refl
none_pass test (suc n) fails =
    ap (λ (xs : List ℕ). xs ++ cond (test n) ((n + 1) ∷ []) []) (none_pass test n (λ c lt. fails c (omega (arith, lt))))
    ∙ cond-false (test n) ((n + 1) ∷ []) [] (fails n (omega arith))

module _ (image : Image) (place : Place) (g : ℕ) (text : List ℕ) (alone : IsAlone image place g text) where
  abbrev it : Text
  it = (g, text)

  -- with the first n copies
  abbrev seen : ℕ → Seen
  seen n = record { generation = g; text = text; copies = copies_that (λ c. true) n }

  in_own : (copy parity : ℕ) → copy < place.copies → own g ≡ parity → text_held image place copy parity ≡ Some it
  in_own copy parity lt e =
      let v : VerifiesAs (image (slot place copy parity)) g text =
      subst (λ (p : ℕ). VerifiesAs (image (slot place copy p)) g text) e (alone.held copy lt) in
      ap (of_parity parity) (verifies-verified (image (slot place copy parity)) g text v)
      ∙ cond-true (eqb (g % 2) parity) (Some it) None (eq-eqb (g % 2) parity e)

  in_other : (copy parity : ℕ) → copy < place.copies → other g ≡ parity → text_held image place copy parity ≡ None
  in_other copy parity lt e =
      ap (of_parity parity) (verified-none (image (slot place copy parity)) (λ h t v.
      alone.blank copy lt h t (subst (λ (p : ℕ). VerifiesAs (image (slot place copy p)) h t) (sym e) v)))

  one_more : (n : ℕ) → n < place.copies
      → held_in_first image place (suc n) ≡ with_copy (n + 1) it (held_in_first image place n)
  unfolding held_in_first
  one_more n lt = ⊎_elim
      (λ even.
      let odd : other g ≡ 1 = omega (arith, even) in
      ap (λ (o : Option Text). with_slot (n + 1) o (with_slot (n + 1) (text_held image place n 0)
      (held_in_first image place n)))
      (in_other n 1 lt odd)
      ∙ ap (λ (o : Option Text). with_slot (n + 1) o (held_in_first image place n)) (in_own n 0 lt even))
      (λ odd.
      let one : own g ≡ 1 = omega (arith, odd) in
      let even : other g ≡ 0 = omega (arith, one) in
      ap (λ (o : Option Text). with_slot (n + 1) o (with_slot (n + 1) (text_held image place n 0)
      (held_in_first image place n)))
      (in_own n 1 lt one)
      ∙ ap (λ (o : Option Text). with_copy (n + 1) it (with_slot (n + 1) o (held_in_first image place n)))
      (in_other n 0 lt even))
      (cases_eq (own g) 0)

  -- another copy of the only text
  again : (n : ℕ) → with_copy (n + 1) it (seen n ∷ []) ≡ seen (suc n) ∷ []
  again n = cond-true (is_seen it (seen n)) (seen_more (n + 1) (seen n) ∷ [])
      (cond (nat_lt g g) (record { generation = g; text = text; copies = (n + 1) ∷ [] } ∷ seen n ∷ [])
      (seen n ∷ with_copy (n + 1) it []))
      (is_alike it it refl refl)

  pub alone_held : (n : ℕ) → suc n ≤ place.copies → held_in_first image place (suc n) ≡ seen (suc n) ∷ []
  alone_held zero lt = one_more 0 lt ∙ ap (with_copy 1 it) (held_nothing image place)
  alone_held (suc n) lt = one_more (suc n) lt ∙ ap (with_copy (suc n + 1) it) (alone_held n (omega (arith, lt)))
      ∙ again (suc n)

  pub alone_lacking : lacking image place g text ≡ []
  unfolding lacking
  alone_lacking = none_pass (λ copy. not (holds image place copy it)) place.copies
      (λ c lt. ap not (is_holds image place c it (alone.held c lt)))

pub alone_shows : (image : Image) (place : Place) (g : ℕ) (text : List ℕ) → IsAlone image place g text
    → (held image place ≡ record { generation = g; text = text; copies = copies_that (λ c. true) place.copies } ∷ [])
    × (lacking image place g text ≡ [])
alone_shows image place g text alone = (go place.copies refl place.some, alone_lacking image place g text alone)
  where
    go : (n : ℕ) → n ≡ place.copies → 1 ≤ place.copies
        → held image place ≡ record { generation = g; text = text; copies = copies_that (λ c. true) place.copies } ∷ []
    go zero e some = absurd (omega (arith, e, some))
    go (suc n) e some =
        subst (λ (k : ℕ). held_in_first image place k
        ≡ record { generation = g; text = text; copies = copies_that (λ c. true) k } ∷ []) e
        (alone_held image place g text alone n (omega (arith, e)))

-- ---- the same slots

module _ (place : Place) (old new : Image) where
  same_text : (copy parity : ℕ) → new (slot place copy parity) ≡ old (slot place copy parity)
      → text_held new place copy parity ≡ text_held old place copy parity
  same_text copy parity e = ap (λ (bytes : List ℕ). of_parity parity (verified bytes)) e

  same_in_first : (n : ℕ) → n ≤ place.copies → SameSlots place old new
      → held_in_first new place n ≡ held_in_first old place n
  unfolding held_in_first
  same_in_first zero le same = refl
  same_in_first (suc copy) le same =
      ap (λ (t : Option Text). with_slot (copy + 1) t (with_slot (copy + 1) (text_held new place copy 0)
      (held_in_first new place copy)))
      (same_text copy 1 (same copy 1 (omega (arith, le)) (omega arith)))
      ∙ ap (λ (t : Option Text). with_slot (copy + 1) (text_held old place copy 1)
      (with_slot (copy + 1) t (held_in_first new place copy)))
      (same_text copy 0 (same copy 0 (omega (arith, le)) (omega arith)))
      ∙ ap (λ (seens : List Seen). with_slot (copy + 1) (text_held old place copy 1)
      (with_slot (copy + 1) (text_held old place copy 0) seens))
      (same_in_first copy (omega (arith, le)) same)

  pub same_held : SameSlots place old new → held new place ≡ held old place
  same_held = same_in_first place.copies (omega arith)

  pub same_standing : (m : ℕ) → SameSlots place old new → standing new place m ≡ standing old place m
  unfolding standing
  same_standing m same = ap (find (λ (seen : Seen). nat_le m (length seen.copies))) (same_held same)

pub standing_among_held : (image : Image) (place : Place) (m : ℕ)
    → standing image place m ≡ find (λ seen. nat_le m (length seen.copies)) (held image place)
unfolding standing
standing_among_held image place m = refl

-- ---- a register that nobody touched

module _ (place : Place) (start : Image) (c : Case)
    (settled : IsSettledOn (λ f. ¬ (IsNoSlot place f)) start c) where
  left_same : (copy parity : ℕ) → copy < place.copies → parity < 2
      → c.left (slot place copy parity) ≡ start (slot place copy parity)
  left_same copy parity lt small = settled.left (slot place copy parity) (λ none. none copy parity lt small refl)

  pub untouched_stays : AfterStop place (λ damaged image. HoldsLess place start image
      × ((g : ℕ) (text : List ℕ) → KeepsText place g text damaged start image)) c
  untouched_stays sound damaged image decay = (less, kept)
    where
      less : HoldsLess place start image
      less copy lt g t v =
          let piece : SlotText = record { copy = copy; parity = own g; generation = g; text = t } in
          let now : IsSlotPiece place image piece = record { copy = lt; parity = omega arith; verifies = v } in
          let was : IsSlotPiece place c.left piece = decay.pieces piece now in
          subst (λ (s : List ℕ). VerifiesAs s g t) (left_same copy (own g) lt (omega arith)) was.verifies

      kept : (g : ℕ) (text : List ℕ) → KeepsText place g text damaged start image
      kept g text copy lt safe v =
          subst (λ (s : List ℕ). VerifiesAs s g text)
          (sym (left_same copy (own g) lt (omega arith)) ∙ sym
          (decay.others (slot place copy (own g)) (safe (own g) (omega arith)))) v
