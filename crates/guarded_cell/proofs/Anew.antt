-- A register is formatted: what a stop leaves in each phase, and what stands at the end.
use Rattle.std.proofs.Common.{◌≡◌, ℕ, ◌<◌, ◌≤◌, List, length, Bool, sym, ◌∙◌, subst, inl, inr, ⊎_elim, arith}
use Rattle.std.proofs.lemmas.Bool.{cases_eq}
use Rattle.hash_guard.specs.SealedText.{VerifiesAs, sealed, max_body}
use Rattle.disk_model.specs.Image.{Image, put_bytes}
use Rattle.disk_model.specs.Case.{Case, IsSettledAt, Follows}
use Rattle.disk_model.specs.Medium.{Medium, Quiet, IsLawful, Elapses, EachCase}
use Rattle.disk_model.specs.Frame.{Spares}
use Rattle.disk_model.specs.Place.{slot, IsNoSlot}
use Rattle.disk_model.specs.Laws.{goes_on, case_now}
use Rattle.disk_model.specs.declared.place.Place.{Place}
use Rattle.guarded_cell.specs.Register.{IsBlank, IsAlone, own}
use Rattle.guarded_cell.specs.Starts.{IsChosen, StartsPut, StartsCase, IsStartsCase}
use Rattle.guarded_cell.specs.Stops.{FormatStops}
use Rattle.guarded_cell.proofs.Texts.{put_verifies, put_only, put_blank}
use Rattle.guarded_cell.proofs.Known.{IsKnown, IsKnownCase, known_same, known_puts, case_settled, case_same, case_step}
use Rattle.guarded_cell.proofs.Known.{after_known}
use Rattle.guarded_cell.proofs.Putting.{zeros, no_slot_apart, other_apart}
use Rattle.guarded_cell.proofs.Flags.{all, all_yes}
use Rattle.guarded_cell.proofs.Blanked.{NoText, zeros_only}

module _ (place : Place) (few : place.copies ≤ 8) (text : List ℕ) (start : Image) where
  abbrev NoSlots : ℕ → Type 0
  NoSlots = IsNoSlot place

  blank_stops : (c : Case) → IsKnownCase place NoText NoSlots start c → FormatStops place 1 text start c
  blank_stops c k = record {
    slots = λ sound damaged image decay. inl (λ copy lt g t v. ⊎_elim (λ was. was) (λ is_not. absurd is_not)
        (after_known place NoText NoSlots start c k sound damaged image decay copy (own g) lt (omega arith) g t
        v));
    elsewhere = record { base = k.kept.base; full = k.kept.full; left = k.kept.left };
  }

  -- nothing was done
  pub format_still : (c : Case) → IsSettledAt start c → FormatStops place 1 text start c
  format_still c settled = blank_stops c (case_same place NoText (IsNoSlot place) start c settled)

  blank_step : (parity : ℕ) → parity < 2 → (d c : Case) → StartsCase place parity all zeros d c
      → IsKnownCase place NoText NoSlots start d → IsKnownCase place NoText NoSlots start c
  blank_step parity small d c fronts known = case_step place NoText NoSlots start parity all zeros d c
      fronts zeros_only
      (λ f is_not. no_slot_apart place parity all small f is_not) known

  module _ (even blank : Image) (put_even : StartsPut place 0 all zeros start even)
      (put_odd : StartsPut place 1 all zeros even blank) where
    is_blank : (copy parity : ℕ) → copy < place.copies → parity < 2 → IsBlank (blank (slot place copy parity))
    is_blank copy parity lt small g t v = ⊎_elim
        (λ e. put_blank (start (slot place copy 0)) g t
        (subst (λ (s : List ℕ). VerifiesAs s g t)
        (put_odd.some.others (slot place copy 0) (other_apart place 1 0 all copy (omega arith) (omega arith)
        (λ d. omega (arith, d)))
        ∙ put_even.put copy lt (all_yes place.copies copy few lt))
        (subst (λ (p : ℕ). VerifiesAs (blank (slot place copy p)) g t) e v)))
        (λ ne.
        let e : parity ≡ 1 = omega (arith, small, ne) in
        put_blank (even (slot place copy 1)) g t
        (subst (λ (s : List ℕ). VerifiesAs s g t) (put_odd.put copy lt (all_yes place.copies copy few lt))
        (subst (λ (p : ℕ). VerifiesAs (blank (slot place copy p)) g t) e v)))
        (cases_eq parity 0)

    blank_elsewhere : Spares (IsNoSlot place) start blank
    blank_elsewhere f is_not = put_odd.some.others f (no_slot_apart place 1 all (omega arith) f is_not)
        ∙ put_even.some.others f (no_slot_apart place 0 all (omega arith) f is_not)

    blank_known : IsKnown place NoText start blank
    blank_known = known_puts place NoText (IsChosen place 1 all) zeros start even blank put_odd.some
        zeros_only
        (known_puts place NoText (IsChosen place 0 all) zeros start start even put_even.some zeros_only
        (known_same place NoText start))

    -- the blanks are durable
    pub blanked_case : (c : Case) → IsSettledAt blank c → IsKnownCase place NoText (IsNoSlot place) start
        c
    blanked_case c settled = case_settled place NoText NoSlots start blank c settled blank_known blank_elsewhere

    module _ (short : length text ≤ max_body) (bytes : List ℕ) (are_sealed : bytes ≡ sealed 1 text) where
      abbrev Extra : ℕ → List ℕ → Type 0
      Extra h t = (h ≡ 1) × (t ≡ text)

      sealed_only : (old : List ℕ) (h : ℕ) (t : List ℕ) → VerifiesAs (put_bytes old 0 bytes) h t → Extra h t
      sealed_only old h t v = put_only old 1 text (omega arith) (omega arith) short h t
          (subst (λ (xs : List ℕ). VerifiesAs (put_bytes old 0 xs) h t) are_sealed v)

      -- every copy holds only the text
      text_stops : (c : Case) → IsKnownCase place Extra NoSlots blank c → FormatStops place 1 text start c
      text_stops c k = record {
        slots = λ sound damaged image decay. inr (λ copy lt g t v. ⊎_elim
            (λ was. absurd (is_blank copy (own g) lt (omega arith) g t was))
            (λ it. it)
            (after_known place Extra NoSlots blank c k sound damaged image decay copy (own g) lt (omega arith) g
            t v));
        elsewhere = record {
          base = λ f is_not. k.kept.base f is_not ∙ blank_elsewhere f is_not;
          full = λ f is_not. k.kept.full f is_not ∙ blank_elsewhere f is_not;
          left = λ f is_not. k.kept.left f is_not ∙ blank_elsewhere f is_not;
        };
      }

      -- while the text is written
      pub text_pass : (d c : Case) → IsSettledAt blank d → StartsCase place 1 all bytes d c
          → FormatStops place 1 text start c
      text_pass d c settled fronts = text_stops c (case_step place Extra NoSlots blank 1 all bytes d c
          fronts sealed_only
          (λ f is_not. no_slot_apart place 1 all (omega arith) f is_not)
          (case_same place Extra NoSlots blank d settled))

      module _ (new : Image) (put : StartsPut place 1 all bytes blank new) where
        pub text_elsewhere : Spares (IsNoSlot place) start new
        text_elsewhere f is_not = put.some.others f (no_slot_apart place 1 all (omega arith) f is_not)
            ∙ blank_elsewhere f is_not

        pub text_end : (c : Case) → IsSettledAt new c → FormatStops place 1 text start c
        text_end c settled = text_stops c (case_settled place Extra NoSlots blank new c settled
            (known_puts place Extra (IsChosen place 1 all) bytes blank blank new put.some sealed_only
            (known_same place Extra blank))
            (λ f is_not. put.some.others f (no_slot_apart place 1 all (omega arith) f is_not)))

        pub text_alone : IsAlone new place 1 text
        text_alone = record {
          held = λ copy lt. subst (λ (s : List ℕ). VerifiesAs s 1 text)
              (sym (put.put copy lt (all_yes place.copies copy few lt)))
              (subst (λ (xs : List ℕ). VerifiesAs (put_bytes (blank (slot place copy 1)) 0 xs) 1 text) (sym are_sealed)
              (put_verifies (blank (slot place copy 1)) 1 text (omega arith) (omega arith) short));
          blank = λ copy lt g t v. is_blank copy 0 lt (omega arith) g t (subst (λ (s : List ℕ). VerifiesAs s g t)
              (put.some.others (slot place copy 0) (other_apart place 1 0 all copy (omega arith) (omega arith)
              (λ d. omega (arith, d)))) v);
        }

-- ---- over the moments of the call

module _ (place : Place) (few : place.copies ≤ 8) (text : List ℕ) (told : Bool) (old even blank new : Medium)
    (quiet : Quiet old)
    (during : Follows (StartsCase place 0 all zeros) old.now (even.since old.moment)) where
  pub format_first : EachCase (FormatStops place 1 text old.image) old even
  format_first c past =
      let (d, now, fronts) = during c past in
      blank_stops place few text old.image c
      (blank_step place few text old.image 0 (omega arith) d c fronts
      (case_same place NoText (IsNoSlot place) old.image d (quiet d now)))

  pub format_second : (done : Type 0) → IsLawful told even → Elapses old even → Elapses even blank
      → (done → StartsPut place 0 all zeros old.image even.image)
      → (done → StartsPut place 1 all zeros even.image blank.image)
      → EachCase (IsStartsCase place 1 all zeros even blank done) even blank
      → EachCase (FormatStops place 1 text old.image) old blank
  format_second done law time next put blanked cases = goes_on (FormatStops place 1 text old.image) time next
      format_first
      (λ c past. blank_stops place few text old.image c (⊎_elim
      (λ before.
      let from = during before.0 (case_now law time before.0 before.1) in
      blank_step place few text old.image 1 (omega arith) before.0 c before.2
      (blank_step place few text old.image 0 (omega arith) from.0 before.0 from.2
      (case_same place NoText (IsNoSlot place) old.image from.0 (quiet from.0 from.1))))
      (λ after. blanked_case place few text old.image even.image blank.image (put after.0) (blanked after.0) c
      after.1)
      (cases c past)))

  pub format_third : (done : Type 0) → length text ≤ max_body → (bytes : List ℕ) → bytes ≡ sealed 1 text → Quiet blank
      → StartsPut place 0 all zeros old.image even.image
      → StartsPut place 1 all zeros even.image blank.image
      → (done → StartsPut place 1 all bytes blank.image new.image)
      → EachCase (IsStartsCase place 1 all bytes blank new done) blank new
      → EachCase (FormatStops place 1 text old.image) blank new
  format_third done short bytes are_sealed calm put blanked written cases c past = ⊎_elim
      (λ before. text_pass place few text old.image even.image blank.image put blanked short bytes are_sealed
      before.0 c (calm before.0 before.1) before.2)
      (λ after. text_end place few text old.image even.image blank.image put blanked short bytes are_sealed
      new.image (written after.0) c after.1)
      (cases c past)
