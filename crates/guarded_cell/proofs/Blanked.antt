-- All texts but one are blanked: what a stop leaves, and what stands at the end.
use Rattle.std.proofs.Common.{◌≡◌, ◌⊎◌, ℕ, ◌+◌, ◌*◌, ◌<◌, List, Bool, true, refl, sym, ◌∙◌, subst, inl, inr, ⊎_elim}
use Rattle.std.proofs.Common.{arith}
use Rattle.hash_guard.specs.SealedText.{VerifiesAs}
use Rattle.hash_guard.specs.Laws.{verifies_once}
use Rattle.disk_model.specs.Image.{Image, put_bytes}
use Rattle.disk_model.specs.Case.{Case, IsSettledAt, Follows}
use Rattle.disk_model.specs.Medium.{Medium, Quiet, IsLawful, Elapses, EachCase}
use Rattle.disk_model.specs.Frame.{Spares}
use Rattle.disk_model.specs.Place.{slot, IsNoSlot}
use Rattle.disk_model.specs.Laws.{goes_on, case_now}
use Rattle.disk_model.specs.declared.place.Place.{Place}
use Rattle.guarded_cell.specs.Register.{Holds, IsBlank, IsKeptAlone, own, other}
use Rattle.guarded_cell.specs.Slots.{Tells, Picks, HasNoOther}
use Rattle.guarded_cell.specs.declared.slots.Pick.TheVariants.{Others, Verifying}
use Rattle.guarded_cell.specs.Starts.{IsChosen, StartsPut, StartsCase, IsStartsCase}
use Rattle.guarded_cell.specs.Stops.{KeepStops}
use Rattle.guarded_cell.proofs.Texts.{put_blank}
use Rattle.guarded_cell.proofs.Known.{IsKnownCase, known_same, known_puts, case_settled, case_same, case_step}
use Rattle.guarded_cell.proofs.Known.{after_known, undamaged_holds}
use Rattle.guarded_cell.proofs.Putting.{zeros, by_flag, no_slot_apart, other_apart, unchosen_apart}

abbrev pub NoText : ℕ → List ℕ → Type 0
NoText h t = ⊥

pub zeros_only : (old : List ℕ) (h : ℕ) (t : List ℕ) → VerifiesAs (put_bytes old 0 zeros) h t → NoText h t
zeros_only old h t v = put_blank old h t v

module _ (place : Place) (generation : ℕ) (text : List ℕ) (start : Image) where
  -- the slot of a copy that holds the text
  record IsHolder (f : ℕ) : Type 0 where
    pub copy : ℕ
    pub within : copy < place.copies
    pub is : f ≡ slot place copy (own generation)
    pub holds : Holds start place copy generation text

  abbrev Kept : ℕ → Type 0
  Kept f = IsNoSlot place f ⊎ IsHolder f

  keep_stops : (c : Case) → IsKnownCase place NoText Kept start c
      → KeepStops place generation text start c
  keep_stops c k = record {
    known = λ sound damaged image decay copy lt g t v. ⊎_elim (λ was. was) (λ is_not. absurd is_not)
        (after_known place NoText Kept start c k sound damaged image decay copy (own g) lt (omega arith) g t v);
    kept = λ sound damaged image decay copy lt safe held.
        let mine : IsHolder (slot place copy (own generation)) =
        record { copy = copy; within = lt; is = refl; holds = held } in
        undamaged_holds place damaged c.left image decay copy generation text safe
        (subst (λ (s : List ℕ). VerifiesAs s generation text)
        (sym (k.kept.left (slot place copy (own generation)) (inr mine))) held);
    elsewhere = record {
      base = λ f is_not. k.kept.base f (inl is_not);
      full = λ f is_not. k.kept.full f (inl is_not);
      left = λ f is_not. k.kept.left f (inl is_not);
    };
  }

  -- nothing was done
  pub keep_still : (c : Case) → IsSettledAt start c → KeepStops place generation text start c
  keep_still c settled = keep_stops c (case_same place NoText Kept start c settled)

  module _ (others stale : List Bool)
      (picks : Picks Others others start place (own generation) generation text)
      (stales : Picks Verifying stale start place (other generation) generation text) where
    holder_apart : (f : ℕ) → IsHolder f → ¬ (IsChosen place (own generation) others f)
    holder_apart f mine is =
        let e : place.first + 4 * mine.copy + own generation ≡ place.first + 4 * is.copy + own generation =
        sym mine.is ∙ is.is in
        let same : mine.copy ≡ is.copy = omega (arith, e) in
        let has : Tells Others true (start (slot place is.copy (own generation))) generation text =
        subst (λ (b : Bool). Tells Others b (start (slot place is.copy (own generation))) generation text) is.flag
        (picks is.copy is.within) in
        has (λ g t v. verifies_once (start (slot place is.copy (own generation))) g generation t text v
        (subst (λ (x : ℕ). Holds start place x generation text) same mine.holds))

    own_apart : (f : ℕ) → Kept f → ¬ (IsChosen place (own generation) others f)
    own_apart f keep is = ⊎_elim
        (λ is_not. no_slot_apart place (own generation) others (omega arith) f is_not is)
        (λ mine. holder_apart f mine is)
        keep

    stale_apart : (f : ℕ) → Kept f → ¬ (IsChosen place (other generation) stale f)
    stale_apart f keep is = ⊎_elim
        (λ is_not. no_slot_apart place (other generation) stale (omega arith) f is_not is)
        (λ mine. other_apart place (other generation) (own generation) stale mine.copy (omega arith)
        (omega arith) (λ e. omega (arith, e))
        (subst (IsChosen place (other generation) stale) mine.is is))
        keep

    first_case : (d c : Case) → IsSettledAt start d → StartsCase place (own generation) others zeros d c
        → IsKnownCase place NoText Kept start c
    first_case d c settled fronts = case_step place NoText Kept start (own generation) others zeros d c
        fronts zeros_only own_apart
        (case_same place NoText Kept start d settled)

    second_case : (d c : Case) → IsKnownCase place NoText Kept start d
        → StartsCase place (other generation) stale zeros d c
        → IsKnownCase place NoText Kept start c
    second_case d c known fronts = case_step place NoText Kept start (other generation) stale zeros d c
        fronts zeros_only stale_apart known

    module _ (mid new : Image) (put : StartsPut place (own generation) others zeros start mid)
        (blanked : StartsPut place (other generation) stale zeros mid new) where
      new_kept : Spares Kept start new
      new_kept f keep = blanked.some.others f (stale_apart f keep) ∙ put.some.others f (own_apart f keep)

      end_case : (c : Case) → IsSettledAt new c → IsKnownCase place NoText Kept start c
      end_case c settled = case_settled place NoText Kept start new c settled
          (known_puts place NoText (IsChosen place (other generation) stale) zeros start mid new
          blanked.some zeros_only
          (known_puts place NoText (IsChosen place (own generation) others) zeros start start mid put.some
          zeros_only (known_same place NoText start)))
          new_kept

      new_own : (copy : ℕ) → new (slot place copy (own generation)) ≡ mid (slot place copy (own generation))
      new_own copy = blanked.some.others (slot place copy (own generation))
          (other_apart place (other generation) (own generation) stale copy (omega arith) (omega arith)
          (λ e. omega (arith, e)))

      mid_other : (copy : ℕ) → mid (slot place copy (other generation)) ≡ start (slot place copy (other generation))
      mid_other copy = put.some.others (slot place copy (other generation))
          (other_apart place (own generation) (other generation) others copy (omega arith) (omega arith)
          (λ e. omega (arith, e)))

      pub kept_alone : IsKeptAlone place generation text start new
      kept_alone = record {
        held = λ copy lt holds.
            let mine : IsHolder (slot place copy (own generation)) =
            record { copy = copy; within = lt; is = refl; holds = holds } in
            subst (λ (s : List ℕ). VerifiesAs s generation text)
            (sym (new_kept (slot place copy (own generation)) (inr mine))) holds;
        own_slots = λ copy lt g t v. by_flag others copy ((g ≡ generation) × (t ≡ text)
            × Holds start place copy generation text)
            (λ is_set. absurd (put_blank (start (slot place copy (own generation))) g t
            (subst (λ (s : List ℕ). VerifiesAs s g t) (new_own copy ∙ put.put copy lt is_set) v)))
            (λ is_not.
            let was : VerifiesAs (start (slot place copy (own generation))) g t =
            subst (λ (s : List ℕ). VerifiesAs s g t)
            (new_own copy ∙ put.some.others (slot place copy (own generation))
            (unchosen_apart place (own generation) others copy is_not)) v in
            let only : HasNoOther (start (slot place copy (own generation))) generation text =
            subst (λ (b : Bool). Tells Others b (start (slot place copy (own generation))) generation text) is_not
            (picks copy lt) in
            let same = only g t was in (
              same.0,
              same.1,
              subst (λ (x : ℕ). VerifiesAs (start (slot place copy (own generation))) x text) same.0
                  (subst (λ (y : List ℕ). VerifiesAs (start (slot place copy (own generation))) g y) same.1 was),
            ));
        blank = λ copy lt. by_flag stale copy (IsBlank (new (slot place copy (other generation))))
            (λ is_set g t v. put_blank (mid (slot place copy (other generation))) g t
            (subst (λ (s : List ℕ). VerifiesAs s g t) (blanked.put copy lt is_set) v))
            (λ is_not g t v.
            let was : IsBlank (start (slot place copy (other generation))) =
            subst (λ (b : Bool). Tells Verifying b (start (slot place copy (other generation))) generation text) is_not
            (stales copy lt) in
            was g t (subst (λ (s : List ℕ). VerifiesAs s g t)
            (blanked.some.others (slot place copy (other generation))
            (unchosen_apart place (other generation) stale copy is_not) ∙ mid_other copy) v));
      }

-- ---- over the moments of the call

module _ (place : Place) (generation : ℕ) (text : List ℕ) (told : Bool) (old mid new : Medium)
    (others stale : List Bool)
    (picks : Picks Others others old.image place (own generation) generation text)
    (stales : Picks Verifying stale old.image place (other generation) generation text)
    (quiet : Quiet old)
    (during : Follows (StartsCase place (own generation) others zeros) old.now (mid.since old.moment)) where
  pub keep_first : EachCase (KeepStops place generation text old.image) old mid
  keep_first c past =
      let (d, now, fronts) = during c past in
      keep_stops place generation text old.image c
      (first_case place generation text old.image others stale picks stales d c (quiet d now) fronts)

  pub keep_second : (done : Type 0) → IsLawful told mid → Elapses old mid → Elapses mid new
      → (done → StartsPut place (own generation) others zeros old.image mid.image)
      → (done → StartsPut place (other generation) stale zeros mid.image new.image)
      → EachCase (IsStartsCase place (other generation) stale zeros mid new done) mid new
      → EachCase (KeepStops place generation text old.image) old new
  keep_second done law time next put blanked cases = goes_on (KeepStops place generation text old.image) time
      next keep_first
      (λ c past. keep_stops place generation text old.image c (⊎_elim
      (λ before.
      let from = during before.0 (case_now law time before.0 before.1) in
      second_case place generation text old.image others stale picks stales before.0 c
      (first_case place generation text old.image others stale picks stales from.0 before.0 (quiet from.0 from.1)
      from.2) before.2)
      (λ after. end_case place generation text old.image others stale picks stales mid.image new.image
      (put after.0) (blanked after.0) c after.1)
      (cases c past)))
