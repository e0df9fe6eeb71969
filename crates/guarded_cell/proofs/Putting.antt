-- A text is put into every copy: what a stop leaves in each phase, and what stands at the end.
use Rattle.std.proofs.Common.{◌≡◌, ◌≢◌, ◌⊎◌, ℕ, ◌+◌, ◌*◌, ◌^◌, ◌<◌, ◌≤◌, List, length, replicate, get_or, Bool, true}
use Rattle.std.proofs.Common.{false, refl, sym, ap, ◌∙◌, subst, inl, inr, ⊎_elim, arith}
use Rattle.std.proofs.Math.Nat.{mul-le-mul_left, mul-add}
use Rattle.hash_guard.specs.SealedText.{VerifiesAs, sealed, max_body}
use Rattle.disk_model.specs.Image.{Image, put_bytes}
use Rattle.disk_model.specs.Case.{Case, IsSettledAt}
use Rattle.disk_model.specs.Medium.{Medium, Quiet, IsLawful, Elapses, OnlyReads, EachCase}
use Rattle.disk_model.specs.Frame.{Spares}
use Rattle.disk_model.specs.Place.{slot, IsNoSlot}
use Rattle.disk_model.specs.Laws.{goes_on}
use Rattle.disk_model.specs.declared.place.Place.{Place}
use Rattle.guarded_cell.specs.Register.{Holds, IsBlank, IsAlone, own, other}
use Rattle.guarded_cell.specs.Slots.{Tells, Picks}
use Rattle.guarded_cell.specs.declared.slots.Pick.TheVariants.{Lacking, Verifying}
use Rattle.guarded_cell.specs.Starts.{IsChosen, StartsPut, StartsCase, IsStartsCase}
use Rattle.guarded_cell.specs.Stops.{PutStops}
use Rattle.guarded_cell.proofs.Texts.{put_verifies, put_only, put_blank}
use Rattle.guarded_cell.proofs.Known.{IsKnown, IsKnownCase, known_same, known_puts, case_settled, case_same, case_step}
use Rattle.guarded_cell.proofs.Known.{case_texts}
use Rattle.guarded_cell.specs.Differing.{TextsCase, IsTextsCase}
use Rattle.guarded_cell.proofs.Known.{after_known, undamaged_holds}

abbrev pub zeros : List ℕ
zeros = replicate 44 0

-- the flag of a copy says it one way or the other
pub by_flag : (chosen : List Bool) (copy : ℕ) (P : Type 0) → (get_or chosen copy false ≡ true → P)
    → (get_or chosen copy false ≡ false → P) → P
by_flag chosen copy P is_set is_not = go (get_or chosen copy false) refl
  where
    go : (b : Bool) → get_or chosen copy false ≡ b → P
    go true e = is_set e
    go false e = is_not e

-- a slot of no slot of the place, of the other parity, or of a copy that is not chosen, is not chosen
pub no_slot_apart : (place : Place) (parity : ℕ) (chosen : List Bool) → parity < 2 → (f : ℕ) → IsNoSlot place f
    → ¬ (IsChosen place parity chosen f)
no_slot_apart place parity chosen small f is_not is = is_not is.copy parity is.within small is.is

pub other_apart : (place : Place) (p q : ℕ) (chosen : List Bool) (copy : ℕ) → p < 2 → q < 2 → p ≢ q
    → ¬ (IsChosen place p chosen (slot place copy q))
other_apart place p q chosen copy sp sq differ is =
    let e : place.first + 4 * copy + q ≡ place.first + 4 * is.copy + p = is.is in
    let same : p ≡ q = omega (arith, e, sp, sq) in
    differ same

pub unchosen_apart : (place : Place) (p : ℕ) (chosen : List Bool) (copy : ℕ) → get_or chosen copy false ≡ false
    → ¬ (IsChosen place p chosen (slot place copy p))
unchosen_apart place p chosen copy is_not is =
    let e : place.first + 4 * copy + p ≡ place.first + 4 * is.copy + p = is.is in
    let same : copy ≡ is.copy = omega (arith, e) in
    let is_set = is.flag in
    cc

module _ (place : Place) (generation : ℕ) (text : List ℕ) (start : Image) where
  abbrev Extra : ℕ → List ℕ → Type 0
  Extra h t = (h ≡ generation) × (t ≡ text)

  -- a slot of the other parity
  record IsOther (f : ℕ) : Type 0 where
    pub copy : ℕ
    pub within : copy < place.copies
    pub is : f ≡ slot place copy (other generation)

  -- the slot of a copy that holds the text
  record IsHolder (f : ℕ) : Type 0 where
    pub copy : ℕ
    pub within : copy < place.copies
    pub is : f ≡ slot place copy (own generation)
    pub holds : Holds start place copy generation text

  abbrev Kept : ℕ → Type 0
  Kept f = IsNoSlot place f ⊎ (IsOther f ⊎ IsHolder f)

  next_parity : own (generation + 1) ≡ other generation
  next_parity = omega arith

  -- the copies of the other parity are as they were, and so are those that hold the text
  first_stops : (c : Case) → IsKnownCase place Extra Kept start c → PutStops place generation text start c
  first_stops c k = record {
    slots = λ sound damaged image decay. record {
      known = λ copy lt g t v. after_known place Extra Kept start c k sound damaged image decay copy (own g) lt
          (omega arith) g t v;
      kept = λ copy lt safe held.
          let mine : IsHolder (slot place copy (own generation)) =
          record { copy = copy; within = lt; is = refl; holds = held } in
          undamaged_holds place damaged c.left image decay copy generation text safe
          (subst (λ (s : List ℕ). VerifiesAs s generation text)
          (sym (k.kept.left (slot place copy (own generation)) (inr (inr mine)))) held);
      stands = inl (λ copy lt safe g t parity held.
          let its : IsOther (slot place copy (own g)) = record {
            copy = copy;
            within = lt;
            is =
                ap (slot place copy) (parity ∙ next_parity);
          } in
          undamaged_holds place damaged c.left image decay copy g t safe
          (subst (λ (s : List ℕ). VerifiesAs s g t) (sym (k.kept.left (slot place copy (own g)) (inr (inl its))))
          held));
    };
    elsewhere = record {
      base = λ f is_not. k.kept.base f (inl is_not);
      full = λ f is_not. k.kept.full f (inl is_not);
      left = λ f is_not. k.kept.left f (inl is_not);
    };
  }

  -- every copy holds the text
  second_stops : (c : Case) → IsKnownCase place Extra (IsNoSlot place) start c
      → ((copy : ℕ) → copy < place.copies → Holds c.left place copy generation text)
      → PutStops place generation text start c
  second_stops c k all = record {
    slots = λ sound damaged image decay. record {
      known = λ copy lt g t v. after_known place Extra (IsNoSlot place) start c k sound damaged image
          decay copy (own g) lt (omega arith) g t v;
      kept = λ copy lt safe held. undamaged_holds place damaged c.left image decay copy generation text safe
          (all copy lt);
      stands = inr (λ copy lt safe. undamaged_holds place damaged c.left image decay copy generation text safe
          (all copy lt));
    };
    elsewhere = record { base = k.kept.base; full = k.kept.full; left = k.kept.left };
  }

  -- nothing was done
  pub still_stops : (c : Case) → IsSettledAt start c → PutStops place generation text start c
  still_stops c settled = first_stops c (case_same place Extra Kept start c settled)

  module _ (positive : 1 ≤ generation) (fits : generation < 2 ^ 64) (short : length text ≤ max_body)
      (lacking stale : List Bool) (bytes : List ℕ) (are_sealed : bytes ≡ sealed generation text)
      (lacks : Picks Lacking lacking start place (own generation) generation text)
      (stales : Picks Verifying stale start place (other generation) generation text) where
    sealed_only : (old : List ℕ) (h : ℕ) (t : List ℕ) → VerifiesAs (put_bytes old 0 bytes) h t → Extra h t
    sealed_only old h t v = put_only old generation text positive fits short h t
        (subst (λ (xs : List ℕ). VerifiesAs (put_bytes old 0 xs) h t) are_sealed v)

    sealed_verifies_there : (old : List ℕ) → VerifiesAs (put_bytes old 0 bytes) generation text
    sealed_verifies_there old = subst (λ (xs : List ℕ). VerifiesAs (put_bytes old 0 xs) generation text)
        (sym are_sealed)
        (put_verifies old generation text positive fits short)

    blank_only : (old : List ℕ) (h : ℕ) (t : List ℕ) → VerifiesAs (put_bytes old 0 zeros) h t → Extra h t
    blank_only old h t v = absurd (put_blank old h t v)

    holder_apart : (f : ℕ) → IsHolder f → ¬ (IsChosen place (own generation) lacking f)
    holder_apart f mine is =
        let e : place.first + 4 * mine.copy + own generation ≡ place.first + 4 * is.copy + own generation =
        sym mine.is ∙ is.is in
        let same : mine.copy ≡ is.copy = omega (arith, e) in
        let lacks_it : Tells Lacking true (start (slot place is.copy (own generation))) generation text =
        subst (λ (b : Bool). Tells Lacking b (start (slot place is.copy (own generation))) generation text) is.flag
        (lacks is.copy is.within) in
        lacks_it (subst (λ (x : ℕ). Holds start place x generation text) same mine.holds)

    apart : (f : ℕ) → Kept f → ¬ (IsChosen place (own generation) lacking f)
    apart f keep is = ⊎_elim
        (λ is_not. no_slot_apart place (own generation) lacking (omega arith) f is_not is)
        (λ rest. ⊎_elim
        (λ its. other_apart place (own generation) (other generation) lacking its.copy (omega arith)
        (omega arith) (λ e. omega (arith, e))
        (subst (IsChosen place (own generation) lacking) its.is is))
        (λ mine. holder_apart f mine is)
        rest)
        keep

    -- while the text is written where it lacks
    pub first_pass : (d c : Case) → IsSettledAt start d → TextsCase (IsChosen place (own generation) lacking) bytes d c
        → PutStops place generation text start c
    first_pass d c settled fronts = first_stops c
        (case_texts place Extra Kept start (own generation) lacking bytes d c fronts sealed_only apart
        (case_same place Extra Kept start d settled))

    module _ (mid : Image) (put : StartsPut place (own generation) lacking bytes start mid) where
      mid_known : IsKnown place Extra start mid
      mid_known = known_puts place Extra (IsChosen place (own generation) lacking) bytes start start mid
          put.some sealed_only
          (known_same place Extra start)

      pub mid_elsewhere : Spares (IsNoSlot place) start mid
      mid_elsewhere f is_not = put.some.others f (no_slot_apart place (own generation) lacking (omega arith) f
          is_not)

      mid_holds : (copy : ℕ) → copy < place.copies → Holds mid place copy generation text
      mid_holds copy lt = by_flag lacking copy (Holds mid place copy generation text)
          (λ is_set. subst (λ (s : List ℕ). VerifiesAs s generation text) (sym (put.put copy lt is_set))
          (sealed_verifies_there (start (slot place copy (own generation)))))
          (λ is_not. subst (λ (s : List ℕ). VerifiesAs s generation text)
          (sym (put.some.others (slot place copy (own generation))
          (unchosen_apart place (own generation) lacking copy is_not)))
          (subst (λ (b : Bool). Tells Lacking b (start (slot place copy (own generation))) generation text) is_not
          (lacks copy lt)))

      mid_other : (copy : ℕ) → mid (slot place copy (other generation)) ≡ start (slot place copy (other generation))
      mid_other copy = put.some.others (slot place copy (other generation))
          (other_apart place (own generation) (other generation) lacking copy (omega arith) (omega arith)
          (λ e. omega (arith, e)))

      mid_case : (c : Case) → IsSettledAt mid c → IsKnownCase place Extra (IsNoSlot place) start c
      mid_case c settled = case_settled place Extra (IsNoSlot place) start mid c settled mid_known
          mid_elsewhere

      -- the text is durable
      pub mid_stops : (c : Case) → IsSettledAt mid c → PutStops place generation text start c
      mid_stops c settled = second_stops c (mid_case c settled)
          (λ copy lt. subst (λ (s : List ℕ). VerifiesAs s generation text)
          (sym (ap (λ (im : Image). im (slot place copy (own generation))) settled.left)) (mid_holds copy lt))

      own_apart : (copy : ℕ) → ¬ (IsChosen place (other generation) stale (slot place copy (own generation)))
      own_apart copy = other_apart place (other generation) (own generation) stale copy (omega arith)
          (omega arith) (λ e. omega (arith, e))

      -- while the stale slots are blanked
      pub second_pass : (d c : Case) → IsSettledAt mid d → StartsCase place (other generation) stale zeros d c
          → PutStops place generation text start c
      second_pass d c settled fronts = second_stops c
          (case_step place Extra (IsNoSlot place) start (other generation) stale zeros d c fronts
          blank_only
          (λ f is_not. no_slot_apart place (other generation) stale (omega arith) f is_not) (mid_case d settled))
          (λ copy lt. subst (λ (s : List ℕ). VerifiesAs s generation text)
          (sym (fronts.left (slot place copy (own generation)) (own_apart copy)
          ∙ ap (λ (im : Image). im (slot place copy (own generation))) settled.left))
          (mid_holds copy lt))

      module _ (new : Image) (blanked : StartsPut place (other generation) stale zeros mid new) where
        new_holds : (copy : ℕ) → copy < place.copies → Holds new place copy generation text
        new_holds copy lt = subst (λ (s : List ℕ). VerifiesAs s generation text)
            (sym (blanked.some.others (slot place copy (own generation)) (own_apart copy))) (mid_holds copy lt)

        new_blank : (copy : ℕ) → copy < place.copies → IsBlank (new (slot place copy (other generation)))
        new_blank copy lt = by_flag stale copy (IsBlank (new (slot place copy (other generation))))
            (λ is_set g t v. put_blank (mid (slot place copy (other generation))) g t
            (subst (λ (s : List ℕ). VerifiesAs s g t) (blanked.put copy lt is_set) v))
            (λ is_not g t v.
            let was : IsBlank (start (slot place copy (other generation))) =
            subst (λ (b : Bool). Tells Verifying b (start (slot place copy (other generation))) generation text) is_not
            (stales copy lt) in
            was g t (subst (λ (s : List ℕ). VerifiesAs s g t)
            (blanked.some.others (slot place copy (other generation))
            (unchosen_apart place (other generation) stale copy is_not) ∙ mid_other copy) v))

        pub new_alone : IsAlone new place generation text
        new_alone = record { held = new_holds; blank = new_blank }

        pub new_elsewhere : Spares (IsNoSlot place) start new
        new_elsewhere f is_not = blanked.some.others f (no_slot_apart place (other generation) stale
            (omega arith) f is_not) ∙ mid_elsewhere f is_not

        -- the blanks are durable
        pub new_stops : (c : Case) → IsSettledAt new c → PutStops place generation text start c
        new_stops c settled = second_stops c
            (case_settled place Extra (IsNoSlot place) start new c settled
            (known_puts place Extra (IsChosen place (other generation) stale) zeros start mid new
            blanked.some blank_only mid_known) new_elsewhere)
            (λ copy lt. subst (λ (s : List ℕ). VerifiesAs s generation text)
            (sym (ap (λ (im : Image). im (slot place copy (own generation))) settled.left)) (new_holds copy lt))

-- ---- over the moments of the calls

module _ (place : Place) (generation : ℕ) (text : List ℕ) (old mid new : Medium)
    (positive : 1 ≤ generation) (fits : generation < 2 ^ 64) (short : length text ≤ max_body)
    (lacking stale : List Bool) (bytes : List ℕ) (are_sealed : bytes ≡ sealed generation text)
    (lacks : Picks Lacking lacking old.image place (own generation) generation text)
    (stales : Picks Verifying stale old.image place (other generation) generation text) where
  pub first_moment : (done : Type 0) → Quiet old → (done
      → StartsPut place (own generation) lacking bytes old.image mid.image)
      → EachCase (IsTextsCase place (own generation) lacking bytes old mid done) old mid
      → EachCase (PutStops place generation text old.image) old mid
  first_moment done quiet put cases c past = ⊎_elim
      (λ before. first_pass place generation text old.image positive fits short lacking stale bytes are_sealed
      lacks stales
      before.0 c (quiet before.0 before.1) before.2)
      (λ after. mid_stops place generation text old.image positive fits short lacking stale bytes are_sealed
      lacks stales
      mid.image (put after.0) c after.1)
      (cases c past)

  pub second_moment : (done : Type 0) → Quiet mid → StartsPut place (own generation) lacking bytes old.image
      mid.image
      → (done → StartsPut place (other generation) stale zeros mid.image new.image)
      → EachCase (IsStartsCase place (other generation) stale zeros mid new done) mid new
      → EachCase (PutStops place generation text old.image) mid new
  second_moment done quiet put blanked cases c past = ⊎_elim
      (λ before. second_pass place generation text old.image positive fits short lacking stale bytes are_sealed
      lacks stales
      mid.image put before.0 c (quiet before.0 before.1) before.2)
      (λ after. new_stops place generation text old.image positive fits short lacking stale bytes are_sealed
      lacks stales
      mid.image put new.image (blanked after.0) c after.1)
      (cases c past)

-- only chosen slots changed
pub chosen_elsewhere : (place : Place) (parity : ℕ) (chosen : List Bool) (old new : Image) → parity < 2
    → Spares (λ f. ¬ (IsChosen place parity chosen f)) old new → Spares (IsNoSlot place) old new
chosen_elsewhere place parity chosen old new small spares f is_not =
    spares f (no_slot_apart place parity chosen small f is_not)

pub spares_on : (Files : ℕ → Type 0) (a b c : Image) → Spares Files a b → Spares Files b c → Spares Files a c
spares_on Files a b c first next f in_it = next f in_it ∙ first f in_it

-- reads on a quiet disk, and then other calls
pub reads_then : (P : Case → Type 0) (old mid new : Medium) → Quiet old → Elapses old mid → OnlyReads old mid
    → Elapses mid new
    → ((c : Case) → IsSettledAt old.image c → P c) → EachCase P mid new → EachCase P old new
reads_then P old mid new quiet time reads next still later =
    goes_on P time next (λ c past. still c (quiet c (reads.during c past))) later

pub reads_alone : (P : Case → Type 0) (old mid : Medium) → Quiet old → OnlyReads old mid
    → ((c : Case) → IsSettledAt old.image c → P c) → EachCase P old mid
reads_alone P old mid quiet reads still c past = still c (quiet c (reads.during c past))

-- no call at all
pub none_alone : (P : Case → Type 0) (told : Bool) (old : Medium) → IsLawful told old → Quiet old
    → ((c : Case) → IsSettledAt old.image c → P c) → EachCase P old old
none_alone P told old law quiet still c past = still c (quiet c (law.only_now c past))

-- ---- the count of bytes

pub first_written : (copies len size was now : ℕ) → size ≡ 44 + len → now ≤ was + copies * size
    → now ≤ was + copies * (44 + len + 44)
first_written copies len size was now is more =
    let wider : copies * size ≤ copies * (44 + len + 44) = mul-le-mul_left copies (omega (arith, is)) in
    omega (arith, more, wider)

pub both_written : (copies len size was mid now : ℕ) → size ≡ 44 + len → mid ≤ was + copies * size
    → now ≤ mid + copies * 44
    → now ≤ was + copies * (44 + len + 44)
both_written copies len size was mid now is more again =
    let e : copies * size ≡ copies * (44 + len) = ap (λ (n : ℕ). copies * n) is in
    let whole : copies * (44 + len + 44) ≡ copies * (44 + len) + copies * 44 = mul-add copies (44 + len) 44 in
    omega (arith, more, again, e, whole)

pub format_written : (copies len size was even blank now : ℕ) → size ≡ 44 + len → even ≤ was + copies * 44
    → blank ≤ even + copies * 44
    → now ≤ blank + copies * size → now ≤ was + copies * (44 + 44 + (44 + len))
format_written copies len size was even blank now is place second third =
    let e : copies * size ≡ copies * (44 + len) = ap (λ (n : ℕ). copies * n) is in
    let whole : copies * (44 + 44 + (44 + len)) ≡ copies * (44 + 44) + copies * (44 + len) =
    mul-add copies (44 + 44) (44 + len) in
    omega (arith, place, second, third, e, whole)
