-- How a text is written at the starts of chosen slots, slot by slot, where only what differs is written.
use Rattle.std.proofs.Common.{
  ◌≡◌,
  ◌⊎◌,
  ℕ,
  zero,
  suc,
  ◌+◌,
  ◌*◌,
  ◌<◌,
  ◌≤◌,
  List,
  length,
  get_or,
  Bool,
  true,
  false,
  IsTrue,
  refl,
}
use Rattle.std.proofs.Common.{sym, ap, ◌∙◌, subst, inl, inr, ⊎_elim, le_trans, le_refl, add-one, arith}
use Rattle.std.proofs.lemmas.Bool.{cases_eq, cases_lt, false≢true}
use Rattle.disk_model.specs.Image.{Image, put_bytes, put_image, TornImage}
use Rattle.disk_model.specs.Written.{put_image_elsewhere}
use Rattle.disk_model.specs.Case.{Case, IsSettledAt, Follows}
use Rattle.disk_model.specs.Medium.{Medium, Quiet, IsLawful, Elapses, WritesNothing, EachCase}
use Rattle.disk_model.specs.Frame.{Spares}
use Rattle.disk_model.specs.Place.{slot}
use Rattle.disk_model.specs.Laws.{elapses_none, elapses_on, cases_on, case_now}
use Rattle.disk_model.specs.declared.place.Place.{Place}
use Rattle.changed_runs.specs.Parts.{HasNoFailedWrite}
use Rattle.guarded_cell.specs.Starts.{IsChosen, IsNone, PutsSome, StartsPut}
use Rattle.guarded_cell.specs.Differing.{front_cost, texts_cost, IsSlotMidway, FrontCase, TextsCase, IsTextsCase}
use Rattle.guarded_cell.proofs.Writing.{puts_none, put_again, puts_step, more_times, times_within}

-- a chosen slot of one of the first k copies
pub record IsBelow (place : Place) (parity k : ℕ) (chosen : List Bool) (file : ℕ) : Type 0 where
  pub copy : ℕ
  pub within : copy < k
  pub flag : get_or chosen copy false ≡ true
  pub is : file ≡ slot place copy parity

-- what is so at the start of each turn of the loop that puts
pub record IsPutting (place : Place) (parity k : ℕ) (chosen : List Bool) (bytes : List ℕ) (told : Bool)
    (start mid : Medium) : Type 0 where
  pub some : IsTrue told → PutsSome (IsBelow place parity k chosen) bytes start.image mid.image
  pub put : IsTrue told → (copy : ℕ) → copy < k → get_or chosen copy false ≡ true
      → mid.image (slot place copy parity) ≡ put_bytes (start.image (slot place copy parity)) 0 bytes
  pub during : IsTrue told → Quiet start
      → Follows (TextsCase (IsBelow place parity k chosen) bytes) start.now (mid.since start.moment)
  pub written : mid.written ≤ start.written + k * length bytes
  pub costs : IsTrue told → mid.written ≤ start.written + texts_cost place parity bytes start.image k
  pub none : IsNone place.copies chosen → mid.written ≡ start.written
  pub time : Elapses start mid
  pub passes : mid.faults ≡ start.faults

module _ (Files More : ℕ → Type 0) (wider : (f : ℕ) → Files f → More f) (bytes : List ℕ) where
  pub texts_more : (old new : Case) → TextsCase Files bytes old new → TextsCase More bytes old new
  texts_more old new texts = record {
    base = texts.base;
    each = texts.each;
    full = λ f not. texts.full f (λ is. not (wider f is));
    left = λ f not. texts.left f (λ is. not (wider f is));
  }

  pub puts_more : (old new : Image) → PutsSome Files bytes old new → PutsSome More bytes old new
  puts_more old new puts = record { each = puts.each; others = λ f not. puts.others f (λ is. not (wider f is)) }

module _ (Files : ℕ → Type 0) (bytes : List ℕ) where
  pub texts_none : (c : Case) → TextsCase Files bytes c c
  texts_none c = record {
    base = refl;
    each = λ f. inl refl;
    full = λ f not. refl;
    left = λ f not. refl;
  }

  front_on : (a d c : List ℕ) → IsSlotMidway bytes a d → IsSlotMidway bytes d c → IsSlotMidway bytes a c
  front_on a d c first (inl same) = subst (IsSlotMidway bytes a) (sym same) first
  front_on a d c first (inr next) = inr next

  pub texts_step : (file : ℕ) → Files file → (a d c : Case) → TextsCase Files bytes a d → FrontCase file bytes d c
      → TextsCase Files bytes a c
  texts_step file is a d c texts front = record {
    base = front.base ∙ texts.base;
    each = λ f. ⊎_elim
        (λ same. subst (λ (x : ℕ). IsSlotMidway bytes (a.full x) (c.full x)) (sym same)
        (front_on (a.full file) (d.full file) (c.full file) (texts.each file) front.front))
        (λ differs. subst (IsSlotMidway bytes (a.full f)) (sym (front.full f differs)) (texts.each f))
        (cases_eq f file);
    full = λ f not. front.full f (λ e. not (subst Files (sym e) is)) ∙ texts.full f not;
    left = λ f not. front.left f (λ e. not (subst Files (sym e) is)) ∙ texts.left f not;
  }

module _ (place : Place) (parity : ℕ) (chosen : List Bool) (bytes : List ℕ) where
  abbrev Below : ℕ → ℕ → Type 0
  Below k f = IsBelow place parity k chosen f

  one_more : (k f : ℕ) → IsBelow place parity k chosen f → IsBelow place parity (k + 1) chosen f
  one_more k f is = record { copy = is.copy; within = omega (arith, is.within); flag = is.flag; is = is.is }

  to_chosen : (k : ℕ) → k ≤ place.copies → (f : ℕ) → IsBelow place parity k chosen f → IsChosen place parity chosen f
  to_chosen k le f is = record { copy = is.copy; within = le_trans is.within le; flag = is.flag; is = is.is }

  not_yet : (k : ℕ) → ¬ (IsBelow place parity k chosen (slot place k parity))
  not_yet k is =
      let e : place.first + 4 * k + parity ≡ place.first + 4 * is.copy + parity = is.is in
      omega (arith, e, is.within)

  chosen_some : (k : ℕ) → k < place.copies → get_or chosen k false ≡ true → ¬ (IsNone place.copies chosen)
  chosen_some k lt is_set none = false≢true (sym (none k lt) ∙ is_set)

  cost_more : (image : Image) (k : ℕ) → texts_cost place parity bytes image (k + 1)
      ≡ texts_cost place parity bytes image k + front_cost (image (slot place k parity)) bytes
  cost_more image k = ap (texts_cost place parity bytes image) (add-one k)

  pub cost_rises : (image : Image) (k m : ℕ) → k ≤ m
      → texts_cost place parity bytes image k ≤ texts_cost place parity bytes image m
  cost_rises image k zero le =
      let e : k ≡ 0 = omega arith in
      subst (λ (n : ℕ). texts_cost place parity bytes image n ≤ texts_cost place parity bytes image 0) (sym e)
      (le_refl _)
  cost_rises image k (suc m) le = ⊎_elim
      (λ below.
      let inner : k ≤ m = omega arith in
      let rest : texts_cost place parity bytes image k ≤ texts_cost place parity bytes image m =
      cost_rises image k m inner in
      omega (arith, rest))
      (λ above.
      let e : k ≡ suc m = omega arith in
      subst (λ (n : ℕ). texts_cost place parity bytes image n ≤ texts_cost place parity bytes image (suc m)) (sym e)
      (le_refl _))
      (cases_lt k (suc m))

  -- no turn was made
  pub putting_none : {told : Bool} {start : Medium} → IsLawful told start
      → IsPutting place parity 0 chosen bytes told start start
  putting_none {told} {start} law = record {
    some = λ _. puts_none (Below 0) bytes start.image;
    put = λ _ copy lt. absurd (omega (arith, lt));
    during = λ _ _ c past. (c, law.only_now c past, texts_none (Below 0) bytes c);
    written = omega arith;
    costs = λ _. omega arith;
    none = λ _. refl;
    time = elapses_none law;
    passes = refl;
  }

  -- a copy is passed
  pub putting_skips : {told : Bool} {start mid : Medium} (k : ℕ) → get_or chosen k false ≡ false
      → IsPutting place parity k chosen bytes told start mid
      → IsPutting place parity (k + 1) chosen bytes told start mid
  putting_skips {told} {start} {mid} k is_not w = record {
    some = λ tells. puts_more (Below k) (Below (k + 1)) (one_more k) bytes start.image mid.image (w.some tells);
    put = λ tells copy lt flag. ⊎_elim
        (λ below. w.put tells copy below flag)
        (λ above. let same : copy ≡ k = omega arith in cc)
        (cases_lt copy k);
    during = λ tells quiet c past. let (d, was, texts) = w.during tells quiet c past in
        (d, was, texts_more (Below k) (Below (k + 1)) (one_more k) bytes d c texts);
    written = omega (arith, w.written, more_times k (length bytes));
    costs = λ tells. omega (arith, w.costs tells, cost_more start.image k);
    none = w.none;
    time = w.time;
    passes = w.passes;
  }

  -- the slot of the next copy is as it was at the start, in what reads give and in every case
  still : {told : Bool} {start mid : Medium} (k : ℕ) → IsPutting place parity k chosen bytes told start mid
      → IsTrue told → mid.image (slot place k parity) ≡ start.image (slot place k parity)
  still k w tells = (w.some tells).others (slot place k parity) (not_yet k)

  pub still_whole : {told : Bool} {start mid : Medium} (k : ℕ) → IsLawful told mid
      → IsPutting place parity k chosen bytes told start mid
      → IsTrue told → Quiet start → HasNoFailedWrite (slot place k parity) mid
  still_whole {told} {start} {mid} k law w tells quiet c now =
      let (d, was, texts) = w.during tells quiet c (case_now law w.time c now) in
      texts.full (slot place k parity) (not_yet k)
      ∙ ap (λ (i : Image). i (slot place k parity)) (quiet d was).full
      ∙ sym (still k w tells)

  module _ {told : Bool} {start mid new : Medium} (k : ℕ) (lt : k < place.copies) (is_set : get_or chosen k false ≡
      true)
      (law : IsLawful told mid) (w : IsPutting place parity k chosen bytes told start mid)
      (cases : IsTrue told → HasNoFailedWrite (slot place k parity) mid
      → Follows (FrontCase (slot place k parity) bytes) mid.now (new.since mid.moment))
      (cost : IsTrue told → new.written ≤ mid.written + front_cost (mid.image (slot place k parity)) bytes)
      (most : new.written ≤ mid.written + length bytes) (next : Elapses mid new) where
    here : IsBelow place parity (k + 1) chosen (slot place k parity)
    here = record { copy = k; within = omega arith; flag = is_set; is = refl }

    turn_during : IsTrue told → Quiet start
        → Follows (TextsCase (IsBelow place parity (k + 1) chosen) bytes) start.now (new.since start.moment)
    turn_during tells quiet c past = ⊎_elim
        (λ before. let (d, was, texts) = w.during tells quiet c before in
        (d, was, texts_more (Below k) (Below (k + 1)) (one_more k) bytes d c texts))
        (λ later.
        let (d, before, front) = cases tells (still_whole k law w tells quiet) c later in
        let (a, began, texts) = w.during tells quiet d (case_now law w.time d before) in (
          a,
          began,
          texts_step (Below (k + 1)) bytes (slot place k parity) here a d c
              (texts_more (Below k) (Below (k + 1)) (one_more k) bytes a d texts) front,
        ))
        (cases_on w.time next c past)

    turn_costs : IsTrue told → new.written ≤ start.written + texts_cost place parity bytes start.image (k + 1)
    turn_costs tells =
        let e : front_cost (mid.image (slot place k parity)) bytes
        ≡ front_cost (start.image (slot place k parity)) bytes =
        ap (λ (s : List ℕ). front_cost s bytes) (still k w tells) in
        omega (arith, cost tells, w.costs tells, cost_more start.image k, e)

    turn_written : new.written ≤ start.written + (k + 1) * length bytes
    turn_written = omega (arith, most, w.written, more_times k (length bytes))

    pub putting_puts : (IsTrue told → new.image ≡ put_image mid.image (slot place k parity) 0 bytes)
        → new.faults ≡ mid.faults
        → IsPutting place parity (k + 1) chosen bytes told start new
    putting_puts whole passed = record {
      some = λ tells. subst (λ (image : Image). PutsSome (Below (k + 1)) bytes start.image image) (sym (whole tells))
          (puts_step (Below (k + 1)) bytes start.image mid.image (slot place k parity) here
          (puts_more (Below k) (Below (k + 1)) (one_more k) bytes start.image mid.image (w.some tells)));
      put = λ tells copy below flag. ap (λ (image : Image). image (slot place copy parity)) (whole tells) ∙ ⊎_elim
          (λ before. put_image_elsewhere mid.image (slot place k parity) 0 bytes (slot place copy parity)
          (λ e. omega (arith, e, before)) ∙ w.put tells copy before flag)
          (λ above. let same : copy ≡ k = omega (arith, above, below) in
          subst (λ (x : ℕ). put_image mid.image (slot place k parity) 0 bytes (slot place x parity)
          ≡ put_bytes (start.image (slot place x parity)) 0 bytes) (sym same)
          (put_again (Below k) bytes start.image mid.image (slot place k parity) (w.some tells)))
          (cases_lt copy k);
      during = turn_during;
      written = turn_written;
      costs = turn_costs;
      none = λ none. absurd (chosen_some k lt is_set none);
      time = elapses_on w.time next;
      passes = passed ∙ w.passes;
    }

    -- a write that fails
    pub cut_elsewhere : (IsTrue told → TornImage (slot place k parity) 0 (length bytes) mid.image new.image)
        → IsTrue told → Spares (λ f. ¬ (IsChosen place parity chosen f)) start.image new.image
    cut_elsewhere torn tells f not =
        (torn tells).others f (λ e. not (to_chosen (k + 1) (omega arith) f (subst (Below (k + 1)) (sym e) here)))
        ∙ (w.some tells).others f (λ is. not (to_chosen k (omega arith) f is))

    pub cut_during : IsTrue told → Quiet start
        → Follows (TextsCase (IsChosen place parity chosen) bytes) start.now (new.since start.moment)
    cut_during tells quiet c past = let (d, was, texts) = turn_during tells quiet c past in (
      d,
      was,
      texts_more (Below (k + 1)) (IsChosen place parity chosen) (to_chosen (k + 1) (omega arith)) bytes d c
          texts,
    )

    pub cut_written : new.written ≤ start.written + place.copies * length bytes
    cut_written = omega (arith, turn_written, times_within (k + 1) place.copies (length bytes) (omega arith))

    pub cut_costs : IsTrue told → new.written ≤ start.written + texts_cost place parity bytes start.image place.copies
    cut_costs tells = omega (arith, turn_costs tells, cost_rises start.image (k + 1) place.copies (omega arith))

    pub cut_none : IsNone place.copies chosen → new.written ≡ start.written
    cut_none none = absurd (chosen_some k lt is_set none)

  -- all turns are made
  module _ {told : Bool} {start new : Medium} (k : ℕ) (all : k ≡ place.copies)
      (w : IsPutting place parity k chosen bytes told start new) where
    within' : k ≤ place.copies
    within' = omega arith

    pub all_put : IsTrue told → StartsPut place parity chosen bytes start.image new.image
    all_put tells = record {
      some = puts_more (Below k) (IsChosen place parity chosen) (to_chosen k within') bytes start.image new.image
          (w.some tells);
      put = λ copy lt flag. w.put tells copy (omega arith) flag;
    }

    pub all_during : IsTrue told → Quiet start
        → Follows (TextsCase (IsChosen place parity chosen) bytes) start.now (new.since start.moment)
    all_during tells quiet c past = let (d, was, texts) = w.during tells quiet c past in
        (d, was, texts_more (Below k) (IsChosen place parity chosen) (to_chosen k within') bytes d c texts)

  -- a sync after it
  pub synced_texts : {told : Bool} {old mid new : Medium} (done : Type 0) → IsLawful told mid → Elapses old mid
      → Elapses mid new
      → Follows (TextsCase (IsChosen place parity chosen) bytes) old.now (mid.since old.moment)
      → WritesNothing mid new
      → ((c : Case) → new.now c → mid.now c ⊎ (done × IsSettledAt new.image c))
      → EachCase (IsTextsCase place parity chosen bytes old new done) old new
  synced_texts done law time next was sync after c past = ⊎_elim
      (λ before. inl (was c before))
      (λ later. ⊎_elim
      (λ still. inl (was c (case_now law time c still)))
      (λ now. ⊎_elim (λ still. inl (was c (case_now law time c still))) inr (after c now))
      (sync.during c later))
      (cases_on time next c past)
