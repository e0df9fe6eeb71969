-- How bytes are written at the starts of chosen slots, write by write.
use Rattle.std.proofs.Common.{◌≡◌, ◌⊎◌, ℕ, ◌+◌, ◌*◌, ◌<◌, ◌≤◌, List, length, get_or, Bool, true, false, IsTrue, refl}
use Rattle.std.proofs.Common.{sym, ap, ◌∙◌, subst, inl, inr, ⊎_elim, le_trans, add-one, arith}
use Rattle.std.proofs.Math.Nat.{suc-mul, mul-le-mul_right}
use Rattle.std.proofs.lemmas.Bool.{cases_eq, cases_lt, false≢true}
use Rattle.disk_model.specs.Image.{Image, put_bytes, put_image, TornImage}
use Rattle.disk_model.specs.Written.{put_image_here, put_image_elsewhere}
use Rattle.disk_model.specs.Case.{Case, IsSettledAt, WriteCase, WriteOrNot, Follows}
use Rattle.disk_model.specs.Medium.{Medium, IsLawful, Elapses, WritesNothing, EachCase}
use Rattle.disk_model.specs.Frame.{Spares}
use Rattle.disk_model.specs.Place.{slot}
use Rattle.disk_model.specs.Laws.{elapses_none, elapses_on, cases_on, case_now}
use Rattle.disk_model.specs.declared.place.Place.{Place}
use Rattle.guarded_cell.specs.Starts.{IsChosen, IsNone, PutsSome, StartsPut, StartsCase, IsStartsCase}
use Rattle.guarded_cell.proofs.Texts.{put_twice}

pub more_times : (k n : ℕ) → (k + 1) * n ≡ k * n + n
more_times k n = rw add-one (suc-mul k n)

pub times_within : (k m n : ℕ) → k ≤ m → k * n ≤ m * n
times_within k m n le = mul-le-mul_right n le

module _ (Files : ℕ → Type 0) (bytes : List ℕ) where
  pub puts_none : (a : Image) → PutsSome Files bytes a a
  puts_none a = record { each = λ f. inl refl; others = λ f not. refl }

  pub put_again : (a b : Image) (file : ℕ) → PutsSome Files bytes a b
      → put_image b file 0 bytes file ≡ put_bytes (a file) 0 bytes
  put_again a b file puts = put_image_here b file 0 bytes ∙ ⊎_elim
      (λ e. ap (λ (xs : List ℕ). put_bytes xs 0 bytes) e)
      (λ e. ap (λ (xs : List ℕ). put_bytes xs 0 bytes) e ∙ put_twice (a file) bytes)
      (puts.each file)

  pub puts_step : (a b : Image) (file : ℕ) → Files file → PutsSome Files bytes a b
      → PutsSome Files bytes a (put_image b file 0 bytes)
  puts_step a b file chosen puts = record {
    each = λ f. ⊎_elim
        (λ same. inr (subst (λ (x : ℕ). put_image b file 0 bytes x ≡ put_bytes (a x) 0 bytes) (sym same)
        (put_again a b file puts)))
        (λ differs. ⊎_elim
        (λ e. inl (put_image_elsewhere b file 0 bytes f differs ∙ e))
        (λ e. inr (put_image_elsewhere b file 0 bytes f differs ∙ e))
        (puts.each f))
        (cases_eq f file);
    others = λ f not. put_image_elsewhere b file 0 bytes f (λ e. not (subst Files (sym e) chosen)) ∙ puts.others f not;
  }

-- what is so at the start of each turn of the loop that writes
pub record IsWriting (place : Place) (parity k : ℕ) (chosen : List Bool) (bytes : List ℕ) (told : Bool)
    (start now : Medium) : Type 0 where
  pub some : IsTrue told → PutsSome (IsChosen place parity chosen) bytes start.image now.image
  pub put : IsTrue told → (copy : ℕ) → copy < k → get_or chosen copy false ≡ true
      → now.image (slot place copy parity) ≡ put_bytes (start.image (slot place copy parity)) 0 bytes
  pub during : Follows (StartsCase place parity chosen bytes) start.now (now.since start.moment)
  pub written : now.written ≤ start.written + k * length bytes
  pub none : IsNone place.copies chosen → now.written ≡ start.written
  pub time : Elapses start now
  pub passes : now.faults ≡ start.faults

module _ (place : Place) (parity : ℕ) (chosen : List Bool) (bytes : List ℕ) where
  abbrev Chosen : ℕ → Type 0
  Chosen = IsChosen place parity chosen

  abbrev Step : Case → Case → Type 0
  Step = StartsCase place parity chosen bytes

  pub fronts_none : (c : Case) → StartsCase place parity chosen bytes c c
  fronts_none c = record { base = refl; full = puts_none Chosen bytes c.full; left = λ f not. refl }

  fronts_step : (file : ℕ) → Chosen file → (a d c : Case) → Step a d → WriteCase file 0 bytes d c → Step a c
  fronts_step file is a d c fronts write = record {
    base = write.base ∙ fronts.base;
    full = subst (λ (image : Image). PutsSome Chosen bytes a.full image) (sym write.full)
        (puts_step Chosen bytes a.full d.full file is fronts.full);
    left = λ f not. write.left.others f (λ e. not (subst Chosen (sym e) is)) ∙ fronts.left f not;
  }

  pub during_step : {told : Bool} {start mid new : Medium} (file : ℕ) → IsChosen place parity chosen file
      → IsLawful told mid → Elapses start mid → Elapses mid new
      → Follows (StartsCase place parity chosen bytes) start.now (mid.since start.moment)
      → Follows (WriteOrNot file 0 bytes) mid.now (new.since mid.moment)
      → Follows (StartsCase place parity chosen bytes) start.now (new.since start.moment)
  during_step {told} {start} {mid} {new} file is law time next was write c past = ⊎_elim
      (was c)
      (λ later.
      let (d, before, how) = write c later in
      let (a, began, fronts) = was d (case_now law time d before) in (
        a,
        began,
        ⊎_elim
            (λ w. fronts_step file is a d c fronts w)
            (λ same. subst (λ (x : Case). Step a x) (sym same) fronts)
            how,
      ))
      (cases_on time next c past)

  some_chosen : (k : ℕ) → k < place.copies → get_or chosen k false ≡ true → ¬ (IsNone place.copies chosen)
  some_chosen k lt is_set none = false≢true (sym (none k lt) ∙ is_set)

  -- no turn was made
  pub writing_none : {told : Bool} {start : Medium} → IsLawful told start
      → IsWriting place parity 0 chosen bytes told start start
  writing_none {told} {start} law = record {
    some = λ _. puts_none Chosen bytes start.image;
    put = λ _ copy lt. absurd (omega (arith, lt));
    during = λ c past. (c, law.only_now c past, fronts_none c);
    written = omega arith;
    none = λ _. refl;
    time = elapses_none law;
    passes = refl;
  }

  -- a copy is passed
  pub writing_skips : {told : Bool} {start mid : Medium} (k : ℕ) → get_or chosen k false ≡ false
      → IsWriting place parity k chosen bytes told start mid
      → IsWriting place parity (k + 1) chosen bytes told start mid
  writing_skips {told} {start} {mid} k is_not w = record {
    some = w.some;
    put = λ tells copy lt flag. ⊎_elim
        (λ below. w.put tells copy below flag)
        (λ above. let same : copy ≡ k = omega arith in cc)
        (cases_lt copy k);
    during = w.during;
    written = omega (arith, w.written, more_times k (length bytes));
    none = w.none;
    time = w.time;
    passes = w.passes;
  }

  -- a copy is written
  pub writing_writes : {told : Bool} {start mid new : Medium} (k : ℕ) → k < place.copies → get_or chosen k false ≡ true
      → IsLawful told mid
      → IsWriting place parity k chosen bytes told start mid
      → (IsTrue told → new.image ≡ put_image mid.image (slot place k parity) 0 bytes)
      → Follows (WriteOrNot (slot place k parity) 0 bytes) mid.now (new.since mid.moment)
      → new.written ≤ mid.written + length bytes → Elapses mid new → new.faults ≡ mid.faults
      → IsWriting place parity (k + 1) chosen bytes told start new
  writing_writes {told} {start} {mid} {new} k lt is_set law w whole cases more next passed =
      let is : Chosen (slot place k parity) = record { copy = k; within = lt; flag = is_set; is = refl } in
      record {
        some = λ tells. subst (λ (image : Image). PutsSome Chosen bytes start.image image) (sym (whole tells))
            (puts_step Chosen bytes start.image mid.image (slot place k parity) is (w.some tells));
        put = λ tells copy below flag. ap (λ (image : Image). image (slot place copy parity)) (whole tells) ∙ ⊎_elim
            (λ before. put_image_elsewhere mid.image (slot place k parity) 0 bytes (slot place copy parity)
            (λ e. omega (arith, e, before)) ∙ w.put tells copy before flag)
            (λ above. let same : copy ≡ k = omega (arith, above, below) in
            subst (λ (x : ℕ). put_image mid.image (slot place k parity) 0 bytes (slot place x parity)
            ≡ put_bytes (start.image (slot place x parity)) 0 bytes) (sym same)
            (put_again Chosen bytes start.image mid.image (slot place k parity) (w.some tells)))
            (cases_lt copy k);
        during = during_step (slot place k parity) is law w.time next w.during cases;
        written = omega (arith, more, w.written, more_times k (length bytes));
        none = λ none. absurd (some_chosen k lt is_set none);
        time = elapses_on w.time next;
        passes = passed ∙ w.passes;
      }

  -- a write that fails
  pub cut_elsewhere : {told : Bool} (start mid new : Medium) (k : ℕ) → k < place.copies → get_or chosen k false ≡ true
      → IsWriting place parity k chosen bytes told start mid
      → (IsTrue told → TornImage (slot place k parity) 0 (length bytes) mid.image new.image)
      → IsTrue told → Spares (λ f. ¬ (IsChosen place parity chosen f)) start.image new.image
  cut_elsewhere start mid new k lt is_set w torn tells f not =
      let is : Chosen (slot place k parity) = record { copy = k; within = lt; flag = is_set; is = refl } in
      (torn tells).others f (λ e. not (subst Chosen (sym e) is)) ∙ (w.some tells).others f not

  pub cut_during : {told : Bool} {start mid new : Medium} (k : ℕ) → k < place.copies → get_or chosen k false ≡ true
      → IsLawful told mid
      → IsWriting place parity k chosen bytes told start mid
      → Follows (WriteOrNot (slot place k parity) 0 bytes) mid.now (new.since mid.moment) → Elapses mid new
      → Follows (StartsCase place parity chosen bytes) start.now (new.since start.moment)
  cut_during k lt is_set law w cases next =
      let is : Chosen (slot place k parity) = record { copy = k; within = lt; flag = is_set; is = refl } in
      during_step (slot place k parity) is law w.time next w.during cases

  pub cut_written : {told : Bool} (start mid new : Medium) (k : ℕ) → k < place.copies
      → IsWriting place parity k chosen bytes told start mid → new.written ≤ mid.written + length bytes
      → new.written ≤ start.written + place.copies * length bytes
  cut_written {told} start mid new k lt w more =
      let whole : k + 1 ≤ place.copies = omega arith in
      omega (
        arith,
        more,
        w.written,
        more_times k (length bytes),
        times_within (k + 1) place.copies (length bytes)
            whole,
      )

  pub cut_none : (start new : Medium) (k : ℕ) → k < place.copies → get_or chosen k false ≡ true
      → IsNone place.copies chosen
      → new.written ≡ start.written
  cut_none start new k lt is_set none = absurd (some_chosen k lt is_set none)

  -- all turns are made
  pub all_put : {told : Bool} {start new : Medium} (k : ℕ) → place.copies ≤ k
      → IsWriting place parity k chosen bytes told start new
      → IsTrue told → StartsPut place parity chosen bytes start.image new.image
  all_put k le w tells = record { some = w.some tells; put = λ copy lt flag. w.put tells copy (le_trans lt le) flag }

  -- a sync after the writes
  pub synced_case : {told : Bool} {old mid new : Medium} (done : Type 0) → IsLawful told mid → Elapses old mid
      → Elapses mid new
      → Follows (StartsCase place parity chosen bytes) old.now (mid.since old.moment) → WritesNothing mid new
      → ((c : Case) → new.now c → mid.now c ⊎ (done × IsSettledAt new.image c))
      → EachCase (IsStartsCase place parity chosen bytes old new done) old new
  synced_case done law time next was sync after c past = ⊎_elim
      (λ before. inl (was c before))
      (λ later. ⊎_elim
      (λ still. inl (was c (case_now law time c still)))
      (λ now. ⊎_elim (λ still. inl (was c (case_now law time c still))) inr (after c now))
      (sync.during c later))
      (cases_on time next c past)
