-- One call more in the record of a disk in memory.
use Rattle.std.proofs.Common.{◌≡◌, ◌⊎◌, ℕ, ◌+◌, ◌≤◌, List, [], ◌∷◌, ◌++◌, length, take, refl, sym, ap, ◌∙◌, subst, inl}
use Rattle.std.proofs.Common.{inr, ⊎_elim, le_refl, le_trans, arith, take_all}
use Rattle.std.specs.Prelude.{Vec}
use Rattle.std.specs.declared.alloc.Global.{Global}
use Rattle.std.proofs.lemmas.List.{take-append-le, length-append}
use Rattle.std.proofs.lemmas.Bool.{cases_lt}
use Rattle.disk_model.specs.declared.history.Call.{Call}
use Rattle.disk_model.specs.declared.history.Call.TheVariants.{Write, Sync, Read}
use Rattle.disk_model.specs.Image.{Image, put_image}
use Rattle.disk_model.specs.Case.{Case, IsSettledAt, WriteCase, WriteOrNot, Follows, Reaches}
use Rattle.disk_model.specs.Medium.{Grows, Quiet, Elapses, OnlyReads, WritesNothing}
use Rattle.disk_model.specs.History.{image_after, base_after, cases_after, cases_after_call, CaseSince, GaveSince}
use Rattle.disk_model.specs.History.{recorded}

pub last_case : (xs : List Call) (call : Call) (cases : Case → Type 0) (c : Case)
    → cases_after (xs ++ call ∷ []) cases c → cases_after_call call (cases_after xs cases) c
last_case [] call cases c now = now
last_case (x ∷ xs) call cases c now = last_case xs call (cases_after_call x cases) c now

pub case_last : (xs : List Call) (call : Call) (cases : Case → Type 0) (c : Case)
    → cases_after_call call (cases_after xs cases) c → cases_after (xs ++ call ∷ []) cases c
case_last [] call cases c now = now
case_last (x ∷ xs) call cases c now = case_last xs call (cases_after_call x cases) c now

-- in each case `full` is what reads give, and `base` what they gave after the last sync
pub record Shares (base image : Image) (c : Case) : Type 0 where
  pub base_is : c.base ≡ base
  pub full_is : c.full ≡ image

pub all_share : (calls : List Call) (cases : Case → Type 0) (base image : Image)
    → ((c : Case) → cases c → Shares base image c)
    → (c : Case) → cases_after calls cases c → Shares (base_after calls base image) (image_after calls image) c
all_share [] cases base image start c now = start c now
all_share (Write file at bytes ∷ calls) cases base image start c now =
    all_share calls _ base (put_image image file at bytes.items)
    (λ new (old, was, step). record {
      base_is = step.base ∙ (start old was).base_is;
      full_is = step.full ∙ ap (λ i. put_image i file at bytes.items) (start old was).full_is;
    }) c now
all_share (Sync ∷ calls) cases base image start c now = all_share calls _ image image
    (λ new (old, was, step). record {
      base_is = step.base ∙ (start old was).full_is;
      full_is =
          step.full ∙ (start old was).full_is;
    }) c now
all_share (Read ∷ calls) cases base image start c now = all_share calls cases base image start c now

pub shares : (calls : List Call) (start : Image) (c : Case) → cases_after calls (IsSettledAt start) c
    → Shares (base_after calls start start) (image_after calls start) c
shares calls start = all_share calls (IsSettledAt start) start start
    (λ c at. record { base_is = at.base; full_is = at.full })

-- with no call on record nothing is pending
pub none_pending : (calls : List Call) → calls ≡ [] → (image : Image) (c : Case)
    → cases_after calls (IsSettledAt image) c → IsSettledAt image c
none_pending calls none image c now = subst (λ cs. cases_after cs (IsSettledAt image) c) none now

module _ (image start : Image) (calls : List Call) where
  -- only counts changed
  pub counted : (faults faults' written : ℕ) → faults ≤ faults'
      → Elapses (recorded image start calls faults written) (recorded image start calls faults' written)
  counted faults faults' written le = record {
    later = le_refl _;
    nothing_else = λ t c earlier past. inl past;
    keeps = λ t c earlier past. past;
    adds = λ t c earlier past. record { k = past.k; from = le_trans earlier past.from; to = past.to; case = past.case };
    gave = record {
      nothing_else = λ t c earlier past. inl past;
      keeps = λ t c earlier past. past;
      adds = λ t c earlier past. record {
        k = past.k;
        from = le_trans earlier past.from;
        to = past.to;
        case =
            past.case;
        image = past.image;
      };
    };
    opens = λ t earlier was. was;
    agrees = λ t earlier was. was;
    apart = λ t earlier was. was;
    faults = le;
    written = le_refl _;
  }

  longer : (call : Call) → length (calls ++ call ∷ []) ≡ length calls + 1
  longer call = length-append calls (call ∷ [])

  -- a case of an earlier moment stays one
  stays : (call : Call) (k : ℕ) (c : Case) → k ≤ length calls → cases_after (take k calls) (IsSettledAt start) c
      → cases_after (take k (calls ++ call ∷ [])) (IsSettledAt start) c
  stays call k c le case = subst (λ xs. cases_after xs (IsSettledAt start) c)
      (sym (take-append-le k calls (call ∷ []) le)) case

  stood : (call : Call) (k : ℕ) (c : Case) → k ≤ length calls
      → cases_after (take k (calls ++ call ∷ [])) (IsSettledAt start) c
      → cases_after (take k calls) (IsSettledAt start) c
  stood call k c le case = subst (λ xs. cases_after xs (IsSettledAt start) c) (take-append-le k calls (call ∷ []) le)
      case

  -- so does what reads gave
  same_then : (call : Call) (k : ℕ) → k ≤ length calls → image_after (take k (calls ++ call ∷ [])) start
      ≡ image_after (take k calls) start
  same_then call k le = ap (λ xs. image_after xs start) (take-append-le k calls (call ∷ []) le)

  gave_more : (call : Call) → Grows (length calls) (GaveSince start calls) (GaveSince start (calls ++ call ∷ []))
  gave_more call = record {
    nothing_else = λ t c earlier past. ⊎_elim
        (λ before. let to : past.k ≤ length calls = omega arith in
        inl (record {
          k = past.k;
          from = past.from;
          to = to;
          case = stood call past.k c to past.case;
          image =
              past.image ∙ same_then call past.k to;
        }))
        (λ after. inr (record { k = past.k; from = omega arith; to = past.to; case = past.case; image = past.image }))
        (cases_lt past.k (length calls + 1));
    keeps = λ t c earlier past. record {
      k = past.k;
      from = past.from;
      to = omega (arith, longer call, past.to);
      case = stays call past.k c past.to past.case;
      image = past.image ∙ sym (same_then call past.k past.to);
    };
    adds = λ t c earlier past. record {
      k = past.k;
      from = le_trans earlier past.from;
      to = past.to;
      case =
          past.case;
      image = past.image;
    };
  }

  -- a call was added
  pub pushed : (call : Call) (image' : Image) (faults faults' written written' : ℕ) → faults ≤ faults'
      → written ≤ written'
      → Elapses (recorded image start calls faults written)
      (recorded image' start (calls ++ call ∷ []) faults' written')
  pushed call image' faults faults' written written' more le = record {
    later = omega (arith, longer call);
    nothing_else = λ t c earlier past. ⊎_elim
        (λ before. let to : past.k ≤ length calls = omega arith in
        inl (record { k = past.k; from = past.from; to = to; case = stood call past.k c to past.case }))
        (λ after. inr (record { k = past.k; from = omega arith; to = past.to; case = past.case }))
        (cases_lt past.k (length calls + 1));
    keeps = λ t c earlier past. record {
      k = past.k;
      from = past.from;
      to = omega (arith, longer call, past.to);
      case =
          stays call past.k c past.to past.case;
    };
    adds = λ t c earlier past. record { k = past.k; from = le_trans earlier past.from; to = past.to; case = past.case };
    gave = gave_more call;
    opens = λ t earlier was. was;
    agrees = λ t earlier was. was;
    apart = λ t earlier was. was;
    faults = more;
    written = le;
  }

  -- a case since the call began is one of before, or one of the call
  pub during : (call : Call) (c : Case) → CaseSince start (calls ++ call ∷ []) (length calls) c
      → cases_after calls (IsSettledAt start) c ⊎ cases_after_call call (cases_after calls (IsSettledAt start)) c
  during call c past = ⊎_elim
      (λ before. let to : past.k ≤ length calls = omega arith in
      inl (subst (λ xs. cases_after xs (IsSettledAt start) c) (take_all past.k calls past.from)
      (stood call past.k c to past.case)))
      (λ after. inr (last_case calls call (IsSettledAt start) c
      (subst (λ xs. cases_after xs (IsSettledAt start) c)
      (take_all past.k (calls ++ call ∷ []) (omega (arith, longer call))) past.case)))
      (cases_lt past.k (length calls + 1))

  pub read_more : (faults faults' written : ℕ) → OnlyReads (recorded image start calls faults written)
      (recorded image start (calls ++ Read ∷ []) faults' written)
  read_more faults faults' written = record {
    image = refl;
    now = λ c now. last_case calls Read (IsSettledAt start) c now;
    during = λ c past. ⊎_elim (λ was. was) (λ new. new) (during Read c past);
    written = refl;
  }

  pub sync_writes_nothing : (faults faults' written : ℕ)
      → WritesNothing (recorded image start calls faults written)
      (recorded image start (calls ++ Sync ∷ []) faults' written)
  sync_writes_nothing faults faults' written = record {
    image = refl;
    during = λ c past. ⊎_elim (λ was. inl was) (λ new. inr (case_last calls Sync (IsSettledAt start) c new))
        (during Sync c past);
    written = refl;
  }

  pub sync_quiet : image ≡ image_after calls start → (faults written : ℕ)
      → Quiet (recorded image start (calls ++ Sync ∷ []) faults written)
  sync_quiet tied faults written c now =
      let (d, was, at) = last_case calls Sync (IsSettledAt start) c now in
      subst (λ i. IsSettledAt i c) ((shares calls start d was).full_is ∙ sym tied) at

  pub write_follows : (file at : ℕ) (copy : Vec ℕ Global) (bytes : List ℕ) → copy.items ≡ bytes
      → Follows (WriteCase file at bytes) (cases_after calls (IsSettledAt start))
      (cases_after (calls ++ Write file at copy ∷ []) (IsSettledAt start))
  write_follows file at copy bytes copied c now =
      subst (λ bs. (d : Case) × cases_after calls (IsSettledAt start) d × WriteCase file at bs d c) copied
      (last_case calls (Write file at copy) (IsSettledAt start) c now)

  pub write_reaches : (file at : ℕ) (copy : Vec ℕ Global) (bytes : List ℕ) → copy.items ≡ bytes
      → Reaches (WriteCase file at bytes) (cases_after calls (IsSettledAt start))
      (cases_after (calls ++ Write file at copy ∷ []) (IsSettledAt start))
  write_reaches file at copy bytes copied d c was step =
      case_last calls (Write file at copy) (IsSettledAt start) c
      (d, was, subst (λ bs. WriteCase file at bs d c) (sym copied) step)

  pub write_during : (file at : ℕ) (copy : Vec ℕ Global) (bytes : List ℕ) → copy.items ≡ bytes
      → Follows (WriteOrNot file at bytes) (cases_after calls (IsSettledAt start))
      (CaseSince start (calls ++ Write file at copy ∷ []) (length calls))
  write_during file at copy bytes copied c past = ⊎_elim
      (λ was. (c, was, inr refl))
      (λ new. let (d, was, step) = new in (d, was, inl (subst (λ bs. WriteCase file at bs d c) copied step)))
      (during (Write file at copy) c past)
