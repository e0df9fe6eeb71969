-- One call more in the record of a folder in memory.
use Rattle.std.proofs.Common.{◌≡◌, ◌⊎◌, ◌↔◌, ℕ, ◌+◌, ◌≤◌, List, [], ◌∷◌, ◌++◌, length, take, refl, sym, ap, ◌∙◌, subst, inl}
use Rattle.std.proofs.Common.{inr, ⊎_elim, le_refl, le_trans, arith, take_all}
use Rattle.std.proofs.lemmas.List.{take-append-le, length-append}
use Rattle.std.proofs.lemmas.Bool.{cases_lt}
use Rattle.disk_model.specs.Image.{Image}
use Rattle.disk_model.specs.Case.{Case}
use Rattle.disk_model.specs.Medium.{Grows, Elapses, OnlyReads}
use Rattle.system_model.specs.SystemMedium.{Looks}
use Rattle.mem_system.specs.declared.record.Call.{Call}
use Rattle.mem_system.specs.History.{FolderState, IsLeft, all_durable, after_call, after_calls, state_after}
use Rattle.mem_system.specs.History.{CaseSince, GaveSince, folder_after}

pub last : (P : FolderState → Type 0) (calls : List Call) (call : Call) (s : FolderState)
    → P (after_call call (after_calls calls s)) → P (after_calls (calls ++ call ∷ []) s)
last P [] call s is = is
last P (x ∷ calls) call s is = last P calls call (after_call x s) is

pub at_last : (P : FolderState → Type 0) (calls : List Call) (call : Call) (s : FolderState)
    → P (after_calls (calls ++ call ∷ []) s) → P (after_call call (after_calls calls s))
at_last P [] call s is = is
at_last P (x ∷ calls) call s is = at_last P calls call (after_call x s) is

module _ (start : Image) (calls : List Call) (call : Call) where
  abbrev more : List Call
  more = calls ++ call ∷ []

  longer : length more ≡ length calls + 1
  longer = length-append calls (call ∷ [])

  same_then : (k : ℕ) → k ≤ length calls → take k more ≡ take k calls
  same_then k le = take-append-le k calls (call ∷ []) le

  -- a case of an earlier moment stays one
  stays : (k : ℕ) (c : Case) → k ≤ length calls → IsLeft (state_after start (take k calls)) c
      → IsLeft (state_after start (take k more)) c
  stays k c le case = subst (λ xs. IsLeft (state_after start xs) c) (sym (same_then k le)) case

  stood : (k : ℕ) (c : Case) → k ≤ length calls → IsLeft (state_after start (take k more)) c
      → IsLeft (state_after start (take k calls)) c
  stood k c le case = subst (λ xs. IsLeft (state_after start xs) c) (same_then k le) case

  -- so does what reads gave
  same_image : (k : ℕ) → k ≤ length calls
      → (state_after start (take k more)).image ≡ (state_after start (take k calls)).image
  same_image k le = ap (λ xs. (state_after start xs).image) (same_then k le)

  gave_more : Grows (length calls) (GaveSince start calls) (GaveSince start more)
  gave_more = record {
    nothing_else = λ t c earlier past. ⊎_elim
        (λ before. let to : past.k ≤ length calls = omega arith in
        inl (record {
          k = past.k;
          from = past.from;
          to = to;
          case = stood past.k c to past.case;
          image = past.image ∙ same_image past.k to;
        }))
        (λ after. inr (record { k = past.k; from = omega arith; to = past.to; case = past.case; image = past.image }))
        (cases_lt past.k (length calls + 1));
    keeps = λ t c earlier past. record {
      k = past.k;
      from = past.from;
      to = omega (arith, longer, past.to);
      case = stays past.k c past.to past.case;
      image = past.image ∙ sym (same_image past.k past.to);
    };
    adds = λ t c earlier past. record {
      k = past.k;
      from = le_trans earlier past.from;
      to = past.to;
      case = past.case;
      image = past.image;
    };
  }

  -- a call was added
  pub time_goes_on : Elapses (folder_after start calls).disk (folder_after start more).disk
  time_goes_on = record {
    later = omega (arith, longer);
    nothing_else = λ t c earlier past. ⊎_elim
        (λ before. let to : past.k ≤ length calls = omega arith in
        inl (record { k = past.k; from = past.from; to = to; case = stood past.k c to past.case }))
        (λ after. inr (record { k = past.k; from = omega arith; to = past.to; case = past.case }))
        (cases_lt past.k (length calls + 1));
    keeps = λ t c earlier past. record {
      k = past.k;
      from = past.from;
      to = omega (arith, longer, past.to);
      case = stays past.k c past.to past.case;
    };
    adds = λ t c earlier past. record { k = past.k; from = le_trans earlier past.from; to = past.to; case = past.case };
    gave = gave_more;
    opens = λ t earlier was. was;
    agrees = λ t earlier was. was;
    apart = λ t earlier was. was;
    faults = le_refl _;
    written = le_refl _;
  }

  abbrev old : FolderState
  old = state_after start calls

  abbrev new : FolderState
  new = after_call call old

  -- what is so of the state after the call is so of the folder
  pub after : (P : FolderState → Type 0) → P new → P (state_after start more)
  after P is = last P calls call (all_durable start) is

  pub at_end : (P : FolderState → Type 0) → P (state_after start more) → P new
  at_end P is = at_last P calls call (all_durable start) is

  -- a case since the call began is one of before, or one of the call
  pub during : (c : Case) → CaseSince start more (length calls) c → IsLeft old c ⊎ IsLeft new c
  during c past = ⊎_elim
      (λ before. let to : past.k ≤ length calls = omega arith in
      inl (subst (λ xs. IsLeft (state_after start xs) c) (take_all past.k calls past.from)
      (stood past.k c to past.case)))
      (λ after. inr (at_end (λ t. IsLeft t c)
      (subst (λ xs. IsLeft (state_after start xs) c) (take_all past.k more (omega (arith, longer))) past.case)))
      (cases_lt past.k (length calls + 1))

  -- a call that changes no byte, and makes no case
  pub only_reads : ((c : Case) → IsLeft new c → IsLeft old c) → new.image ≡ old.image
      → OnlyReads (folder_after start calls).disk (folder_after start more).disk
  only_reads fewer same = record {
    image = after (λ t. t.image ≡ old.image) same;
    now = λ c now. fewer c (at_end (λ t. IsLeft t c) now);
    during = λ c past. ⊎_elim (λ was. was) (fewer c) (during c past);
    written = refl;
  }

  pub looks : ((c : Case) → IsLeft new c → IsLeft old c) → new.image ≡ old.image
      → ((f : ℕ) → old.named f → new.named f) → ((f i : ℕ) → new.free f i ↔ old.free f i)
      → ((f i : ℕ) → new.lost f i → old.lost f i)
      → Looks (folder_after start calls) (folder_after start more)
  looks fewer same named free lost = record {
    reads = only_reads fewer same;
    time = time_goes_on;
    named = after (λ t. (f : ℕ) → old.named f → t.named f) named;
    free = after (λ t. (f i : ℕ) → t.free f i ↔ old.free f i) free;
    lost = after (λ t. (f i : ℕ) → t.lost f i → old.lost f i) lost;
  }
