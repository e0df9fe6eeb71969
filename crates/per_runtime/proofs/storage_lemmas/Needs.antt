-- When a call on a storage needs memory.
use Rattle.std.proofs.Common.{◌≡◌, ℕ, List, sym, subst, inr}
use Rattle.std.specs.Prelude.{Option, Some, Result, Ok, Err, OnErr}
use Rattle.per_base.specs.declared.elements.StoreKind.{StoreKind}
use Rattle.per_base.specs.declared.errors.PerError.{PerError}
use Rattle.per_base.specs.Refusals.{NeedsMemory}
use Rattle.command_text.specs.declared.calls.Call.{Call}
use Rattle.command_text.specs.declared.replies.Answer.{Answer}
use Rattle.deploy_rows.specs.Rows.{◌>>=◌}
use Rattle.run_model.specs.Calls.{Outcome, answered, app_step, local_on, session_at, with_session}
use Rattle.run_model.specs.Found.{FoundStorage, storage_in}
use Rattle.run_model.specs.Sessions.{Session, in_session}
use Rattle.run_model.specs.Worlds.{Application}
use Rattle.per_runtime.specs.storages.Needs.{CallNeedsMemory}
use Rattle.per_runtime.proofs.storage_lemmas.LocalRows.{local_open}

-- what holds of an error holds of a result that is one
pub on_err : {A E : Type 0} (result : Result A E) (P : Type 0) → P → OnErr result P
on_err (Ok x) P is = tt
on_err (Err e) P is = is

-- ---- by its row

pub as_row : {A : Type 0} (row is : Result A PerError) → row ≡ is → NeedsMemory is → NeedsMemory row
as_row {A} row is same needs = subst (λ (r : Result A PerError). NeedsMemory r) (sym same) needs

pub row_needs : (app now : ℕ) (r : Application) (c : Call) (row : Result Outcome PerError) → app_step app r now c ≡ row
    → NeedsMemory row → CallNeedsMemory app now c r
row_needs app now r c row same needs = inr (as_row (app_step app r now c) row same needs)

needs_then : {A B : Type 0} (row : Result A PerError) (next : A → Result B PerError)
    → ((x : A) → NeedsMemory (next x)) → NeedsMemory row → NeedsMemory (row >>= next)
needs_then (Ok x) next answers needs = answers x
needs_then (Err e) next answers needs = needs

-- ---- by the session of an open storage

module _ (app now : ℕ) (r : Application) (c : Call) (name : List ℕ) (kind : Option StoreKind)
    (on : local_on c ≡ Some (name, kind)) (f : FoundStorage) (found : storage_in r.disk name kind ≡ Ok f) (s : Session)
    (there : session_at r f.number ≡ Some s) where
  abbrev answers : Answer × Session → Result Outcome PerError
  answers a = Ok (answered a.0 (with_session r f.number a.1))

  pub session_needs : NeedsMemory (in_session f.config now s c) → CallNeedsMemory app now c r
  session_needs needs = row_needs app now r c (in_session f.config now s c >>= answers)
      (local_open app now r c name kind on f found s there)
      (needs_then (in_session f.config now s c) answers (λ a. tt) needs)
