-- The row of a call on an open storage that touches no disk, and what it never answers.
use Rattle.std.proofs.Common.{◌≡◌, ℕ, List, Bool, true, false, refl, sym, ap, ◌∙◌, true≢false}
use Rattle.std.specs.Prelude.{Option, Some, None, Result, Ok, Err, is_some}
use Rattle.per_base.specs.Maps.{Map}
use Rattle.per_base.specs.declared.elements.StoreKind.{StoreKind}
use Rattle.per_base.specs.declared.errors.PerError.{PerError}
use Rattle.per_base.specs.declared.errors.PerError.TheVariants as error
use Rattle.deployment_model.specs.Data.{StorageData}
use Rattle.key_maps.specs.TwoMaps.{TwoMaps}
use Rattle.command_text.specs.declared.calls.Call.{Call}
use Rattle.command_text.specs.declared.calls.Call.TheVariants as call
use Rattle.command_text.specs.declared.replies.Answer.{Answer}
use Rattle.command_text.specs.declared.replies.Answer.TheVariants as answer
use Rattle.deploy_rows.specs.Rows.{◌>>=◌}
use Rattle.run_model.specs.Calls.{answered, app_step, found_or, local_on, local_step, opened_session, session_at}
use Rattle.run_model.specs.Calls.{with_session}
use Rattle.run_model.specs.Found.{FoundStorage, storage_in}
use Rattle.run_model.specs.Sessions.{Answered, Session, Working, changes, files, in_session, keys, moves}
use Rattle.run_model.specs.Sessions.{on_keys, on_working, sees, shows, works}
use Rattle.run_model.specs.Runtimes.{is_durable}
use Rattle.run_model.specs.Worlds.{Application}

-- ---- the row

local_is : (app now : ℕ) (r : Application) (c : Call) → is_some (local_on c) ≡ true
    → app_step app r now c ≡ local_step r now (local_on c) c
unfolding app_step
local_is app now r call.Status is = absurd (true≢false (sym is))
local_is app now r (call.Install t) is = absurd (true≢false (sym is))
local_is app now r (call.Update t) is = absurd (true≢false (sym is))
local_is app now r call.Finish is = absurd (true≢false (sym is))
local_is app now r call.Rollback is = absurd (true≢false (sym is))
local_is app now r call.Wipe is = absurd (true≢false (sym is))
local_is app now r (call.UpdateBegin t) is = absurd (true≢false (sym is))
local_is app now r call.UpdateNext is = absurd (true≢false (sym is))
local_is app now r call.UpdateCommit is = absurd (true≢false (sym is))
local_is app now r call.UpdateAbort is = absurd (true≢false (sym is))
local_is app now r (call.OpenKvs n) is = absurd (true≢false (sym is))
local_is app now r (call.OpenFiles n) is = absurd (true≢false (sym is))
local_is app now r (call.Close n) is = absurd (true≢false (sym is))
local_is app now r (call.RecoverStorage n) is = absurd (true≢false (sym is))
local_is app now r (call.ResetStorage n) is = absurd (true≢false (sym is))
local_is app now r (call.Sync n) is = absurd (true≢false (sym is))
local_is app now r (call.Flush n h) is = absurd (true≢false (sym is))
local_is app now r other is = refl

pub local_not_durable : (c : Call) → is_some (local_on c) ≡ true → is_durable c ≡ false
local_not_durable (call.Close n) is = absurd (true≢false (sym is))
local_not_durable (call.Sync n) is = absurd (true≢false (sym is))
local_not_durable (call.Flush n h) is = absurd (true≢false (sym is))
local_not_durable other is = refl

is_some_at : {A : Type 0} (o : Option A) (x : A) → o ≡ Some x → is_some o ≡ true
is_some_at o x is = ap is_some is

module _ (app now : ℕ) (r : Application) (c : Call) (name : List ℕ) (kind : Option StoreKind)
    (on : local_on c ≡ Some (name, kind)) where
  local_row : app_step app r now c ≡ local_step r now (Some (name, kind)) c
  local_row = local_is app now r c (is_some_at (local_on c) (name, kind) on)
      ∙ ap (λ (o : Option (List ℕ × Option StoreKind)). local_step r now o c) on

  pub local_not_found : (e : PerError) → storage_in r.disk name kind ≡ Err e → app_step app r now c ≡ Err e
  local_not_found e is = local_row ∙ ap (λ (row : Result FoundStorage PerError). row >>= λ f. opened_session r f >>= λ s.
      in_session f.config now s c >>= λ a.
      Ok (answered a.0 (with_session r f.number a.1))) is

  module _ (f : FoundStorage) (found : storage_in r.disk name kind ≡ Ok f) where
    local_found : app_step app r now c ≡ (opened_session r f >>= λ s. in_session f.config now s c >>= λ a.
        Ok (answered a.0 (with_session r f.number a.1)))
    local_found = local_row ∙ ap (λ (row : Result FoundStorage PerError). row >>= λ g. opened_session r g >>= λ s.
        in_session g.config now s c >>= λ a.
        Ok (answered a.0 (with_session r g.number a.1))) found

    pub local_not_open : session_at r f.number ≡ None → app_step app r now c ≡ Err error.NotOpen
    local_not_open none = local_found ∙ ap (λ (o : Option Session). found_or o error.NotOpen >>= λ s.
        in_session f.config now s c >>= λ a. Ok (answered a.0 (with_session r f.number a.1))) none

    module _ (s : Session) (there : session_at r f.number ≡ Some s) where
      pub local_open : app_step app r now c ≡ (in_session f.config now s c >>= λ a.
          Ok (answered a.0 (with_session r f.number a.1)))
      local_open = local_found ∙ ap (λ (o : Option Session). found_or o error.NotOpen >>= λ s.
          in_session f.config now s c >>= λ a. Ok (answered a.0 (with_session r f.number a.1))) there

      pub local_answered : (a : Answer) (s' : Session) → in_session f.config now s c ≡ Ok (a, s')
          → app_step app r now c ≡ Ok (answered a (with_session r f.number s'))
      local_answered a s' is = local_open ∙ ap (λ (row : Answered Session). row >>= λ a.
          Ok (answered a.0 (with_session r f.number a.1))) is

      pub local_refused : (e : PerError) → in_session f.config now s c ≡ Err e → app_step app r now c ≡ Err e
      local_refused e is = local_open ∙ ap (λ (row : Answered Session). row >>= λ a.
          Ok (answered a.0 (with_session r f.number a.1))) is

-- ---- an answer is no refusal

abbrev pub is_error : Answer → Bool
is_error (answer.Error e) = true
is_error other = false

-- where an answer is given, it is none
abbrev pub Plain : {S : Type 0} → Answered S → Type 0
Plain (Ok a) = is_error a.0 ≡ false
Plain (Err e) = Unit {0}

abbrev answer_or : {S : Type 0} → Answer → Answered S → Answer
answer_or a (Ok x) = x.0
answer_or a (Err e) = a

plain_at : {S : Type 0} (row : Answered S) (a : Answer) (s : S) → Plain row → row ≡ Ok (a, s) → is_error a ≡ false
plain_at (Ok x) a s is e = ap is_error (sym (ap (answer_or a) e)) ∙ is
plain_at (Err x) a s is e = absurd cc

plain_shows : (s : TwoMaps) {A : Type 0} (form : A → Answer) (row : Result A PerError)
    → ((x : A) → is_error (form x) ≡ false) → Plain (shows s {A = A} form row)
plain_shows s form (Ok x) is = is x
plain_shows s form (Err e) is = tt

plain_changes : (s : TwoMaps) (row : Result Map PerError) → Plain (changes s row)
plain_changes s (Ok x) = refl
plain_changes s (Err e) = tt

plain_sees : (w : Working) {A : Type 0} (form : A → Answer) (row : Result A PerError)
    → ((x : A) → is_error (form x) ≡ false) → Plain (sees w {A = A} form row)
plain_sees w form (Ok x) is = is x
plain_sees w form (Err e) is = tt

plain_moves : {A : Type 0} (form : A → Answer) (row : Result (A × Working) PerError)
    → ((x : A) → is_error (form x) ≡ false) → Plain (moves {A = A} form row)
plain_moves form (Ok x) is = is x.0
plain_moves form (Err e) is = tt

plain_works : (row : Result Working PerError) → Plain (works row)
plain_works (Ok x) = refl
plain_works (Err e) = tt

plain_keys : (c : StorageData) (s : TwoMaps) (l : Call) → Plain (on_keys c s l)
unfolding on_keys
plain_keys c s (call.Size n) = refl
plain_keys c s (call.Keys n) = refl
plain_keys c s (call.Exists n k) = refl
plain_keys c s (call.Get n k) = plain_shows s answer.Val _ (λ x. refl)
plain_keys c s (call.GetAs n k t) = plain_shows s answer.Val _ (λ x. refl)
plain_keys c s (call.Set n k x) = plain_changes s _
plain_keys c s (call.Remove n k) = plain_changes s _
plain_keys c s (call.RemoveAll n) = plain_changes s _
plain_keys c s (call.RecoverKey n k) = plain_changes s _
plain_keys c s (call.ResetKey n k) = plain_changes s _
plain_keys c s (call.Discard n) = refl
plain_keys c s other = tt

plain_working : (c : StorageData) (now : ℕ) (w : Working) (l : Call) → Plain (on_working c now w l)
unfolding on_working
plain_working c now w (call.Size n) = refl
plain_working c now w (call.Files n) = refl
plain_working c now w (call.FileExists n f) = refl
plain_working c now w (call.OpenFile n f k m) = plain_moves answer.Handle _ (λ x. refl)
plain_working c now w (call.CloseFile n h) = plain_works _
plain_working c now w (call.Peek n h) = plain_sees w answer.Byte _ (λ x. refl)
plain_working c now w (call.Byte n h) = plain_moves answer.Byte _ (λ x. refl)
plain_working c now w (call.Read n h count) = plain_moves answer.Octets _ (λ x. refl)
plain_working c now w (call.ReadAll n h) = plain_moves answer.Octets _ (λ x. refl)
plain_working c now w (call.Line n h d) = plain_moves answer.Octets _ (λ x. refl)
plain_working c now w (call.Write n h bytes) = plain_works _
plain_working c now w (call.SetSize n h size) = plain_works _
plain_working c now w (call.HandleSize n h) = plain_sees w answer.Number _ (λ x. refl)
plain_working c now w (call.Position n h) = plain_sees w answer.Number _ (λ x. refl)
plain_working c now w (call.Seek n h at) = plain_works _
plain_working c now w (call.Move n h from offset) = plain_moves answer.Number _ (λ x. refl)
plain_working c now w (call.Eof n h) = plain_sees w answer.Truth _ (λ x. refl)
plain_working c now w (call.SizeOf n f) = plain_sees w answer.Number _ (λ x. refl)
plain_working c now w (call.Info n f) = plain_sees w answer.Info _ (λ x. refl)
plain_working c now w (call.Delete n f) = plain_works _
plain_working c now w (call.RecoverFile n f) = plain_works _
plain_working c now w (call.ResetFile n f) = plain_works _
plain_working c now w (call.Cat n f) = plain_moves answer.Octets _ (λ x. refl)
plain_working c now w (call.Put n f bytes) = plain_works _
plain_working c now w other = tt

plain_mapped : {S T : Type 0} (row : Answered S) (form : S → T) → Plain row
    → Plain (row >>= λ (a : Answer × S). Ok (a.0, form a.1))
plain_mapped (Ok x) form is = is
plain_mapped (Err e) form is = tt

plain_in : (c : StorageData) (now : ℕ) (s : Session) (l : Call) → Plain (in_session c now s l)
plain_in c now (keys s) l = plain_mapped (on_keys c s l) keys (plain_keys c s l)
plain_in c now (files s) l = plain_mapped (on_working c now s.working l)
    (λ (w : Working). files (record s { working = w })) (plain_working c now s.working l)

-- what an open storage answers is no refusal
pub answers_plainly : (c : StorageData) (now : ℕ) (s : Session) (l : Call) (a : Answer) (s' : Session)
    → in_session c now s l ≡ Ok (a, s') → is_error a ≡ false
answers_plainly c now s l a s' is = plain_at (in_session c now s l) a s' (plain_in c now s l) is
