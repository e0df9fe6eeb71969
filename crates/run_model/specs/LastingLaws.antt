-- A command keeps what holds of every world: each command that is answered, and one whose device failed.
use Rattle.std.specs.Prelude.{◌≡◌, ℕ, zero, suc, List, [], ◌∷◌, Bool, true, false, cond, not, ◌&&◌, Option, Some, None}
use Rattle.std.specs.Prelude.{option_map, Result, Ok, Err, IfOk, slice_get, slice_set, replicate, ⊤}
use Rattle.std.proofs.Common.{refl, sym, ap, ◌∙◌, subst, inl, inr, true≢false}
use Rattle.per_base.specs.declared.elements.StoreKind.{StoreKind}
use Rattle.per_base.specs.declared.elements.StoreKind.TheVariants as kinds
use Rattle.per_base.specs.declared.errors.Holder.TheVariants as holder
use Rattle.per_base.specs.declared.errors.Limit.TheVariants as limit
use Rattle.per_base.specs.declared.errors.PerError.{PerError}
use Rattle.per_base.specs.declared.errors.PerError.TheVariants as error
use Rattle.deployment_model.specs.Data.{StorageData}
use Rattle.element_state.specs.declared.shapes.View.{View}
use Rattle.element_state.specs.States.{State, Opens, Corrupt, is_worn}
use Rattle.element_maps.specs.Sessions.{same_map, view_once_synced}
use Rattle.command_text.specs.declared.calls.Call.{Call}
use Rattle.command_text.specs.declared.calls.Call.TheVariants as call
use Rattle.command_text.specs.declared.calls.Event.TheVariants as event
use Rattle.command_text.specs.declared.replies.Answer.TheVariants as answer
use Rattle.command_text.specs.declared.replies.Reply.{Reply}
use Rattle.deploy_laws.specs.Apps.{Says, nothing, absent, installed, App, app_at}
use Rattle.deploy_rows.specs.Rows.{◌>>=◌, installing, finishing, rolling_back, wiping}
use Rattle.deploy_rows.specs.Recovering.{recovering, resetting}
use Rattle.run_model.specs.Converters.{Converters}
use Rattle.run_model.specs.Found.{FoundStorage, storage_in, shape_in, with_storage_state}
use Rattle.run_model.specs.Sessions.{Session, keys, files, seen_in, synced_in_session, seen_of, made_durable}
use Rattle.run_model.specs.Worlds.{Application, Stage, to_open, at_rest, updating, is_to_open, update_in, Sessions}
use Rattle.run_model.specs.Worlds.{World, app_of, application_at}
use Rattle.run_model.specs.Lasting.{IsSessionOn, AreSessionsOn, IsStageOn, IsApplication, IsWorld}
use Rattle.run_model.specs.Later.{set_length}
use Rattle.run_model.specs.LastingCalls.{Lasts, IsFoundIn, app_so, with_so, root_so, not_to_open, on_ok, any_ok}
use Rattle.run_model.specs.LastingCalls.{unless_so, lasts_on, some_none, none_some, both_set, stage_set, open_is}
use Rattle.run_model.specs.LastingCalls.{stored_so, local_any, open_row, rebuild_row, close_row, marked_so}
use Rattle.run_model.specs.LastingDeployments.{status_row, install_row, finish_row, rollback_row, wipe_row, next_row}
use Rattle.run_model.specs.LastingDeployments.{commit_row, abort_row, update_row, begin_row}
use Rattle.run_model.specs.Calls.{Outcome, answered, if_open, session_at, with_session, without_session, opened_session}
use Rattle.run_model.specs.Calls.{durable_state, durable, sync_step, may_flush, flush_step, close_step, open_step}
use Rattle.run_model.specs.Calls.{rebuild_step, local_on, local_step, status_step, least_open, done_with, next_step}
use Rattle.run_model.specs.Calls.{commit_step, abort_step, with_update, with_update_begun, active_storages, goes_beside}
use Rattle.run_model.specs.Calls.{beside_update}
use Rattle.run_model.specs.Calls.{app_step, CallStep, StepBeside}
use Rattle.run_model.specs.Steps.{root_opened, Step, FailsElsewhere, FailsAs, device_storage, after_failure}

-- ---- a session that is made durable

-- what is open shows, once it is on the disk, what it shows now
abbrev pub AreSeenAgain : ℕ → Application → Type 0
AreSeenAgain app r = (f : FoundStorage) (s : Session) (v : View) (others : List View)
    → slice_get (active_storages r.disk.says) f.number ≡ Some f.config → f.state ≡ Opens v others
    → session_at r f.number ≡ Some s
    → seen_in f.config.kind (view_once_synced (shape_in app f) v (synced_in_session s)
    (seen_of s))
    ≡ seen_of s

on_there : (ss : Sessions) (cs : List StorageData) (states : List State) (n : ℕ) (config : StorageData)
    (state : State)
    → AreSessionsOn ss cs states → slice_get cs n ≡ Some config
    → slice_get states n ≡ Some state → IsSessionOn (if_open (slice_get ss n)) config.kind state
on_there [] cs states zero config state are config_is state_is = tt
on_there [] cs states (suc n) config state are config_is state_is = tt
on_there (s ∷ ss) [] states zero config state are config_is state_is = absurd (none_some config config_is)
on_there (s ∷ ss) [] states (suc n) config state are config_is state_is = absurd (none_some config config_is)
on_there (s ∷ ss) (c ∷ cs) [] zero config state are config_is state_is = absurd (none_some state state_is)
on_there (s ∷ ss) (c ∷ cs) [] (suc n) config state are config_is state_is = absurd (none_some state state_is)
on_there (s ∷ ss) (c ∷ cs) (x ∷ states) zero config state are config_is state_is =
    subst (λ y. IsSessionOn s config.kind y) (ap (state_or x) state_is)
    (subst (λ d. IsSessionOn s (kind_of d) x) config_is are.0)
  where
    kind_of : Option StorageData → StoreKind
    kind_of None = config.kind
    kind_of (Some d) = d.kind

    state_or : State → Option State → State
    state_or x None = x
    state_or x (Some y) = y
on_there (s ∷ ss) (c ∷ cs) (x ∷ states) (suc n) config state are config_is state_is =
    on_there ss cs states n config state are.1 config_is state_is

-- what a sync makes of the state and of the session of one storage
durable_on : (app : ℕ) (f : FoundStorage) (s : Session) (kind : StoreKind) (state : State)
    → IsSessionOn (Some s) kind state → ((v : View) (others : List View) → state ≡ Opens v others
    → seen_in kind (view_once_synced (shape_in app f) v (synced_in_session s) (seen_of s)) ≡ seen_of s)
    → IfOk (durable_state app f state s) (λ new. IsSessionOn (Some (made_durable s)) kind new)
durable_on app f (keys s) kinds.Keys (Opens v []) on again =
    unless_so (λ new. IsSessionOn (Some (made_durable (keys s))) kinds.Keys new)
    (not (same_map s.synced s.visible) && is_worn v) (error.LimitReached limit.Generations)
    (Ok (Opens (view_once_synced (shape_in app f) v s.synced s.visible) [])) (λ left. sym (again v [] refl))
durable_on app f (keys s) kinds.Keys (Opens v (x ∷ xs)) on again = absurd on
durable_on app f (keys s) kinds.Keys (Corrupt salvage others) on again = absurd on
durable_on app f (keys s) kinds.Files state on again = absurd on
durable_on app f (files s) kinds.Files (Opens v []) on again =
    unless_so (λ new. IsSessionOn (Some (made_durable (files s))) kinds.Files new)
    (not (same_map s.synced s.working.files) && is_worn v) (error.LimitReached limit.Generations)
    (Ok (Opens (view_once_synced (shape_in app f) v s.synced s.working.files) [])) (λ left. sym (again v [] refl))
durable_on app f (files s) kinds.Files (Opens v (x ∷ xs)) on again = absurd on
durable_on app f (files s) kinds.Files (Corrupt salvage others) on again = absurd on
durable_on app f (files s) kinds.Keys state on again = absurd on

durable_so : (app : ℕ) (r : Application) (kind : Option StoreKind) (f : FoundStorage) (s : Session) → IsApplication r
    → AreSeenAgain app r → IsFoundIn r kind f → session_at r f.number ≡ Some s
    → IfOk (durable app r f s >>= λ after. Ok (answered answer.Done after)) Lasts
unfolding durable
durable_so app r kind f s is again found open_there = by (durable_state app f f.state s)
    (durable_on app f s f.config.kind f.state
    (subst (λ x. IsSessionOn x f.config.kind f.state) open_there
    (on_there r.sessions (active_storages r.disk.says) r.disk.states f.number f.config f.state is.sessions
    found.config found.state))
    (λ v others opens. again f s v others found.config opens open_there))
  where
    by : (row : Result State PerError) → IfOk row (λ new. IsSessionOn (Some (made_durable s)) f.config.kind new)
        → IfOk ((row >>= λ state. Ok (with_session (record r { disk = with_storage_state r.disk f state }) f.number
        (made_durable s))) >>= λ after. Ok (answered answer.Done after)) Lasts
    by (Err e) on = tt
    by (Ok state) on = record {
      room = set_length r.sessions f.number (Some (made_durable s)) ∙ is.room;
      sessions = both_set r.sessions (active_storages r.disk.says) r.disk.states f.number f.config f.state state
          (Some (made_durable s)) is.sessions found.config found.state on;
      stage = stage_set r.stage r.disk.says r.sessions f.number s (Some (made_durable s)) is.stage open_there;
    }

sync_row : (app : ℕ) (r : Application) (name : List ℕ) → IsApplication r → AreSeenAgain app r
    → IfOk (sync_step app r name) Lasts
sync_row app r name is again = on_ok (IsFoundIn r (Some kinds.Keys)) Lasts (storage_in r.disk name (Some kinds.Keys))
    (λ f. opened_session r f >>= λ s. durable app r f s >>= λ after. Ok (answered answer.Done after))
    (stored_so r name (Some kinds.Keys))
    (λ f found. on_ok (λ s. session_at r f.number ≡ Some s) Lasts (opened_session r f)
    (λ s. durable app r f s >>= λ after. Ok (answered answer.Done after))
    (open_is (session_at r f.number) error.NotOpen) (λ s open_there.
    durable_so app r (Some kinds.Keys) f s is again found open_there))

flush_row : (app : ℕ) (r : Application) (name : List ℕ) (h : ℕ) → IsApplication r → AreSeenAgain app r
    → IfOk (flush_step app r name h) Lasts
flush_row app r name h is again = on_ok (IsFoundIn r (Some kinds.Files)) Lasts
    (storage_in r.disk name (Some kinds.Files))
    (λ f. opened_session r f >>= λ s. may_flush s h >>= λ may. durable app r f s >>= λ after.
    Ok (answered answer.Done after)) (stored_so r name (Some kinds.Files))
    (λ f found. on_ok (λ s. session_at r f.number ≡ Some s) Lasts (opened_session r f)
    (λ s. may_flush s h >>= λ may. durable app r f s >>= λ after. Ok (answered answer.Done after))
    (open_is (session_at r f.number) error.NotOpen)
    (λ s open_there. on_ok (λ may. ⊤) Lasts (may_flush s h)
    (λ may. durable app r f s >>= λ after. Ok (answered answer.Done after)) (any_ok (may_flush s h))
    (λ may any. durable_so app r (Some kinds.Files) f s is again found open_there)))

-- ---- every call

-- the calls that leave a session open and make it durable
abbrev pub synchronises : Call → Bool
synchronises (call.Sync n) = true
synchronises (call.Flush n h) = true
synchronises other = false

call_so : (converters : Converters) (app now : ℕ) (r : Application) (c : Call) (outcome : Outcome)
    → (synchronises c ≡ true → AreSeenAgain app r) → IsApplication r
    → (goes_beside c ≡ false → r.stage ≡ at_rest) → CallStep converters (application_at app now r) c outcome
    → Lasts outcome
unfolding app_step
call_so converters app now r call.Status outcome again is rests step =
    subst Lasts (sym step) (lasts_on r (status_step r r.disk.says) is (status_row r r.disk.says is))
call_so converters app now r (call.Install text) outcome again is rests step =
    subst Lasts (sym step) (lasts_on r (done_with r (installing now text r.disk)) is (install_row r now text is))
call_so converters app now r (call.Update text) outcome again is rests step =
    subst Lasts (sym step.2) (lasts_on r (step.0 >>= with_update r) is
    (update_row converters now r text outcome (rests refl) is step))
call_so converters app now r call.Finish outcome again is rests step =
    subst Lasts (sym step) (lasts_on r (done_with r (finishing r.disk)) is (finish_row r (rests refl) is))
call_so converters app now r call.Rollback outcome again is rests step =
    subst Lasts (sym step) (lasts_on r (done_with r (rolling_back (least_open r) r.disk)) is
    (rollback_row r (rests refl) is))
call_so converters app now r call.Wipe outcome again is rests step =
    subst Lasts (sym step) (lasts_on r (done_with r (wiping (least_open r) r.disk)) is (wipe_row r (rests refl) is))
call_so converters app now r (call.UpdateBegin text) outcome again is rests step =
    subst Lasts (sym step.2) (lasts_on r (step.0 >>= with_update_begun r) is
    (begin_row converters now r text outcome is step))
call_so converters app now r call.UpdateNext outcome again is rests step =
    subst Lasts (sym step) (lasts_on r (next_step r) is (next_row r is))
call_so converters app now r call.UpdateCommit outcome again is rests step =
    subst Lasts (sym step) (lasts_on r (commit_step r) is (commit_row r is))
call_so converters app now r call.UpdateAbort outcome again is rests step =
    subst Lasts (sym step) (lasts_on r (abort_step r) is (abort_row r is))
call_so converters app now r (call.OpenKvs n) outcome again is rests step =
    subst Lasts (sym step)
    (lasts_on r (open_step app r n kinds.Keys) is (open_row app r n kinds.Keys is (rests refl)))
call_so converters app now r (call.OpenFiles n) outcome again is rests step =
    subst Lasts (sym step) (lasts_on r (open_step app r n kinds.Files) is
    (open_row app r n kinds.Files is (rests refl)))
call_so converters app now r (call.Sync n) outcome again is rests step =
    subst Lasts (sym step) (lasts_on r (sync_step app r n) is (sync_row app r n is (again refl)))
call_so converters app now r (call.Flush n h) outcome again is rests step =
    subst Lasts (sym step) (lasts_on r (flush_step app r n h) is (flush_row app r n h is (again refl)))
call_so converters app now r (call.Close n) outcome again is rests step =
    subst Lasts (sym step) (lasts_on r (close_step app r n) is (close_row app r n is))
call_so converters app now r (call.RecoverStorage n) outcome again is rests step =
    subst Lasts (sym step) (lasts_on r (rebuild_step r n (λ f. recovering f.config now f.state)) is
    (rebuild_row r n (λ f. recovering f.config now f.state) is))
call_so converters app now r (call.ResetStorage n) outcome again is rests step =
    subst Lasts (sym step) (lasts_on r (rebuild_step r n (λ f. resetting f.config now f.state)) is
    (rebuild_row r n (λ f. resetting f.config now f.state) is))
call_so converters app now r other outcome again is rests step =
    subst Lasts (sym step) (lasts_on r (local_step r now (local_on other) other) is
    (local_any r now (local_on other) other is))

-- a call that goes on, and not beside an update, is one at rest
at_rest_alone : (stage : Stage) (c : Call) → is_to_open stage ≡ false → goes_beside c ≡ false
    → beside_update (update_in stage) c ≡ None → stage ≡ at_rest
at_rest_alone to_open c calm alone goes_on = absurd (true≢false calm)
at_rest_alone at_rest c calm alone goes_on = refl
at_rest_alone (updating p) c calm alone goes_on =
    absurd (some_none (error.ResourceBusy (holder.Update p.deployment.version))
    (sym (ap (λ b. cond b None (Some (error.ResourceBusy (holder.Update p.deployment.version)))) alone)
    ∙ goes_on))

pub answer_lasts : (converters : Converters) (w w' : World) (app : ℕ) (c : Call) (reply : Reply)
    → (synchronises c ≡ true → AreSeenAgain app (root_opened (app_of w app)))
    → IsWorld w → Step converters w (event.App app c) reply w' → IsWorld w'
answer_lasts converters w w' app c reply again world step =
    with_so w w' app step.0.1 _ world
    (by (beside_update (update_in (root_opened (app_of w app)).stage) c) refl step.1)
    step.3
  where
    by : (e : Option PerError) → beside_update (update_in (root_opened (app_of w app)).stage) c ≡ e
        → StepBeside converters (application_at app w.now (root_opened (app_of w app))) c e step.0 → Lasts step.0
    by (Some e) goes_on refused = subst Lasts (sym refused) (root_so (app_of w app) (app_so w app world))
    by None goes_on done = call_so converters app w.now (root_opened (app_of w app)) c step.0 again
        (root_so (app_of w app) (app_so w app world))
        (λ alone. at_rest_alone (root_opened (app_of w app)).stage c
        (not_to_open (app_of w app).disk (app_of w app).stage (app_of w app).sessions) alone goes_on) done

-- ---- a device that fails

set_none : (count n : ℕ) → slice_set (replicate {A = Option Session} count None) n None ≡ replicate count None
set_none zero n = refl
set_none (suc count) zero = refl
set_none (suc count) (suc n) = ap (λ (xs : Sessions). None ∷ xs) (set_none count n)

-- a session that ends stands in no way of a stage
stage_ends : (stage : Stage) (says : Says) (ss : Sessions) (n : ℕ) → IsStageOn stage says ss
    → IsStageOn stage says (slice_set ss n None)
stage_ends at_rest says ss n on = tt
stage_ends to_open says ss n on = ap (λ (xs : Sessions). slice_set xs n None) on ∙ set_none 16 n
stage_ends (updating p) nothing ss n on = absurd on
stage_ends (updating p) (absent g) ss n on = absurd on
stage_ends (updating p) (installed g active None) ss n on =
    (ap (λ (xs : Sessions). slice_set xs n None) on.0 ∙ set_none 16 n, on.1, on.2)
stage_ends (updating p) (installed g active (Some previous)) ss n on = absurd on

-- what was read is what was there, but for the state of one storage
abbrev pub IsReadBeside : Application → FoundStorage → App → Type 0
IsReadBeside r f a = (state : State) × (a ≡ with_storage_state r.disk f state)

ends_so : (r : Application) (f : FoundStorage) (a : App) → IsApplication r → IsFoundIn r None f → IsReadBeside r f a
    → IsApplication (after_failure a r (Some (Ok f)))
ends_so r f a is found read = subst (λ (b : App). IsApplication (record (without_session r f.number) { disk = b }))
    (sym read.1) (record {
      room = set_length r.sessions f.number None ∙ is.room;
      sessions = both_set r.sessions (active_storages r.disk.says) r.disk.states f.number f.config f.state read.0 None
          is.sessions found.config found.state tt;
      stage = stage_ends r.stage r.disk.says r.sessions f.number is.stage;
    })

-- a command on a storage: the root's failure ends all, and its own the session, where the other storages are as they
-- were
pub named_failure_lasts : (converters : Converters) (w w' : World) (app : ℕ) (c : Call) (reply : Reply)
    (name : List ℕ) (f : FoundStorage) → device_storage c ≡ Some name
    → storage_in (root_opened (app_of w app)).disk name None ≡ Ok f
    → (fails : FailsElsewhere converters w (event.App app c) reply w')
    → IsReadBeside (root_opened (app_of w app)) f (app_at fails.2.left app) → IsWorld w → IsWorld w'
named_failure_lasts converters w w' app c reply name f named found fails read world =
    with_so w w' app fails.0 _ world (by fails.3) fails.6
  where
    is_found : IsFoundIn (root_opened (app_of w app)) None f
    is_found = subst (λ (row : Result FoundStorage PerError). IfOk row (IsFoundIn (root_opened (app_of w app)) None))
        found (stored_so (root_opened (app_of w app)) name None)

    by : FailsAs app w.now (app_at fails.2.left app) (app_of w app) c fails.0 → IsApplication fails.0
    by (inl root) = subst (λ (r : Application). IsApplication r) (sym root.1)
        (marked_so (app_at fails.2.left app) (app_of w app))
    by (inr itself) = subst (λ (r : Application). IsApplication r)
        (sym (itself.1 ∙ (ap (λ (n : Option (List ℕ)). after_failure (app_at fails.2.left app)
        (root_opened (app_of w app)) (option_map (λ m. storage_in (root_opened (app_of w app)).disk m None)
        n)) named
        ∙ ap (λ (row : Result FoundStorage PerError). after_failure (app_at fails.2.left app)
        (root_opened (app_of w app)) (Some row)) found)))
        (ends_so (root_opened (app_of w app)) f (app_at fails.2.left app)
        (root_so (app_of w app) (app_so w app world))
        is_found read)
