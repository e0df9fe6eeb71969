-- A command keeps what holds of every world: what each kind of call makes of its application.
use Rattle.std.specs.Prelude.{◌≡◌, ℕ, zero, suc, List, [], ◌∷◌, Bool, true, false, cond, Option, Some, None, option_map}
use Rattle.std.specs.Prelude.{is_some, Result, Ok, Err, IfOk, slice_get, slice_set, map, ⊤}
use Rattle.std.specs.List.{AllByRecursion}
use Rattle.std.proofs.Common.{refl, sym, ap, ◌∙◌, subst, inl, inr, true≢false}
use Rattle.per_base.specs.declared.elements.Content.{Content}
use Rattle.per_base.specs.declared.elements.Content.TheVariants.{Good, Bad}
use Rattle.per_base.specs.declared.elements.Entry.{Entry}
use Rattle.per_base.specs.declared.elements.StoreKind.{StoreKind}
use Rattle.per_base.specs.declared.elements.StoreKind.TheVariants as kinds
use Rattle.per_base.specs.declared.errors.Holder.TheVariants as holder
use Rattle.per_base.specs.declared.errors.PerError.{PerError}
use Rattle.per_base.specs.declared.errors.PerError.TheVariants as error
use Rattle.per_base.specs.Maps.{Map}
use Rattle.per_base.specs.Refusals.{refuse}
use Rattle.value_model.specs.Trees.{Tree}
use Rattle.value_code.specs.Reading.{is_encoding}
use Rattle.deployment_model.specs.Data.{StorageData}
use Rattle.deployment_model.specs.Lookups.{storage_number}
use Rattle.element_state.specs.declared.shapes.Shape.{Shape}
use Rattle.element_state.specs.declared.shapes.View.{View}
use Rattle.element_state.specs.States.{State, Opens, Corrupt, mended_view, mended_entry, mended_by}
use Rattle.element_state.specs.Views.{element_of, judged_entry}
use Rattle.key_maps.specs.TwoMaps.{TwoMaps}
use Rattle.kvs_core.specs.Calls as kvs
use Rattle.command_text.specs.declared.calls.Call.{Call}
use Rattle.command_text.specs.declared.calls.Call.TheVariants as call
use Rattle.command_text.specs.declared.calls.Event.TheVariants as event
use Rattle.command_text.specs.declared.replies.Answer.{Answer}
use Rattle.command_text.specs.declared.replies.Answer.TheVariants as answer
use Rattle.command_text.specs.declared.replies.Reply.{Reply}
use Rattle.deploy_laws.specs.Apps.{Says, nothing, absent, installed, App, app_at}
use Rattle.deploy_rows.specs.Rows.{◌>>=◌}
use Rattle.run_model.specs.Converters.{Converters}
use Rattle.run_model.specs.Found.{FoundStorage, of_kind, found_with, found_at, found_in, storage_in, shape_in}
use Rattle.run_model.specs.Found.{with_storage_state}
use Rattle.run_model.specs.Sessions.{Session, keys, files, shows, changes, seen_in, session_of, on_keys}
use Rattle.run_model.specs.Sessions.{on_working, in_session, made_durable}
use Rattle.run_model.specs.Worlds.{Application, Stage, to_open, at_rest, updating, is_to_open, Sessions, Doubt, World}
use Rattle.run_model.specs.Worlds.{no_app, or_idle, app_of, with_app}
use Rattle.run_model.specs.Lasting.{IsSessionOn, AreSessionsOn, IsStageOn, IsApplication, IsWorld, none_on, rests_so}
use Rattle.run_model.specs.Later.{set_length}
use Rattle.run_model.specs.OneApp.{none_there}
use Rattle.run_model.specs.Calls.{Outcome, answered, concluded, found_or, if_open, session_at, with_session}
use Rattle.run_model.specs.Calls.{without_session, unless_open, opened_session, storage_opened, open_step}
use Rattle.run_model.specs.Calls.{durable_state}
use Rattle.run_model.specs.Calls.{durable, lowest_handle, unless_busy, closing, close_step, rebuild_step, local_step}
use Rattle.run_model.specs.Calls.{active_storages}
use Rattle.run_model.specs.Steps.{root_opened, SyncFails, FailsElsewhere, FailsAs, StepsTo, device_storage}
use Rattle.run_model.specs.Steps.{after_failure}

-- ---- applications in a row

each_set : {A : Type 0} (P : A → Type 0) (xs : List A) (n : ℕ) (x : A) → AllByRecursion P xs → P x
    → AllByRecursion P (slice_set xs n x)
each_set P [] n x all is = tt
each_set P (y ∷ ys) zero x all is = (is, all.1)
each_set P (y ∷ ys) (suc n) x all is = (all.0, each_set P ys n x all.1 is)

there : (apps : List Application) (n : ℕ) → AllByRecursion IsApplication apps
    → IsApplication (or_idle (slice_get apps n))
there [] zero all = rests_so no_app
there [] (suc n) all = rests_so no_app
there (a ∷ rest) zero all = all.0
there (a ∷ rest) (suc n) all = there rest n all.1

pub app_so : (w : World) (app : ℕ) → IsWorld w → IsApplication (app_of w app)
app_so w app world = there w.apps app world.each

-- a world in which one application is another
pub with_so : (w w' : World) (app : ℕ) (a : Application) (doubt : Option Doubt) → IsWorld w → IsApplication a
    → w' ≡ record (with_app w app a) { doubt = doubt } → IsWorld w'
with_so w w' app a doubt world is e = subst (λ (u : World). IsWorld u) (sym e)
    (record { eight = set_length w.apps app a ∙ world.eight; each = each_set IsApplication w.apps app a world.each is })

opened_by : (disk : App) (stage : Stage) (slots : Sessions)
    → IsApplication (record { disk = disk; stage = stage; sessions = slots })
    → IsApplication (root_opened (record { disk = disk; stage = stage; sessions = slots }))
opened_by disk to_open slots is = record { room = is.room; sessions = is.sessions; stage = tt }
opened_by disk at_rest slots is = is
opened_by disk (updating p) slots is = is

pub root_so : (r : Application) → IsApplication r → IsApplication (root_opened r)
root_so r is = opened_by r.disk r.stage r.sessions is

pub not_to_open : (disk : App) (stage : Stage) (slots : Sessions)
    → is_to_open (root_opened (record { disk = disk; stage = stage; sessions = slots })).stage ≡ false
not_to_open disk to_open slots = refl
not_to_open disk at_rest slots = refl
not_to_open disk (updating p) slots = refl

-- ---- rows

pub on_ok : {A B : Type 0} (P : A → Type 0) (Q : B → Type 0) (row : Result A PerError) (f : A → Result B PerError)
    → IfOk row P → ((x : A) → P x → IfOk (f x) Q) → IfOk (row >>= f) Q
on_ok P Q (Ok x) f has each = each x has
on_ok P Q (Err e) f has each = tt

pub any_ok : {A : Type 0} (row : Result A PerError) → IfOk row (λ (x : A). ⊤)
any_ok (Ok x) = tt
any_ok (Err e) = tt

pub unless_so : {A : Type 0} (Q : A → Type 0) (test : Bool) (e : PerError) (row : Result A PerError)
    → (test ≡ false → IfOk row Q) → IfOk (refuse test e row) Q
unless_so Q true e row has = tt
unless_so Q false e row has = has refl

-- what holds of an application in every world holds of the one after this outcome
abbrev pub Lasts : Outcome → Type 0
Lasts o = IsApplication o.1

pub lasts_on : (r : Application) (row : Result Outcome PerError) → IsApplication r → IfOk row Lasts
    → Lasts (concluded r row)
lasts_on r (Ok o) is has = has
lasts_on r (Err e) is has = is

-- ---- sessions in a row

pub some_none : {A : Type 0} (x : A) → Some x ≡ None → ⊥
some_none {A = A} x e = true≢false (ap (λ (o : Option A). is_some o) e)

not_some : {A : Type 0} (o : Option A) → is_some o ≡ false → o ≡ None
not_some None empty = refl
not_some (Some x) empty = absurd (true≢false empty)

-- one session is another, or ends
slot_set : (ss : Sessions) (cs : List StorageData) (states : List State) (n : ℕ) (x : Option Session)
    → AreSessionsOn ss cs states
    → (if_open (slice_get ss n) ≡ None → x ≡ None) → ((kind : StoreKind) (state : State)
    → IsSessionOn (if_open (slice_get ss n)) kind state → IsSessionOn x kind state)
    → AreSessionsOn (slice_set ss n x) cs states
slot_set [] cs states n x are none same = tt
slot_set (s ∷ ss) [] states zero x are none same = (none are.0, are.1)
slot_set (s ∷ ss) [] states (suc n) x are none same = (are.0, slot_set ss [] states n x are.1 none same)
slot_set (s ∷ ss) (c ∷ cs) [] zero x are none same = (none are.0, are.1)
slot_set (s ∷ ss) (c ∷ cs) [] (suc n) x are none same = (are.0, slot_set ss cs [] n x are.1 none same)
slot_set (s ∷ ss) (c ∷ cs) (state ∷ states) zero x are none same = (same c.kind state are.0, are.1)
slot_set (s ∷ ss) (c ∷ cs) (state ∷ states) (suc n) x are none same = (are.0, slot_set ss cs states n x are.1 none same)

abbrev kind_or : Option StorageData → StoreKind
kind_or None = kinds.Keys
kind_or (Some c) = c.kind

pub none_some : {A : Type 0} (x : A) → None ≡ Some x → ⊥
none_some {A = A} x e = true≢false (sym (ap (λ (o : Option A). is_some o) e))

-- a session and its state are others
pub both_set : (ss : Sessions) (cs : List StorageData) (states : List State) (n : ℕ) (config : StorageData)
    (old new : State) (x : Option Session) → AreSessionsOn ss cs states
    → slice_get cs n ≡ Some config → slice_get states n ≡ Some old → IsSessionOn x config.kind new
    → AreSessionsOn (slice_set ss n x) cs (slice_set states n new)
both_set [] cs states n config old new x are config_is old_is on = tt
both_set (s ∷ ss) [] states zero config old new x are config_is old_is on = absurd (none_some config config_is)
both_set (s ∷ ss) [] states (suc n) config old new x are config_is old_is on = absurd (none_some config config_is)
both_set (s ∷ ss) (c ∷ cs) [] zero config old new x are config_is old_is on = absurd (none_some old old_is)
both_set (s ∷ ss) (c ∷ cs) [] (suc n) config old new x are config_is old_is on = absurd (none_some old old_is)
both_set (s ∷ ss) (c ∷ cs) (state ∷ states) zero config old new x are config_is old_is on =
    (subst (λ kind. IsSessionOn x kind new) (sym (ap kind_or config_is)) on, are.1)
both_set (s ∷ ss) (c ∷ cs) (state ∷ states) (suc n) config old new x are config_is old_is on =
    (are.0, both_set ss cs states n config old new x are.1 config_is old_is on)

-- the state of a closed storage is another
state_set : (ss : Sessions) (cs : List StorageData) (states : List State) (n : ℕ) (new : State)
    → AreSessionsOn ss cs states → if_open (slice_get ss n) ≡ None
    → AreSessionsOn ss cs (slice_set states n new)
state_set [] cs states n new are none = tt
state_set (s ∷ ss) [] states n new are none = (are.0, state_set_beyond ss (slice_set states n new) are.1)
  where
    state_set_beyond : (ss : Sessions) (others : List State) → AreSessionsOn ss [] states → AreSessionsOn ss [] others
    state_set_beyond [] others are = tt
    state_set_beyond (s ∷ ss) others are = (are.0, state_set_beyond ss others are.1)
state_set (s ∷ ss) (c ∷ cs) [] n new are none = are
state_set (s ∷ ss) (c ∷ cs) (state ∷ states) zero new are none =
    (subst (λ x. IsSessionOn x c.kind new) (sym none) tt, are.1)
state_set (s ∷ ss) (c ∷ cs) (state ∷ states) (suc n) new are none = (are.0, state_set ss cs states n new are.1 none)

pub set_twice : {A : Type 0} (xs : List A) (n : ℕ) (x y : A) → slice_set (slice_set xs n x) n y ≡ slice_set xs n y
set_twice [] n x y = refl
set_twice (z ∷ xs) zero x y = refl
set_twice (z ∷ xs) (suc n) x y = ap (λ ys. z ∷ ys) (set_twice xs n x y)

-- where a storage is open, an application is at rest
pub stage_set : (stage : Stage) (says : Says) (ss : Sessions) (n : ℕ) (s : Session) (x : Option Session)
    → IsStageOn stage says ss → if_open (slice_get ss n) ≡ Some s
    → IsStageOn stage says (slice_set ss n x)
stage_set at_rest says ss n s x on open_there = tt
stage_set to_open says ss n s x on open_there = absurd
    (some_none s (sym open_there ∙ (ap (λ (slots : Sessions). if_open (slice_get slots n)) on ∙ none_there 16 n)))
stage_set (updating p) nothing ss n s x on open_there = absurd on
stage_set (updating p) (absent g) ss n s x on open_there = absurd on
stage_set (updating p) (installed g active None) ss n s x on open_there =
    absurd (some_none s (sym open_there ∙ (ap (λ (slots : Sessions). if_open (slice_get slots n)) on.0
    ∙ none_there 16 n)))
stage_set (updating p) (installed g active (Some previous)) ss n s x on open_there = absurd on

pub open_is : (o : Option Session) (e : PerError) → IfOk (found_or o e) (λ s. o ≡ Some s)
open_is None e = tt
open_is (Some s) e = refl

-- ---- calls on an open storage that touch no disk

-- two sessions of one kind, of which the same is on the disk
abbrev pub SameSynced : Session → Session → Type 0
SameSynced (keys s) (keys t) = t.synced ≡ s.synced
SameSynced (files s) (files t) = t.synced ≡ s.synced
SameSynced (keys s) (files t) = ⊥
SameSynced (files s) (keys t) = ⊥

-- a call leaves what is on the disk of a storage of keys
abbrev pub KeysStay : TwoMaps → Answer × TwoMaps → Type 0
KeysStay s a = a.1.synced ≡ s.synced

shows_stays : (s : TwoMaps) (form : Tree → Answer) (row : Result Tree PerError)
    → IfOk (shows s form row) (KeysStay s)
shows_stays s form (Ok x) = refl
shows_stays s form (Err e) = tt

changes_stays : (s : TwoMaps) (row : Result Map PerError) → IfOk (changes s row) (KeysStay s)
changes_stays s (Ok m) = refl
changes_stays s (Err e) = tt

keys_stay : (c : StorageData) (s : TwoMaps) (l : Call) → IfOk (on_keys c s l) (KeysStay s)
unfolding on_keys
keys_stay c s (call.Size n) = refl
keys_stay c s (call.Keys n) = refl
keys_stay c s (call.Exists n k) = refl
keys_stay c s (call.Get n k) = shows_stays s answer.Val (kvs.get_any c s.visible k)
keys_stay c s (call.GetAs n k t) = shows_stays s answer.Val (kvs.get_as c s.visible k t)
keys_stay c s (call.Set n k x) = changes_stays s (kvs.set_any c s.visible k x)
keys_stay c s (call.Remove n k) = changes_stays s (kvs.remove_key c s.visible k)
keys_stay c s (call.RemoveAll n) = changes_stays s (kvs.remove_all_keys c s.visible)
keys_stay c s (call.RecoverKey n k) = changes_stays s (kvs.recover_key c s.visible k)
keys_stay c s (call.ResetKey n k) = changes_stays s (kvs.reset_key c s.visible k)
keys_stay c s (call.Discard n) = refl
keys_stay c s other = tt

-- the answer leaves a session, of keys or of files, with the same as synchronised
abbrev pub KeepsSynced : Session → Answer × Session → Type 0
KeepsSynced s a = SameSynced s a.1

session_stays : (c : StorageData) (now : ℕ) (s : Session) (l : Call) → IfOk (in_session c now s l) (KeepsSynced s)
session_stays c now (keys s) l = on_ok (KeysStay s) (KeepsSynced (keys s)) (on_keys c s l) (λ a. Ok (a.0, keys a.1))
    (keys_stay c s l) (λ a same. same)
session_stays c now (files s) l = on_ok (λ a. ⊤) (KeepsSynced (files s)) (on_working c now s.working l)
    (λ a. Ok (a.0, files (record s { working = a.1 }))) (any_ok (on_working c now s.working l)) (λ a any. refl)

same_on : (s t : Session) (kind : StoreKind) (state : State) → SameSynced s t → IsSessionOn (Some s) kind state
    → IsSessionOn (Some t) kind state
same_on (keys s) (keys t) kinds.Keys (Opens v []) same on = same ∙ on
same_on (keys s) (keys t) kinds.Keys (Opens v (x ∷ xs)) same on = absurd on
same_on (keys s) (keys t) kinds.Keys (Corrupt salvage others) same on = absurd on
same_on (keys s) (keys t) kinds.Files state same on = absurd on
same_on (files s) (files t) kinds.Files (Opens v []) same on = same ∙ on
same_on (files s) (files t) kinds.Files (Opens v (x ∷ xs)) same on = absurd on
same_on (files s) (files t) kinds.Files (Corrupt salvage others) same on = absurd on
same_on (files s) (files t) kinds.Keys state same on = absurd on
same_on (keys s) (files t) kind state same on = absurd same
same_on (files s) (keys t) kind state same on = absurd same

-- the session of an open storage is another with the same map on the disk
changed_so : (r : Application) (n : ℕ) (s t : Session) → IsApplication r → session_at r n ≡ Some s → SameSynced s t
    → IsApplication (with_session r n t)
changed_so r n s t is open_there same = record {
  room = set_length r.sessions n (Some t) ∙ is.room;
  sessions = slot_set r.sessions (active_storages r.disk.says) r.disk.states n (Some t) is.sessions
      (λ none. absurd (some_none s (sym open_there ∙ none)))
      (λ kind state on. same_on s t kind state same (subst (λ x. IsSessionOn x kind state) open_there on));
  stage = stage_set r.stage r.disk.says r.sessions n s (Some t) is.stage open_there;
}

local_row : (r : Application) (now : ℕ) (on : List ℕ × Option StoreKind) (c : Call) → IsApplication r
    → IfOk (local_step r now (Some on) c) Lasts
local_row r now on c is = on_ok (λ f. ⊤) Lasts (storage_in r.disk on.0 on.1)
    (λ f. opened_session r f >>= λ s. in_session f.config now s c >>= λ a.
    Ok (answered a.0 (with_session r f.number a.1))) (any_ok (storage_in r.disk on.0 on.1))
    (λ f any. on_ok (λ s. session_at r f.number ≡ Some s) Lasts (opened_session r f)
    (λ s. in_session f.config now s c >>= λ a. Ok (answered a.0 (with_session r f.number a.1)))
    (open_is (session_at r f.number) error.NotOpen)
    (λ s open_there. on_ok (KeepsSynced s) Lasts (in_session f.config now s c)
    (λ a. Ok (answered a.0 (with_session r f.number a.1))) (session_stays f.config now s c)
    (λ a same. changed_so r f.number s a.1 is open_there same)))

-- and of each other call no row
pub local_any : (r : Application) (now : ℕ) (on : Option (List ℕ × Option StoreKind)) (c : Call) → IsApplication r
    → IfOk (local_step r now on c) Lasts
local_any r now None c is = tt
local_any r now (Some on) c is = local_row r now on c is

-- ---- the clock, a sync that fails, and failures that end all sessions

pub now_lasts : (converters : Converters) (w w' : World) (t : ℕ) (reply : Reply) → IsWorld w
    → StepsTo converters w (event.Now t) reply w' → IsWorld w'
now_lasts converters w w' t reply world (inl step) =
    subst (λ (u : World). IsWorld u) (sym step.1) (record { eight = world.eight; each = world.each })
now_lasts converters w w' t reply world (inr (inl fails)) = absurd fails
now_lasts converters w w' t reply world (inr (inr fails)) = absurd fails

pub failed_sync_lasts : (w w' : World) (app : ℕ) (c : Call) (reply : Reply) → IsWorld w
    → SyncFails w (event.App app c) reply w' → IsWorld w'
failed_sync_lasts w w' app c reply world fails = subst (λ (u : World). IsWorld u) (sym fails.2) world

pub marked_so : (a : App) (r : Application) → IsApplication (after_failure a r None)
marked_so a r = record { room = refl; sessions = none_on 16 (active_storages a.says) a.states; stage = refl }

-- a command that names no storage
pub failure_lasts : (converters : Converters) (w w' : World) (app : ℕ) (c : Call) (reply : Reply)
    → device_storage c ≡ None → IsWorld w
    → FailsElsewhere converters w (event.App app c) reply w' → IsWorld w'
failure_lasts converters w w' app c reply none world fails = with_so w w' app fails.0 _ world (by fails.3) fails.6
  where
    by : FailsAs app w.now (app_at fails.2.left app) (app_of w app) c fails.0 → IsApplication fails.0
    by (inl root) = subst (λ (r : Application). IsApplication r) (sym root.1)
        (marked_so (app_at fails.2.left app) (app_of w app))
    by (inr itself) = subst (λ (r : Application). IsApplication r)
        (sym (itself.1 ∙ ap (λ (n : Option (List ℕ)). after_failure (app_at fails.2.left app)
        (root_opened (app_of w app)) (option_map (λ m. storage_in (root_opened (app_of w app)).disk m None)
        n)) none))
        (marked_so (app_at fails.2.left app) (root_opened (app_of w app)))

-- ---- the storage that a call names

pub record IsFoundStorage (says : Says) (states : List State) (kind : Option StoreKind)
    (f : FoundStorage) : Type 0 where
  pub config : slice_get (active_storages says) f.number ≡ Some f.config
  pub state : slice_get states f.number ≡ Some f.state
  pub kind_is : of_kind kind f.config.kind ≡ true

found_so : (says : Says) (states : List State) (name : List ℕ) (kind : Option StoreKind)
    → IfOk (found_in says states name kind) (IsFoundStorage says states kind)
found_so nothing states name kind = tt
found_so (absent g) states name kind = tt
found_so (installed g active previous) states name kind = at (storage_number active.deployment name)
  where
    kinds_agree : (number : ℕ) (config : StorageData) (state : State) (agree : Bool)
        → slice_get active.deployment.storages number ≡ Some config → slice_get states number ≡ Some state
        → of_kind kind config.kind ≡ agree
        → IfOk (cond agree (Ok (record { bank = active.bank; number = number; config = config; state = state }))
        (Err error.StorageNotFound)) (IsFoundStorage (installed g active previous) states kind)
    kinds_agree number config state true config_is state_is kind_is =
        record { config = config_is; state = state_is; kind_is = kind_is }
    kinds_agree number config state false config_is state_is kind_is = tt

    both : (number : ℕ) (config : Option StorageData) (state : Option State)
        → slice_get active.deployment.storages number ≡ config → slice_get states number ≡ state
        → IfOk (found_with active.bank number kind config state)
        (IsFoundStorage (installed g active previous) states kind)
    both number (Some config) (Some state) config_is state_is =
        kinds_agree number config state (of_kind kind config.kind) config_is state_is refl
    both number (Some config) None config_is state_is = tt
    both number None state config_is state_is = tt

    at : (number : Option ℕ) → IfOk (found_at active states kind number)
        (IsFoundStorage (installed g active previous) states kind)
    at None = tt
    at (Some number) = both number (slice_get active.deployment.storages number) (slice_get states number) refl refl

abbrev pub IsFoundIn : Application → Option StoreKind → FoundStorage → Type 0
IsFoundIn r kind f = IsFoundStorage r.disk.says r.disk.states kind f

pub stored_so : (r : Application) (name : List ℕ) (kind : Option StoreKind)
    → IfOk (storage_in r.disk name kind) (IsFoundIn r kind)
stored_so r name kind = found_so r.disk.says r.disk.states name kind

-- ---- opening

mended_element : (content : Content) (e : Entry) → element_of (mended_by content e) ≡ element_of e
mended_element (Good value) e = refl
mended_element (Bad salvage) e = refl

mended_judged : (content : Content) (e : Entry) → element_of (judged_entry is_encoding (mended_by content e))
    ≡ element_of (judged_entry is_encoding e)
mended_judged (Good value) e = refl
mended_judged (Bad salvage) e = refl

-- what is seen of a view is seen once it is mended
mended_seen : (kind : StoreKind) (shape : Shape) (v : View) → seen_in kind (mended_view shape v) ≡ seen_in kind v
unfolding mended_view
mended_seen kinds.Keys shape v = go v.entries
  where
    go : (es : List Entry) → map element_of (map (judged_entry is_encoding) (map mended_entry es))
        ≡ map element_of (map (judged_entry is_encoding) es)
    go [] = refl
    go (e ∷ es) = ap (λ x. x ∷ map element_of (map (judged_entry is_encoding) (map mended_entry es)))
        (mended_judged e.content e)
        ∙ ap (λ xs. element_of (judged_entry is_encoding e) ∷ xs) (go es)
mended_seen kinds.Files shape v = go v.entries
  where
    go : (es : List Entry) → map element_of (map mended_entry es) ≡ map element_of es
    go [] = refl
    go (e ∷ es) = ap (λ x. x ∷ map element_of (map mended_entry es)) (mended_element e.content e)
        ∙ ap (λ xs. element_of e ∷ xs) (go es)

opened_on : (kind : StoreKind) (shape : Shape) (v : View)
    → IsSessionOn (Some (session_of kind v)) kind (Opens (mended_view shape v) [])
opened_on kinds.Keys shape v = sym (mended_seen kinds.Keys shape v)
opened_on kinds.Files shape v = sym (mended_seen kinds.Files shape v)

pub rest_so : (stage : Stage) (says : Says) (ss : Sessions) → stage ≡ at_rest → IsStageOn stage says ss
rest_so stage says ss rests = subst (λ at. IsStageOn at says ss) (sym rests) tt

opened_so : (app : ℕ) (r : Application) (kind : Option StoreKind) (f : FoundStorage) (state : State) → IsApplication r
    → r.stage ≡ at_rest → IsFoundIn r kind f → Lasts (storage_opened app r f state)
opened_so app r kind f (Opens v others) is rests found = record {
  room = set_length r.sessions f.number (Some (session_of f.config.kind v)) ∙ is.room;
  sessions = both_set r.sessions (active_storages r.disk.says) r.disk.states f.number f.config f.state
      (Opens (mended_view (shape_in app f) v) []) (Some (session_of f.config.kind v))
      is.sessions found.config found.state (opened_on f.config.kind (shape_in app f) v);
  stage = rest_so r.stage r.disk.says (slice_set r.sessions f.number (Some (session_of f.config.kind v))) rests;
}
opened_so app r kind f (Corrupt salvage others) is rests found = is

pub open_row : (app : ℕ) (r : Application) (name : List ℕ) (kind : StoreKind) → IsApplication r → r.stage ≡ at_rest
    → IfOk (open_step app r name kind) Lasts
unfolding open_step
open_row app r name kind is rests = on_ok (IsFoundIn r (Some kind)) Lasts (storage_in r.disk name (Some kind))
    (λ f. unless_open r f (Ok (storage_opened app r f f.state))) (stored_so r name (Some kind))
    (λ f found. unless_so Lasts (is_some (session_at r f.number)) (error.ResourceBusy (holder.Storage f.config.name))
    (Ok (storage_opened app r f f.state))
    (λ closed. opened_so app r (Some kind) f f.state is rests found))

-- ---- recovering and resetting

pub rebuild_row : (r : Application) (name : List ℕ) (state_of : FoundStorage → Result State PerError) → IsApplication r
    → IfOk (rebuild_step r name state_of) Lasts
rebuild_row r name state_of is = on_ok (λ f. ⊤) Lasts (storage_in r.disk name None)
    (λ f. unless_open r f (state_of f >>= λ state. Ok (answered answer.Done
    (record r { disk = with_storage_state r.disk f state })))) (any_ok (storage_in r.disk name None))
    (λ f any. unless_so Lasts (is_some (session_at r f.number)) (error.ResourceBusy (holder.Storage f.config.name))
    (state_of f >>= λ state. Ok (answered answer.Done (record r { disk = with_storage_state r.disk f state })))
    (λ closed. on_ok (λ state. ⊤) Lasts (state_of f) (λ state.
    Ok (answered answer.Done (record r { disk = with_storage_state r.disk f state }))) (any_ok (state_of f))
    (λ state any_state. record {
      room = is.room;
      sessions = state_set r.sessions (active_storages r.disk.says) r.disk.states f.number state is.sessions
          (not_some (session_at r f.number) closed);
      stage = is.stage;
    })))

-- ---- closing

unless_held_so : (held : Option ℕ) (row : Result Outcome PerError) → IfOk row Lasts → IfOk (unless_busy held row) Lasts
unless_held_so None row has = has
unless_held_so (Some h) row has = tt

-- a session that is made durable and ends
ended_so : (r : Application) (f : FoundStorage) (s t : Session) (state : State) → IsApplication r
    → session_at r f.number ≡ Some s → IsFoundIn r None f
    → IsApplication (without_session (with_session (record r { disk = with_storage_state r.disk f state }) f.number t)
    f.number)
ended_so r f s t state is open_there found = record {
  room = set_length (slice_set r.sessions f.number (Some t)) f.number None
      ∙ (set_length r.sessions f.number (Some t) ∙ is.room);
  sessions = subst (λ ss. AreSessionsOn ss (active_storages r.disk.says) (slice_set r.disk.states f.number state))
      (sym (set_twice r.sessions f.number (Some t) None))
      (both_set r.sessions (active_storages r.disk.says) r.disk.states f.number f.config f.state state None is.sessions
      found.config found.state tt);
  stage = subst (λ ss. IsStageOn r.stage r.disk.says ss) (sym (set_twice r.sessions f.number (Some t) None))
      (stage_set r.stage r.disk.says r.sessions f.number s None is.stage open_there);
}

dropped_so : (r : Application) (f : FoundStorage) (s : Session) → IsApplication r → session_at r f.number ≡ Some s
    → IsApplication (without_session r f.number)
dropped_so r f s is open_there = record {
  room = set_length r.sessions f.number None ∙ is.room;
  sessions = slot_set r.sessions (active_storages r.disk.says) r.disk.states f.number None is.sessions (λ none. refl)
      (λ kind state on. tt);
  stage = stage_set r.stage r.disk.says r.sessions f.number s None is.stage open_there;
}

closing_so : (app : ℕ) (r : Application) (f : FoundStorage) (s : Session) → IsApplication r
    → session_at r f.number ≡ Some s → IsFoundIn r None f
    → IfOk (closing app r f s >>= λ after. Ok (answered answer.Done (without_session after f.number))) Lasts
unfolding durable
closing_so app r f (keys s) is open_there found = dropped_so r f (keys s) is open_there
closing_so app r f (files s) is open_there found = by (durable_state app f f.state (files s))
  where
    by : (row : Result State PerError)
        → IfOk ((row >>= λ state. Ok (with_session (record r { disk = with_storage_state r.disk f state }) f.number
        (made_durable (files s)))) >>= λ after. Ok (answered answer.Done (without_session after f.number)))
        Lasts
    by (Ok state) = ended_so r f (files s) (made_durable (files s)) state is open_there found
    by (Err e) = tt

pub close_row : (app : ℕ) (r : Application) (name : List ℕ) → IsApplication r → IfOk (close_step app r name) Lasts
close_row app r name is = on_ok (IsFoundIn r None) Lasts (storage_in r.disk name None)
    (λ f. opened_session r f >>= λ s. unless_busy (lowest_handle s)
    (closing app r f s >>= λ after. Ok (answered answer.Done (without_session after f.number))))
    (stored_so r name None)
    (λ f found. on_ok (λ s. session_at r f.number ≡ Some s) Lasts (opened_session r f)
    (λ s. unless_busy (lowest_handle s) (closing app r f s >>= λ after.
    Ok (answered answer.Done (without_session after f.number)))) (open_is (session_at r f.number) error.NotOpen)
    (λ s open_there. unless_held_so (lowest_handle s) (closing app r f s >>= λ after.
    Ok (answered answer.Done (without_session after f.number))) (closing_so app r f s is open_there found)))
