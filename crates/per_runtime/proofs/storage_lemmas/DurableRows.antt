-- The rows of the calls that make an open storage durable, that close it, and that rebuild a closed one.
use Rattle.std.proofs.Common.{◌≡◌, ℕ, List, [], Bool, true, false, not, cond, ◌&&◌, refl, ap, ◌∙◌}
use Rattle.std.specs.Prelude.{IsTrue, Option, Some, None, Result, Ok, Err, is_some, is_none, is_ok, slice_get, ⊤}
use Rattle.per_base.specs.declared.elements.StoreKind.{StoreKind}
use Rattle.per_base.specs.declared.elements.StoreKind.TheVariants as kinds
use Rattle.per_base.specs.declared.errors.Holder.TheVariants as holder
use Rattle.per_base.specs.declared.errors.Limit.TheVariants as limit
use Rattle.per_base.specs.declared.errors.PerError.{PerError}
use Rattle.per_base.specs.declared.errors.PerError.TheVariants as error
use Rattle.per_base.specs.Refusals.{or_next, refuse, refused_by}
use Rattle.deployment_model.specs.Data.{StorageData}
use Rattle.deployment_model.specs.Lookups.{storage_number}
use Rattle.element_state.specs.declared.shapes.View.{View}
use Rattle.element_state.specs.States.{State, Opens, is_worn}
use Rattle.element_maps.specs.Sessions.{same_map, view_once_synced}
use Rattle.key_maps.specs.TwoMaps.{TwoMaps}
use Rattle.file_handles.specs.Opening.{busy, when}
use Rattle.command_text.specs.declared.calls.Call.{Call}
use Rattle.command_text.specs.declared.calls.Call.TheVariants as call
use Rattle.command_text.specs.declared.replies.Answer.TheVariants as answer
use Rattle.deploy_laws.specs.Places.{Named}
use Rattle.deploy_laws.specs.Apps.{App, Says, nothing, absent, installed}
use Rattle.deploy_rows.specs.Recovering.{recovering, resetting}
use Rattle.deploy_rows.specs.Rows.{◌>>=◌}
use Rattle.open_storages.specs.Refusals.{error_of}
use Rattle.run_model.specs.Calls.{Outcome, answered, app_step, beside_update, closing, durable, durable_state, found_or}
use Rattle.run_model.specs.Calls.{lowest_handle, may_flush, opened_session, session_at, unless_busy, unless_open}
use Rattle.run_model.specs.Calls.{with_session, without_session}
use Rattle.run_model.specs.Found.{FoundStorage, found_at, found_in, found_with, of_kind, shape_in, storage_in}
use Rattle.run_model.specs.Found.{with_storage_state}
use Rattle.run_model.specs.LastingCalls.{set_twice}
use Rattle.run_model.specs.Sessions.{Session, keys, files, made_durable, seen_of, synced_in_session}
use Rattle.run_model.specs.Steps.{passes_refusals, reaches_device, uses_device}
use Rattle.run_model.specs.Worlds.{Application, Stage, at_rest, update_in}

-- ---- results, one after another

module _ {A B : Type 0} (rest : A → Result B PerError) where
  after_ok : (row : Result A PerError) (x : A) → row ≡ Ok x → (row >>= rest) ≡ rest x
  after_ok row x is = ap (λ (r : Result A PerError). r >>= rest) is

  after_err : (row : Result A PerError) (e : PerError) → row ≡ Err e → (row >>= rest) ≡ Err e
  after_err row e is = ap (λ (r : Result A PerError). r >>= rest) is

  after_refusal : (refused : Option PerError) (x : A) → (refused_by refused (Ok x) >>= rest)
      ≡ refused_by refused (rest x)
  after_refusal None x = refl
  after_refusal (Some e) x = refl

refuse_is : {A : Type 0} (test : Bool) (e : PerError) (rest : Result A PerError)
    → refuse test e rest ≡ refused_by (when test e) rest
refuse_is true e rest = refl
refuse_is false e rest = refl

-- ---- what a call names

-- a storage that is found is found where one of its kind is asked for
pub found_of_kind : (a : App) (name : List ℕ) (kind : StoreKind) (f : FoundStorage) → storage_in a name None ≡ Ok f
    → of_kind (Some kind) f.config.kind ≡ true
    → storage_in a name (Some kind) ≡ Ok f
found_of_kind a name kind f found of = by a.says found
  where
    config_or : StorageData → Result FoundStorage PerError → StorageData
    config_or c (Ok g) = g.config
    config_or c (Err e) = c

    with : (bank number : ℕ) (config : Option StorageData) (state : Option State)
        → found_with bank number None config state ≡ Ok f
        → found_with bank number (Some kind) config state ≡ Ok f
    with bank number (Some config) (Some state) is = ap (λ (b : Bool).
        cond b (Ok (record { bank = bank; number = number; config = config; state = state }))
        (Err error.StorageNotFound))
        (ap (λ (c : StorageData). of_kind (Some kind) c.kind) (ap (config_or config) is) ∙ of) ∙ is
    with bank number (Some config) None is = absurd cc
    with bank number None state is = absurd cc

    at : (v : Named) (number : Option ℕ) → found_at v a.states None number ≡ Ok f
        → found_at v a.states (Some kind) number ≡ Ok f
    at v None is = absurd cc
    at v (Some number) is = with v.bank number (slice_get v.deployment.storages number) (slice_get a.states number) is

    by : (says : Says) → found_in says a.states name None ≡ Ok f → found_in says a.states name (Some kind) ≡ Ok f
    by nothing is = absurd cc
    by (absent g) is = absurd cc
    by (installed g active previous) is = at active (storage_number active.deployment name) is

module _ (app now : ℕ) (r : Application) (name : List ℕ) where
  -- ---- it reaches the device

  reaches : (c : Call) → uses_device r.disk c ≡ true → r.stage ≡ at_rest → passes_refusals app r now c ≡ true
      → IsTrue (reaches_device app r now c)
  reaches c uses rests goes = ap (λ (b : Bool). b && is_none (beside_update (update_in r.stage) c)
      && passes_refusals app r now c) uses
      ∙ (ap (λ (stage : Stage). is_none (beside_update (update_in stage) c) && passes_refusals app r now c) rests
      ∙ goes)

  pub sync_reaches : (x : Outcome) → r.stage ≡ at_rest → app_step app r now (call.Sync name) ≡ Ok x
      → IsTrue (reaches_device app r now (call.Sync name))
  sync_reaches x rests row = reaches (call.Sync name) refl rests (ap is_ok row)

  pub flush_reaches : (h : ℕ) (x : Outcome) → r.stage ≡ at_rest → app_step app r now (call.Flush name h) ≡ Ok x
      → IsTrue (reaches_device app r now (call.Flush name h))
  flush_reaches h x rests row = reaches (call.Flush name h) refl rests (ap is_ok row)

  pub close_reaches : (f : FoundStorage) (x : Outcome) → storage_in r.disk name (Some kinds.Files) ≡ Ok f
      → r.stage ≡ at_rest → app_step app r now (call.Close name) ≡ Ok x
      → IsTrue (reaches_device app r now (call.Close name))
  close_reaches f x found rests row = reaches (call.Close name) (ap is_ok found) rests (ap is_ok row)

  -- ---- the refusals before it

  pub sync_not_found : (e : PerError) → storage_in r.disk name (Some kinds.Keys) ≡ Err e
      → app_step app r now (call.Sync name) ≡ Err e
  unfolding app_step
  sync_not_found e is = after_err _ (storage_in r.disk name (Some kinds.Keys)) e is

  pub flush_not_found : (h : ℕ) (e : PerError) → storage_in r.disk name (Some kinds.Files) ≡ Err e
      → app_step app r now (call.Flush name h) ≡ Err e
  unfolding app_step
  flush_not_found h e is = after_err _ (storage_in r.disk name (Some kinds.Files)) e is

  pub close_not_found : (e : PerError) → storage_in r.disk name None ≡ Err e
      → app_step app r now (call.Close name) ≡ Err e
  unfolding app_step
  close_not_found e is = after_err _ (storage_in r.disk name None) e is

  module _ (f : FoundStorage) where
    not_open : session_at r f.number ≡ None → opened_session r f ≡ Err error.NotOpen
    not_open none = ap (λ (s : Option Session). found_or s error.NotOpen) none

    pub sync_not_open : storage_in r.disk name (Some kinds.Keys) ≡ Ok f → session_at r f.number ≡ None
        → app_step app r now (call.Sync name) ≡ Err error.NotOpen
    unfolding app_step
    sync_not_open found none = after_ok _ (storage_in r.disk name (Some kinds.Keys)) f found
        ∙ after_err _ (opened_session r f) error.NotOpen (not_open none)

    pub flush_not_open : (h : ℕ) → storage_in r.disk name (Some kinds.Files) ≡ Ok f → session_at r f.number ≡ None
        → app_step app r now (call.Flush name h) ≡ Err error.NotOpen
    unfolding app_step
    flush_not_open h found none = after_ok _ (storage_in r.disk name (Some kinds.Files)) f found
        ∙ after_err _ (opened_session r f) error.NotOpen (not_open none)

    pub close_not_open : storage_in r.disk name None ≡ Ok f → session_at r f.number ≡ None
        → app_step app r now (call.Close name) ≡ Err error.NotOpen
    unfolding app_step
    close_not_open found none = after_ok _ (storage_in r.disk name None) f found
        ∙ after_err _ (opened_session r f) error.NotOpen (not_open none)

  -- ---- an open storage

  module _ (f : FoundStorage) (s : Session) (v : View) (open_there : session_at r f.number ≡ Some s)
      (opens : f.state ≡ Opens v []) where
    opened_is : opened_session r f ≡ Ok s
    opened_is = ap (λ (o : Option Session). found_or o error.NotOpen) open_there

    -- its state once it is durable
    abbrev pub next_state : State
    next_state = Opens (view_once_synced (shape_in app f) v (synced_in_session s) (seen_of s)) []

    abbrev pub next_app : App
    next_app = with_storage_state r.disk f next_state

    -- why it is refused
    abbrev pub due : Option PerError
    due = when (not (same_map (synced_in_session s) (seen_of s)) && is_worn v) (error.LimitReached limit.Generations)

    abbrev made : Application
    made = with_session (record r { disk = next_app }) f.number (made_durable s)

    state_is : durable_state app f f.state s ≡ refused_by due (Ok next_state)
    state_is = ap (λ (state : State). durable_state app f state s) opens
        ∙ refuse_is (not (same_map (synced_in_session s) (seen_of s)) && is_worn v)
        (error.LimitReached limit.Generations)
        (Ok next_state)

    durable_is : durable app r f s ≡ refused_by due (Ok made)
    unfolding durable
    durable_is = ap (λ (row : Result State PerError). row >>= λ state.
        Ok (with_session (record r { disk = with_storage_state r.disk f state }) f.number (made_durable s))) state_is
        ∙ after_refusal (λ (state : State). Ok (with_session (record r { disk = with_storage_state r.disk f state })
        f.number
        (made_durable s))) due next_state

    abbrev done : Application → Result Outcome PerError
    done after = Ok (answered answer.Done after)

    done_is : (durable app r f s >>= done) ≡ refused_by due (Ok (answered answer.Done made))
    done_is = ap (λ (row : Result Application PerError). row >>= done) durable_is ∙ after_refusal done due made

    pub sync_row : storage_in r.disk name (Some kinds.Keys) ≡ Ok f
        → app_step app r now (call.Sync name) ≡ refused_by due (Ok (answered answer.Done made))
    unfolding app_step
    sync_row found = after_ok _ (storage_in r.disk name (Some kinds.Keys)) f found
        ∙ (after_ok _ (opened_session r f) s opened_is ∙ done_is)

    may_row : (may : Result ⊤ PerError) → (may >>= λ x. durable app r f s >>= done)
        ≡ refused_by (or_next (error_of may) due) (Ok (answered answer.Done made))
    may_row (Ok x) = done_is
    may_row (Err e) = refl

    pub flush_row : (h : ℕ) → storage_in r.disk name (Some kinds.Files) ≡ Ok f
        → app_step app r now (call.Flush name h) ≡ refused_by (or_next (error_of (may_flush s h)) due)
        (Ok (answered answer.Done made))
    unfolding app_step
    flush_row h found = after_ok _ (storage_in r.disk name (Some kinds.Files)) f found
        ∙ (after_ok _ (opened_session r f) s opened_is ∙ may_row (may_flush s h))

    abbrev ended : Application
    ended = without_session (record r { disk = next_app }) f.number

    ended_is : without_session made f.number ≡ ended
    ended_is = ap (λ (ss : List (Option Session)). record r { disk = next_app; sessions = ss })
        (set_twice r.sessions f.number (Some (made_durable s)) None)

    held_row : (held : Option ℕ) → unless_busy held (durable app r f s >>= λ after.
        Ok (answered answer.Done (without_session after f.number)))
        ≡ refused_by (or_next (busy held) due) (Ok (answered answer.Done ended))
    held_row (Some h) = refl
    held_row None = ap (λ (row : Result Application PerError). row >>= λ after.
        Ok (answered answer.Done (without_session after f.number))) durable_is
        ∙ (after_refusal (λ (after : Application). Ok (answered answer.Done (without_session after f.number))) due made
        ∙ ap (λ (a : Application). refused_by due (Ok (answered answer.Done a))) ended_is)

    pub close_row : storage_in r.disk name None ≡ Ok f → ((k : TwoMaps) → s ≡ keys k → ⊥)
        → app_step app r now (call.Close name) ≡ refused_by (or_next (busy (lowest_handle s)) due)
        (Ok (answered answer.Done ended))
    unfolding app_step
    close_row found no_keys = after_ok _ (storage_in r.disk name None) f found
        ∙ (after_ok _ (opened_session r f) s opened_is
        ∙ (ap (λ (row : Result Application PerError). unless_busy (lowest_handle s)
        (row >>= λ after. Ok (answered answer.Done (without_session after f.number)))) (closing_is s no_keys)
        ∙ held_row (lowest_handle s)))
      where
        closing_is : (t : Session) → ((k : TwoMaps) → t ≡ keys k → ⊥) → closing app r f t ≡ durable app r f t
        closing_is (keys k) none = absurd (none k refl)
        closing_is (files w) none = refl

  -- what is pending of keys is dropped
  pub close_keys_row : (f : FoundStorage) (k : TwoMaps) → session_at r f.number ≡ Some (keys k)
      → storage_in r.disk name None ≡ Ok f
      → app_step app r now (call.Close name) ≡ Ok (answered answer.Done (without_session r f.number))
  unfolding app_step
  close_keys_row f k open_there found = after_ok _ (storage_in r.disk name None) f found
      ∙ after_ok _ (opened_session r f) (keys k) (ap (λ (o : Option Session). found_or o error.NotOpen) open_there)

  -- ---- a closed storage is rebuilt

  pub recover_not_found : (e : PerError) → storage_in r.disk name None ≡ Err e
      → app_step app r now (call.RecoverStorage name) ≡ Err e
  unfolding app_step
  recover_not_found e is = after_err _ (storage_in r.disk name None) e is

  pub reset_not_found : (e : PerError) → storage_in r.disk name None ≡ Err e
      → app_step app r now (call.ResetStorage name) ≡ Err e
  unfolding app_step
  reset_not_found e is = after_err _ (storage_in r.disk name None) e is

  module _ (f : FoundStorage) (found : storage_in r.disk name None ≡ Ok f) where
    taken : {A : Type 0} (rest : Result A PerError) (s : Session) → session_at r f.number ≡ Some s
        → unless_open r f rest ≡ Err (error.ResourceBusy (holder.Storage f.config.name))
    taken {A} rest s open_there = ap (λ (o : Option Session).
        refuse (is_some o) (error.ResourceBusy (holder.Storage f.config.name)) rest) open_there

    free : {A : Type 0} (rest : Result A PerError) → session_at r f.number ≡ None → unless_open r f rest ≡ rest
    free {A} rest none = ap (λ (o : Option Session). refuse (is_some o)
        (error.ResourceBusy (holder.Storage f.config.name)) rest) none

    pub recover_busy : (s : Session) → session_at r f.number ≡ Some s
        → app_step app r now (call.RecoverStorage name) ≡ Err (error.ResourceBusy (holder.Storage f.config.name))
    unfolding app_step
    recover_busy s open_there = after_ok _ (storage_in r.disk name None) f found ∙ taken _ s open_there

    pub reset_busy : (s : Session) → session_at r f.number ≡ Some s
        → app_step app r now (call.ResetStorage name) ≡ Err (error.ResourceBusy (holder.Storage f.config.name))
    unfolding app_step
    reset_busy s open_there = after_ok _ (storage_in r.disk name None) f found ∙ taken _ s open_there

    -- the row of a storage that is closed
    abbrev pub rebuilt : Result State PerError → Result Outcome PerError
    rebuilt row = row >>= λ state. Ok (answered answer.Done (record r { disk = with_storage_state r.disk f state }))

    pub recover_row : session_at r f.number ≡ None → app_step app r now (call.RecoverStorage name)
        ≡ rebuilt (recovering f.config now f.state)
    unfolding app_step
    recover_row none = after_ok _ (storage_in r.disk name None) f found ∙ free _ none

    pub reset_row : session_at r f.number ≡ None → app_step app r now (call.ResetStorage name)
        ≡ rebuilt (resetting f.config now f.state)
    unfolding app_step
    reset_row none = after_ok _ (storage_in r.disk name None) f found ∙ free _ none

    goes_on_free : session_at r f.number ≡ None → is_ok (storage_in r.disk name None >>= λ g. unless_open r g (Ok g))
        ≡ true
    goes_on_free none = ap is_ok (after_ok _ (storage_in r.disk name None) f found ∙ free (Ok f) none)

    pub recover_reaches : r.stage ≡ at_rest → session_at r f.number ≡ None
        → IsTrue (reaches_device app r now (call.RecoverStorage name))
    recover_reaches rests none = reaches (call.RecoverStorage name) refl rests (goes_on_free none)

    pub reset_reaches : r.stage ≡ at_rest → session_at r f.number ≡ None
        → IsTrue (reaches_device app r now (call.ResetStorage name))
    reset_reaches rests none = reaches (call.ResetStorage name) refl rests (goes_on_free none)
