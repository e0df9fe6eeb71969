-- What is kept of an application in use makes one of a world.
use Rattle.std.proofs.Common.{◌≡◌, ℕ, zero, suc, ◌-◌, List, [], ◌∷◌, ◌++◌, length, Bool, IsTrue, Option, Some}
use Rattle.std.proofs.Common.{None, slice_get, refl, sym, ap, ◌∙◌, subst}
use Rattle.std.specs.Prelude.{map, option_map}
use Rattle.per_base.specs.declared.elements.Fresh.{Fresh}
use Rattle.per_base.specs.declared.elements.StoreKind.{StoreKind}
use Rattle.per_base.specs.declared.elements.StoreKind.TheVariants as kinds
use Rattle.disk_model.specs.Image.{Image}
use Rattle.guarded_cell.specs.Cells.{generation_of}
use Rattle.deployment_model.specs.Data.{StorageData, storage_data}
use Rattle.element_state.specs.declared.shapes.Shape.{Shape}
use Rattle.element_state.specs.declared.shapes.View.{View}
use Rattle.element_state.specs.States.{State, Opens, store_at}
use Rattle.element_store.specs.Stores.{view_in}
use Rattle.update_plan.specs.Plans.{AllFit}
use Rattle.root_text.specs.declared.versions.VersionText.{VersionText}
use Rattle.root_text.specs.Views.{version_said}
use Rattle.deploy_laws.specs.Apps.{App, Says, absent, app_at, installed, named_in_bank, nothing, shapes_named}
use Rattle.deploy_laws.specs.Laws.{NumberLaw}
use Rattle.deploy_laws.specs.Places.{Named, shapes_if, shapes_in, storage_shape}
use Rattle.deploy.specs.declared.roots.Root.{Root}
use Rattle.deploy.specs.declared.updating.Staged.{Staged}
use Rattle.deploy.specs.Building.{StagedAt, staged_progress, staged_root}
use Rattle.deploy.specs.Laws.{RootInUseLaw}
use Rattle.deploy.specs.Roots.{RootAt, root_app, root_says}
use Rattle.open_storages.specs.declared.opens.Open.{Open}
use Rattle.open_storages.specs.Opens.{config_in, session_in, session_kind, store_in}
use Rattle.run_model.specs.Calls.{active_storages}
use Rattle.run_model.specs.Lasting.{AreSessionsOn, IsApplication, IsSessionOn, IsStageOn, none_on}
use Rattle.run_model.specs.Sessions.{Session, files, keys, seen_in, synced_in_session}
use Rattle.run_model.specs.Worlds.{none_open}
use Rattle.run_model.specs.Worlds as worlds
use Rattle.per_runtime.specs.declared.storages.slots.OpenSlots.{OpenSlots}
use Rattle.per_runtime.specs.storages.Slots.{AreOpenOn, IsOpenAt, sessions_in}
use Rattle.per_runtime.specs.declared.application.running.Running.{Running}
use Rattle.per_runtime.specs.declared.application.running.Stage.{Stage}
use Rattle.per_runtime.specs.declared.application.running.Stage.TheVariants.{ToOpen, AtRest, Updating}
use Rattle.per_runtime.specs.application.Running.{IsRunning, IsStageAt, NoneOpen, application, stage_in}

-- ---- lists

pub none_at : {A : Type 0} → (n : ℕ) → slice_get {X = A} [] n ≡ None
none_at n = refl

got_map : {A B : Type 0} → (f : A → B) (xs : List A) (n : ℕ) (x : A) → slice_get xs n ≡ Some x
    → slice_get (map f xs) n ≡ Some (f x)
got_map f [] n x is = absurd (let e = sym (none_at n) ∙ is in cc)
got_map f (y ∷ ys) zero x is = ap (option_map f) is
got_map f (y ∷ ys) (suc n) x is = got_map f ys n x is

got_front : {A : Type 0} → (xs ys : List A) (n : ℕ) (x : A) → slice_get xs n ≡ Some x → slice_get (xs ++ ys) n ≡ Some x
got_front [] ys n x is = absurd (let e = sym (none_at n) ∙ is in cc)
got_front (y ∷ xs) ys zero x is = is
got_front (y ∷ xs) ys (suc n) x is = got_front xs ys n x is

-- ---- one session

-- an open storage has a session of its kind, at what its store shows
pub session_on : (s : Session) (kind : StoreKind) (v : View) → session_kind s ≡ kind → synced_in_session s
    ≡ seen_in kind v
    → IsSessionOn (Some s) kind (Opens v [])
session_on (keys s) kinds.Keys v is shows = shows
session_on (keys s) kinds.Files v is shows = absurd cc
session_on (files s) kinds.Keys v is shows = absurd cc
session_on (files s) kinds.Files v is shows = shows

-- ---- all sessions

-- the storage of this number is configured, and its session is one on its state
record IsSeated (cs : List StorageData) (states : List State) (n : ℕ) (o : Open) : Type 0 where
  config : StorageData
  state : State
  config_is : slice_get cs n ≡ Some config
  state_is : slice_get states n ≡ Some state
  on : IsSessionOn (Some (session_in o)) config.kind state

abbrev AreSeated : List (Option Open) → List StorageData → List State → Type 0
AreSeated slots cs states = (n : ℕ) (o : Open) → slice_get slots n ≡ Some (Some o) → IsSeated cs states n o

not_configured : {P : Type 0} (states : List State) (n : ℕ) (o : Open) → IsSeated [] states n o → P
not_configured states n o is = absurd (let e = sym (none_at n) ∙ is.config_is in cc)

no_state : {P : Type 0} (cs : List StorageData) (n : ℕ) (o : Open) → IsSeated cs [] n o → P
no_state cs n o is = absurd (let e = sym (none_at n) ∙ is.state_is in cc)

seated_here : (c : StorageData) (cs : List StorageData) (state : State) (states : List State) (o : Open)
    → IsSeated (c ∷ cs) (state ∷ states) 0 o → IsSessionOn (Some (session_in o)) c.kind state
seated_here c cs state states o is =
    let same_config : is.config ≡ c = (let e = is.config_is in cc) in
    let same_state : is.state ≡ state = (let e = is.state_is in cc) in
    subst (λ (x : State). IsSessionOn (Some (session_in o)) c.kind x) same_state
    (subst (λ (x : StorageData). IsSessionOn (Some (session_in o)) x.kind is.state) same_config is.on)

later : (slots : List (Option Open)) (slot : Option Open) (c : StorageData) (cs : List StorageData) (state : State)
    (states : List State)
    → AreSeated (slot ∷ slots) (c ∷ cs) (state ∷ states) → AreSeated slots cs states
later slots slot c cs state states each n o at = let is =
    each (suc n) o at in record {
      config = is.config;
      state = is.state;
      config_is = is.config_is;
      state_is =
          is.state_is;
      on = is.on;
    }

all_seated : (slots : List (Option Open)) (cs : List StorageData) (states : List State) → AreSeated slots cs states
    → AreSessionsOn (map (option_map session_in) slots) cs states
all_seated [] cs states each = tt
all_seated (None ∷ slots) [] states each = (
  refl,
  all_seated slots [] states
      (λ n o at. not_configured states (suc n) o (each (suc n) o at)),
)
all_seated (Some o ∷ slots) [] states each = not_configured states 0 o (each 0 o refl)
all_seated (None ∷ slots) (c ∷ cs) [] each = (
  refl,
  all_seated slots cs []
      (λ n x at. no_state (c ∷ cs) (suc n) x (each (suc n) x at)),
)
all_seated (Some o ∷ slots) (c ∷ cs) [] each = no_state (c ∷ cs) 0 o (each 0 o refl)
all_seated (None ∷ slots) (c ∷ cs) (state ∷ states) each =
    (tt, all_seated slots cs states (later slots None c cs state states each))
all_seated (Some o ∷ slots) (c ∷ cs) (state ∷ states) each = (
  seated_here c cs state states o (each 0 o refl),
  all_seated slots cs states
      (later slots (Some o) c cs state states each),
)

-- ---- a root in use, with its open storages

abbrev pub states_of : Image → ℕ → Says → List State
states_of image app says = map (store_at image) (shapes_named app says)

module _ (numbers : NumberLaw) (told : Bool) (image : Image) (app : ℕ) (tells : IsTrue told) where
  pub at_state : (g : ℕ) (active : Named) (previous : Option Named) (n : ℕ) (c : StorageData)
      → slice_get active.deployment.storages n ≡ Some c
      → slice_get (states_of image app (installed g active previous)) n
      ≡ Some (store_at image (storage_shape app active.bank n c))
  unfolding shapes_named
  at_state g active previous n c is = got_map (store_at image) (shapes_in app active ++ shapes_if app previous) n
      (storage_shape app active.bank n c)
      (got_front (shapes_in app active) (shapes_if app previous) n (storage_shape app active.bank n c)
      (numbers app n active c is))

  seated_by : (g : ℕ) (active : Named) (previous : Option Named) (n : ℕ) (o : Open) (v : Named) → Some active ≡ Some v
      → IsOpenAt told image app v n o
      → IsSeated active.deployment.storages (states_of image app (installed g active previous)) n o
  seated_by g active previous n o v is at =
      let same : active ≡ v = cc in
      let here : IsOpenAt told image app active n o = subst (λ (x : Named). IsOpenAt told image app x n o) (sym same) at
      in
      let opens : store_at image (storage_shape app active.bank n (config_in o)) ≡ Opens (view_in (store_in o)) [] =
      subst (λ (s : Shape). store_at image s ≡ Opens (view_in (store_in o)) []) here.placed (here.used.disk tells).opens
      in
      record {
        config = config_in o;
        state = Opens (view_in (store_in o)) [];
        config_is = here.configured;
        state_is = at_state g active previous n (config_in o) here.configured ∙ ap (λ (s : State). Some s) opens;
        on = session_on (session_in o) (config_in o).kind (view_in (store_in o)) here.kind here.shows;
      }

  sessions_on : (says : Says) (slots : OpenSlots) → AreOpenOn told image app says slots
      → AreSessionsOn (sessions_in slots) (active_storages says) (states_of image app says)
  sessions_on nothing slots are = all_seated slots.open.items [] (states_of image app nothing)
      (λ n o at. absurd (let e = (are.each n o at).1 in cc))
  sessions_on (absent g) slots are = all_seated slots.open.items [] (states_of image app (absent g))
      (λ n o at. absurd (let e = (are.each n o at).1 in cc))
  sessions_on (installed g active previous) slots are =
      all_seated slots.open.items active.deployment.storages (states_of image app (installed g active previous))
      (λ n o at. let x = are.each n o at in seated_by g active previous n o x.0 x.1 x.2)

-- ---- the stages

map_length : {A B : Type 0} → (f : A → B) (xs : List A) → length (map f xs) ≡ length xs
map_length f [] = refl
map_length f (x ∷ xs) = ap suc (map_length f xs)

pub closed : (slots : OpenSlots) → NoneOpen slots → sessions_in slots ≡ none_open
closed slots none = ap (λ (xs : List (Option Open)). map (option_map session_in) xs) none

pub fit_length : (ss : List StorageData) (xs : List (List Fresh)) → AllFit ss xs → length xs ≡ length ss
fit_length [] [] fit = refl
fit_length [] (x ∷ xs) fit = absurd fit
fit_length (s ∷ ss) [] fit = absurd fit
fit_length (s ∷ ss) (x ∷ xs) fit = ap suc (fit_length ss xs fit.1)

-- where nothing is open
closed_so : (a : App) (stage : worlds.Stage) (slots : OpenSlots) → NoneOpen slots
    → IsStageOn stage a.says (sessions_in slots) → IsApplication
    (record { disk = a; stage = stage; sessions = sessions_in slots })
closed_so a stage slots none on = record {
  room = ap (λ (ss : worlds.Sessions). length ss) (closed slots none);
  sessions = subst (λ (ss : worlds.Sessions). AreSessionsOn ss (active_storages a.says) a.states)
      (sym (closed slots none)) (none_on 16 (active_storages a.says) a.states);
  stage = on;
}

module _ (in_use : RootInUseLaw) (numbers : NumberLaw) (told : Bool) (image : Image) (app : ℕ)
    (tells : IsTrue told) where
  pub app_is : (root : Root) → RootAt told image app root
      → app_at image app ≡ root_app root (states_of image app (root_says root))
  app_is root at = in_use image app root at.memory (at.disk tells)

  updating_on : (s : Staged) (slots : OpenSlots) → StagedAt told image app s → NoneOpen slots
      → IsStageOn (worlds.updating (staged_progress s)) (root_says (staged_root s)) (sessions_in slots)
  updating_on s slots at none =
      subst (λ (previous : Option VersionText). IsStageOn (worlds.updating (staged_progress s))
      (installed (generation_of s.root.cell) (named_in_bank s.root.bank (version_said s.root.active))
      (option_map (λ v. named_in_bank (1 - s.root.bank) (version_said v)) previous)) (sessions_in slots))
      (sym at.memory.no_previous) (
        closed slots none,
        fit_length (map storage_data s.version.deployment.storages) s.contents.items at.memory.fit,
        at.memory.within,
      )

  stage_so : (slots : OpenSlots) (stage : Stage) → IsStageAt told image app slots stage
      → IsApplication (record { disk = app_at image app; stage = stage_in stage; sessions = sessions_in slots })
  stage_so slots ToOpen none = closed_so (app_at image app) worlds.to_open slots none (closed slots none)
  stage_so slots (AtRest root) is = subst (λ (a : App).
      IsApplication (record { disk = a; stage = worlds.at_rest; sessions = sessions_in slots }))
      (sym (app_is root is.root_at)) (record {
        room = map_length (option_map session_in) slots.open.items ∙ is.open_on.room;
        sessions = sessions_on numbers told image app tells (root_says root) slots is.open_on;
        stage = tt;
      })
  stage_so slots (Updating s) is = subst (λ (a : App). IsApplication
      (record { disk = a; stage = worlds.updating (staged_progress s); sessions = sessions_in slots }))
      (sym (app_is (staged_root s) (record { memory = is.0.memory.root; disk = is.0.root_on })))
      (closed_so (root_app (staged_root s) (states_of image app (root_says (staged_root s))))
      (worlds.updating (staged_progress s))
      slots is.1 (updating_on s slots is.0 is.1))

pub in_world : RootInUseLaw → NumberLaw → (told : Bool) (image : Image) (r : Running) → IsTrue told
    → IsRunning told image r
    → IsApplication (application image r)
in_world in_use numbers told image r tells is = stage_so in_use numbers told image r.app tells r.slots r.stage
    is.stage_at
