-- Which storages stay open when the root is written: those of the active version, where that stays; and none is open
-- where it goes.
use Rattle.std.proofs.Common.{◌≡◌, ℕ, zero, suc, ◌+◌, ◌<◌, ◌≤◌, List, [], ◌∷◌, length, Bool, true, false, cond}
use Rattle.std.proofs.Common.{nat_le, IsTrue, Option, Some, None, Result, Ok, Err, slice_get, take, refl, sym, ap, ◌∙◌}
use Rattle.std.proofs.Common.{subst, arith}
use Rattle.std.specs.Prelude.{IfOk, map, option_map, replicate}
use Rattle.per_base.specs.declared.errors.Limit.TheVariants as limit
use Rattle.per_base.specs.declared.errors.PerError.{PerError}
use Rattle.per_base.specs.declared.errors.PerError.TheVariants as error
use Rattle.disk_model.specs.Frame.{Spares}
use Rattle.disk_model.specs.Image.{Image}
use Rattle.deployment_model.specs.Data.{StorageData}
use Rattle.element_laws.specs.Apart.{FrameLaw}
use Rattle.element_laws.specs.Phases.{IsOfPlace}
use Rattle.element_state.specs.declared.shapes.Shape.{Shape}
use Rattle.element_state.specs.States.{State, greatest_generation}
use Rattle.element_store.specs.Stores.{view_in}
use Rattle.element_store.specs.Stores as stores
use Rattle.deploy.specs.declared.errors.Stop.{Stop}
use Rattle.deploy.specs.declared.roots.Outcome.{Outcome}
use Rattle.deploy.specs.declared.roots.Root.{Root}
use Rattle.deploy.specs.declared.roots.Root.TheVariants as roots
use Rattle.deploy.specs.Clauses.{IsNoRootSlot}
use Rattle.deploy.specs.Laws.{IsRootFile, RootFrameLaw, StagedFrameLaw}
use Rattle.deploy.specs.Roots.{IsRootOf, root_app, root_says}
use Rattle.deploy_laws.specs.Apps.{App, Says, absent, installed, nothing}
use Rattle.deploy_laws.specs.Laws.{StorageFilesLaw}
use Rattle.deploy_laws.specs.Places.{IsFileOf, Named, storage_shape}
use Rattle.deploy_rows.specs.Rows.{AnswersRow, after, finish_with, finishing, installing, not_busy}
use Rattle.deploy_rows.specs.Rows.{rollback_with, rolling_back, storage_count, wiping}
use Rattle.open_storages.specs.declared.opens.Open.{Open}
use Rattle.open_storages.specs.Opens.{config_in, session_in, store_in}
use Rattle.run_model.specs.Calls.{active_storages, first_open}
use Rattle.per_runtime.specs.declared.storages.slots.OpenSlots.{OpenSlots}
use Rattle.per_runtime.specs.storages.Slots.{AreOpenOn, IsOpenAt, IsResting, active_in, sessions_in}
use Rattle.per_runtime.specs.declared.application.running.Running.{Running}
use Rattle.per_runtime.specs.declared.application.running.Stage.{Stage}
use Rattle.per_runtime.specs.declared.application.running.Stage.TheVariants.{ToOpen, AtRest, Updating}
use Rattle.per_runtime.specs.application.Running.{IsRunning, IsStageAt, NoneOpen}
use Rattle.per_runtime.proofs.application_lemmas.InWorld.{none_at}

-- ---- what a row takes that is not refused

-- a test that refuses was not met
abbrev unless_worn : Bool → App → Result App PerError
unless_worn test b = cond test (Err (error.LimitReached limit.Generations)) (Ok b)

unworn : {P : Type 0} (test : Bool) (a b : App) → AnswersRow None (unless_worn test b)
    → (after a (unless_worn test b) ≡ b → P) → P
unworn true a b taken then = absurd taken
unworn false a b taken then = then refl

-- finish: the active version stays
finish_by : (a : App) (g : ℕ) (active : Named) (previous : Option Named)
    → AnswersRow None (finish_with a g active previous) → active_in (after a (finish_with a g active previous)).says
    ≡ Some active
finish_by a g active None taken = absurd taken
finish_by a g active (Some previous) taken = unworn (nat_le greatest_generation g) a
    (record { says = installed (g + 1) active None; lacking = []; states = take (storage_count active) a.states }) taken
    (λ is. ap (λ (x : App). active_in x.says) is)

finish_says : (says : Says) (lacking : List ℕ) (states : List State)
    → AnswersRow None (finishing (record { says = says; lacking = lacking; states = states }))
    → active_in (after (record { says = says; lacking = lacking; states = states })
    (finishing (record { says = says; lacking = lacking; states = states }))).says ≡ active_in says
unfolding finishing
finish_says nothing lacking states taken = absurd taken
finish_says (absent g) lacking states taken = absurd taken
finish_says (installed g active previous) lacking states taken =
    finish_by (record { says = installed g active previous; lacking = lacking; states = states }) g active previous
    taken

pub finish_active : (root : Root) → AnswersRow None (finishing (root_app root []))
    → active_in (after (root_app root []) (finishing (root_app root []))).says ≡ active_in (root_says root)
finish_active root taken = finish_says (root_says root) [] [] taken

-- install: no version was active
install_says : (now : ℕ) (text : List ℕ) (says : Says) (lacking : List ℕ) (states : List State)
    → AnswersRow None (installing now text (record { says = says; lacking = lacking; states = states }))
    → active_in says ≡ None
unfolding installing
install_says now text nothing lacking states taken = absurd taken
install_says now text (absent g) lacking states taken = refl
install_says now text (installed g active previous) lacking states taken = absurd taken

pub install_active : (now : ℕ) (text : List ℕ) (root : Root) → AnswersRow None (installing now text (root_app root []))
    → active_in (root_says root) ≡ None
install_active now text root taken = install_says now text (root_says root) [] [] taken

-- rollback and wipe: no storage was open
not_busy_by : {A : Type 0} → (busy : Option (List ℕ)) (x : Result A PerError) → AnswersRow None (not_busy busy x)
    → busy ≡ None
not_busy_by None x taken = refl
not_busy_by (Some name) x taken = absurd taken

rollback_by : (busy : Option (List ℕ)) (a : App) (g : ℕ) (active : Named) (previous : Option Named)
    → AnswersRow None (rollback_with busy a g active previous) → busy ≡ None
rollback_by busy a g active None taken = absurd taken
rollback_by busy a g active (Some previous) taken = not_busy_by busy _ taken

rollback_says : (busy : Option (List ℕ)) (says : Says) (lacking : List ℕ) (states : List State)
    → AnswersRow None (rolling_back busy (record { says = says; lacking = lacking; states = states })) → busy ≡ None
unfolding rolling_back
rollback_says busy nothing lacking states taken = absurd taken
rollback_says busy (absent g) lacking states taken = absurd taken
rollback_says busy (installed g active previous) lacking states taken =
    rollback_by busy (record { says = installed g active previous; lacking = lacking; states = states }) g active
    previous taken

pub rollback_free : (busy : Option (List ℕ)) (root : Root) → AnswersRow None (rolling_back busy (root_app root []))
    → busy ≡ None
rollback_free busy root taken = rollback_says busy (root_says root) [] [] taken

pub wipe_free : (busy : Option (List ℕ)) (a : App) → AnswersRow None (wiping busy a) → busy ≡ None
unfolding wiping
wipe_free busy a taken = not_busy_by busy _ taken

-- ---- no storage is open

some_first : (slots : List (Option Open)) (cs : List StorageData) (n : ℕ) (o : Open) (c : StorageData)
    → slice_get slots n ≡ Some (Some o) → slice_get cs n ≡ Some c
    → first_open (map (option_map session_in) slots) cs ≡ None → ⊥
some_first [] cs n o c at configured none = let e = sym (none_at n) ∙ at in cc
some_first (slot ∷ slots) [] n o c at configured none = let e = sym (none_at n) ∙ configured in cc
some_first (Some x ∷ slots) (d ∷ cs) n o c at configured none = cc
some_first (None ∷ slots) (d ∷ cs) zero o c at configured none = cc
some_first (None ∷ slots) (d ∷ cs) (suc n) o c at configured none = some_first slots cs n o c at configured none

storages_of : (says : Says) (v : Named) → active_in says ≡ Some v → active_storages says ≡ v.deployment.storages
storages_of nothing v is = absurd cc
storages_of (absent g) v is = absurd cc
storages_of (installed g active previous) v is = let same : active ≡ v =
    cc in ap (λ (x : Named). x.deployment.storages) same

-- whatever the root says
pub none_open_on : (told : Bool) (old new : Image) (app : ℕ) (says next : Says) (slots : OpenSlots)
    → AreOpenOn told old app says slots
    → ((n : ℕ) (o : Open) → slice_get slots.open.items n ≡ Some (Some o) → ⊥) → AreOpenOn told new app next slots
none_open_on told old new app says next slots are none =
    record { room = are.room; each = λ n o at. absurd (none n o at) }

pub closed_by_none : (told : Bool) (image : Image) (app : ℕ) (says : Says) (slots : OpenSlots)
    → AreOpenOn told image app says slots → active_in says ≡ None
    → (n : ℕ) (o : Open) → slice_get slots.open.items n ≡ Some (Some o) → ⊥
closed_by_none told image app says slots are none n o at = let e = sym none ∙ (are.each n o at).1 in cc

pub closed_by_free : (told : Bool) (image : Image) (app : ℕ) (says : Says) (slots : OpenSlots)
    → AreOpenOn told image app says slots → first_open (sessions_in slots) (active_storages says) ≡ None
    → (n : ℕ) (o : Open) → slice_get slots.open.items n ≡ Some (Some o) → ⊥
closed_by_free told image app says slots are free n o at =
    let x = are.each n o at in
    some_first slots.open.items x.0.deployment.storages n o (config_in o) at x.2.configured
    (subst (λ (cs : List StorageData). first_open (sessions_in slots) cs ≡ None) (storages_of says x.0 x.1) free)

-- ---- the same storages are open

within : {A : Type 0} → (xs : List A) (n : ℕ) (x : A) → slice_get xs n ≡ Some x → n < length xs
within [] n x is = absurd (let e = sym (none_at n) ∙ is in cc)
within (y ∷ ys) zero x is = omega arith
within (y ∷ ys) (suc n) x is = let less = within ys n x is in omega (arith, less)

active_bank : (app : ℕ) (root : Root) (v : Named) → IsRootOf app root → active_in (root_says root) ≡ Some v → v.bank ≤ 1
active_bank app roots.Bad v of is = absurd cc
active_bank app (roots.Absent cell) v of is = absurd cc
active_bank app (roots.Installed i) v of is = let same : i.bank ≡ v.bank =
    (let e = is in cc) in subst (λ (b : ℕ). b ≤ 1) same of.1.in_bank

-- ... where no file of their places changes
module _ (frame : FrameLaw) (told : Bool) (app : ℕ) (old new : Image)
    (spared : IsTrue told → (bank n : ℕ) (s : StorageData) → bank ≤ 1 → n < 16
    → Spares (IsOfPlace (storage_shape app bank n s).place) old new) where
  open_stays : (v : Named) (n : ℕ) (o : Open) → v.bank ≤ 1 → n < 16 → IsOpenAt told old app v n o
      → IsOpenAt told new app v n o
  open_stays v n o leb ltn at = record {
    configured = at.configured;
    placed = at.placed;
    used = record {
      memory = at.used.memory;
      disk = λ tells. (frame (stores.store_shape (store_in o)) old new
          (subst (λ (s : Shape). Spares (IsOfPlace s.place) old new) (sym at.placed)
          (spared tells v.bank n (config_in o) leb ltn))).in_use
          (store_in o).index (view_in (store_in o)) (at.used.disk tells);
    };
    kind = at.kind;
    shows = at.shows;
  }

  pub same_open_on : (root : Root) (next : Says) (slots : OpenSlots) → IsRootOf app root
      → active_in next ≡ active_in (root_says root) → AreOpenOn told old app (root_says root) slots
      → AreOpenOn told new app next slots
  same_open_on root next slots of same are = record {
    room = are.room;
    each = λ n o at. let x = are.each n o at in (
      x.0,
      same ∙ x.1,
      open_stays x.0 n o (active_bank app root x.0 of x.1)
          (subst (λ (k : ℕ). n < k) are.room (within slots.open.items n (Some o) at)) x.2,
    );
  }

module _ (storages : StorageFilesLaw) (told : Bool) (app : ℕ) (old new : Image) (lt : app < 8) where
  -- the files of a storage are no slots of the root
  pub beside_root : (IsTrue told → Spares (IsNoRootSlot app) old new) → IsTrue told → (bank n : ℕ) (s : StorageData)
      → bank ≤ 1 → n < 16 → Spares (IsOfPlace (storage_shape app bank n s).place) old new
  beside_root spared tells bank n s leb ltn f of =
      let inside = storages app bank n f s lt leb ltn of in
      let low = inside.0 in
      spared tells f (λ copy parity ltc ltp e. absurd (omega (arith, lt, low, ltc, ltp, e)))

  -- they are files of the application
  pub of_app : (IsTrue told → Spares (IsFileOf app) old new) → IsTrue told → (bank n : ℕ) (s : StorageData) → bank ≤ 1
      → n < 16 → Spares (IsOfPlace (storage_shape app bank n s).place) old new
  of_app spared tells bank n s leb ltn f of =
      let inside = storages app bank n f s lt leb ltn of in
      let low = inside.0 in
      let high = inside.1 in
      spared tells f (omega (arith, low), omega (arith, high, leb, ltn))

-- ---- all that is kept stays in use where no file of the application changes

module _ (frame : FrameLaw) (storages : StorageFilesLaw) (roots_stay : RootFrameLaw) (staged_stays : StagedFrameLaw)
    (told : Bool) (app : ℕ) (old new : Image) (lt : app < 8)
    (spared : IsTrue told → Spares (IsFileOf app) old new) where
  root_files : IsTrue told → Spares (IsRootFile app) old new
  root_files tells f is = let high = is.1 in spared tells f (is.0, omega (arith, high))

  stage_stays : (slots : OpenSlots) (stage : Stage) → IsStageAt told old app slots stage
      → IsStageAt told new app slots stage
  stage_stays slots ToOpen none = none
  stage_stays slots (AtRest root) is = record {
    below = is.below;
    root_at = roots_stay told app old new root lt root_files is.root_at;
    open_on = same_open_on frame told app old new (of_app storages told app old new lt spared) root (root_says root)
        slots is.root_at.memory refl is.open_on;
  }
  stage_stays slots (Updating s) is = (staged_stays told app old new s spared is.0, is.1)

pub stays_running : FrameLaw → StorageFilesLaw → RootFrameLaw → StagedFrameLaw
    → (told : Bool) (old new : Image) (r : Running) → (IsTrue told → Spares (IsFileOf r.app) old new)
    → IsRunning told old r → IsRunning told new r
stays_running frame storages roots_stay staged_stays told old new r spared is = record {
  below = is.below;
  stage_at = stage_stays frame storages roots_stay staged_stays told r.app old new is.below spared r.slots r.stage
      is.stage_at;
}

-- ---- what stays open after each call that writes the root

module _ (told : Bool) (app : ℕ) (old new : Image) (root : Root) (slots : OpenSlots)
    (resting : IsResting told old app root slots) where
  abbrev KeptOn : Result Outcome Stop → Type 0
  KeptOn made = IfOk made (λ o. o.refused ≡ None → AreOpenOn told new app (root_says o.root) slots)

  pub install_kept : (now : ℕ) (text : List ℕ) (made : Result Outcome Stop)
      → IfOk made (λ o. AnswersRow o.refused (installing now text (root_app root []))) → KeptOn made
  install_kept now text (Ok o) answers = λ none. none_open_on told old new app (root_says root) (root_says o.root) slots
      resting.open_on
      (closed_by_none told old app (root_says root) slots resting.open_on
      (install_active now text root (subst (λ (x : Option PerError).
      AnswersRow x (installing now text (root_app root []))) none answers)))
  install_kept now text (Err e) answers = tt

  pub finish_kept : FrameLaw → StorageFilesLaw → (IsTrue told → Spares (IsNoRootSlot app) old new)
      → (made : Result Outcome Stop) → IfOk made (λ o. AnswersRow o.refused (finishing (root_app root [])))
      → IfOk made (λ o. root_says o.root ≡ (after (root_app root []) (finishing (root_app root []))).says) → KeptOn made
  finish_kept frame storages spared (Ok o) answers says =
      λ none. same_open_on frame told app old new (beside_root storages told app old new resting.below spared) root
      (root_says o.root) slots resting.root_at.memory
      (ap active_in says ∙ finish_active root (subst (λ (x : Option PerError). AnswersRow x
      (finishing (root_app root [])))
      none answers)) resting.open_on
  finish_kept frame storages spared (Err e) answers says = tt

  -- where no storage is open
  module _ (busy : Option (List ℕ)) (busy_is : busy ≡ first_open (sessions_in slots) (active_storages (root_says root)))
    where
      pub free_kept : busy ≡ None → (next : Says) → AreOpenOn told new app next slots
      free_kept free next = none_open_on told old new app (root_says root) next slots resting.open_on
          (closed_by_free told old app (root_says root) slots resting.open_on (sym busy_is ∙ free))

      pub free_slots : busy ≡ None → (n : ℕ) (o : Open) → slice_get slots.open.items n ≡ Some (Some o) → ⊥
      free_slots free = closed_by_free told old app (root_says root) slots resting.open_on (sym busy_is ∙ free)

      pub rollback_kept : (made : Result Outcome Stop) → IfOk made
          (λ o. AnswersRow o.refused (rolling_back busy (root_app root []))) → KeptOn made
      rollback_kept (Ok o) answers = λ none. free_kept (rollback_free busy root
          (subst (λ (x : Option PerError). AnswersRow x (rolling_back busy (root_app root []))) none answers))
          (root_says o.root)
      rollback_kept (Err e) answers = tt

      pub wipe_kept : (made : Result Outcome Stop) → IfOk made
          (λ o. AnswersRow o.refused (wiping busy (root_app root [])))
          → KeptOn made
      wipe_kept (Ok o) answers = λ none. free_kept (wipe_free busy (root_app root [])
          (subst (λ (x : Option PerError). AnswersRow x (wiping busy (root_app root []))) none answers))
          (root_says o.root)
      wipe_kept (Err e) answers = tt

-- ---- no slot is taken

all_none : (xs : List (Option Open)) → ((n : ℕ) (o : Open) → slice_get xs n ≡ Some (Some o) → ⊥)
    → xs ≡ replicate {A = Option Open} (length xs) None
all_none [] none = refl
all_none (None ∷ xs) none = ap (λ (ys : List (Option Open)). None ∷ ys) (all_none xs (λ n o at. none (suc n) o at))
all_none (Some o ∷ xs) none = absurd (none 0 o refl)

pub none_taken : (slots : OpenSlots) → length slots.open.items ≡ 16
    → ((n : ℕ) (o : Open) → slice_get slots.open.items n ≡ Some (Some o) → ⊥) → NoneOpen slots
none_taken slots room none = all_none slots.open.items none ∙ ap (λ (n : ℕ). replicate {A = Option Open} n None) room

not_there : (count n : ℕ) (o : Open) → slice_get (replicate {A = Option Open} count None) n ≡ Some (Some o) → ⊥
not_there zero n o at = let e = sym (none_at {A = Option Open} n) ∙ at in cc
not_there (suc count) zero o at = cc
not_there (suc count) (suc n) o at = not_there count n o at

-- and so whatever the root says
pub open_by_none : (told : Bool) (image : Image) (app : ℕ) (says : Says) (slots : OpenSlots) → NoneOpen slots
    → AreOpenOn told image app says slots
open_by_none told image app says slots none = record {
  room = ap (λ (xs : List (Option Open)). length xs) none;
  each = λ n o at. absurd (not_there 16 n o (subst (λ (xs : List (Option Open)). slice_get xs n ≡ Some (Some o)) none
      at));
}
