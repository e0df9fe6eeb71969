-- A command changes one application: the world after it, and what it answers, from that application alone.
use Rattle.std.specs.Prelude.{◌≡◌, ◌≢◌, ◌≤◌, ◌<◌, ℕ, zero, suc, ◌+◌, List, [], ◌∷◌, length, slice_get, slice_set}
use Rattle.std.specs.Prelude.{replicate, Bool, true, false, cond, ◌&&◌, ◌||◌, Option, Some, None, is_none, Result, Ok}
use Rattle.std.specs.Prelude.{IsTrue, option_map}
use Rattle.std.proofs.Common.{refl, sym, ap, ◌∙◌, subst, le_refl, inl, inr, arith, true≢false}
use Rattle.per_base.specs.declared.errors.PerError.{PerError}
use Rattle.command_text.specs.declared.calls.Call.{Call}
use Rattle.command_text.specs.declared.calls.Event.TheVariants as event
use Rattle.command_text.specs.declared.replies.Reply.{Reply}
use Rattle.deploy_laws.specs.Apps.{App, app_at}
use Rattle.deploy_rows.specs.Rows.{reopened}
use Rattle.run_model.specs.Converters.{Converters}
use Rattle.run_model.specs.Found.{FoundStorage, storage_in}
use Rattle.run_model.specs.Sessions.{Session}
use Rattle.run_model.specs.Worlds.{Application, World, Stage, to_open, at_rest, updating, is_to_open, update_in}
use Rattle.run_model.specs.Worlds.{or_idle, app_of, with_app, application_at}
use Rattle.run_model.specs.Runtimes.{Running, with_disk}
use Rattle.run_model.specs.Calls.{Outcome, if_open, session_at, beside_update}
use Rattle.run_model.specs.Steps.{Step, StepsTo, FailsElsewhere, FailsAs, AppStep, doubt_after, calls_device}
use Rattle.run_model.specs.Steps.{uses_device}
use Rattle.run_model.specs.Steps.{root_opened, passes_refusals, reaches_device, after_failure, device_storage}

-- ---- lists

get_set : {A : Type 0} → (xs : List A) (n : ℕ) (x : A) → n < length xs → slice_get (slice_set xs n x) n ≡ Some x
get_set [] n x less = absurd (omega (arith, less))
get_set (y ∷ ys) zero x less = refl
get_set (y ∷ ys) (suc n) x less = get_set ys n x (omega (arith, less))

get_set_other : {A : Type 0} → (xs : List A) (n k : ℕ) (x : A) → k ≢ n → slice_get (slice_set xs n x) k
    ≡ slice_get xs k
get_set_other [] n k x differs = refl
get_set_other (y ∷ ys) zero zero x differs = absurd (differs refl)
get_set_other (y ∷ ys) zero (suc k) x differs = refl
get_set_other (y ∷ ys) (suc n) zero x differs = refl
get_set_other (y ∷ ys) (suc n) (suc k) x differs = get_set_other ys n k x (λ e. differs (ap suc e))

-- ---- the memory of one application

-- an application, of what is on the disk and what is kept in memory
abbrev pub as_app : App → Running → Application
as_app disk r = record { disk = disk; stage = r.stage; sessions = r.sessions }

-- where the disk says the same of all applications from here on, so do the worlds
same_disks : (disk disk' : ℕ → App) (first : ℕ) (rs : List Running) → ((b : ℕ) → first ≤ b → disk' b ≡ disk b)
    → with_disk disk' first rs ≡ with_disk disk first rs
same_disks disk disk' first [] same = refl
same_disks disk disk' first (r ∷ rs) same = ap (λ (d : App). as_app d r ∷ with_disk disk' (first + 1) rs)
    (same first (le_refl first))
    ∙ ap (λ (xs : List Application). as_app (disk first) r ∷ xs)
    (same_disks disk disk' (first + 1) rs (λ b le. same b (omega (arith, le))))

-- with the memory of one application set, and the disk changed for it alone, the applications are as before but for
-- that one
pub one_app : (disk disk' : ℕ → App) (first app : ℕ) (rs : List Running) (r : Running)
    → ((b : ℕ) → b ≢ first + app → disk' b ≡ disk b)
    → with_disk disk' first (slice_set rs app r) ≡ slice_set (with_disk disk first rs) app
    (as_app (disk' (first + app)) r)
one_app disk disk' first app [] r same = refl
one_app disk disk' first zero (s ∷ rs) r same =
    let here : first ≡ first + 0 = omega arith in
    ap (λ (n : ℕ). as_app (disk' n) r ∷ with_disk disk' (first + 1) rs) here
    ∙ ap (λ (xs : List Application). as_app (disk' (first + 0)) r ∷ xs)
    (same_disks disk disk' (first + 1) rs (λ b le. same b (λ e. omega (arith, le, e))))
one_app disk disk' first (suc app) (s ∷ rs) r same =
    let there : (first + 1) + app ≡ first + suc app = omega arith in
    ap (λ (d : App). as_app d s ∷ with_disk disk' (first + 1) (slice_set rs app r))
    (same first (λ e. omega (arith, e)))
    ∙ ap (λ (xs : List Application). as_app (disk first) s ∷ xs)
    (one_app disk disk' (first + 1) app rs r (λ b differs. same b (λ e. differs (e ∙ sym there)))
    ∙ ap (λ (n : ℕ). slice_set (with_disk disk (first + 1) rs) app (as_app (disk' n) r)) there)

-- ---- what is answered

set_app : (w : World) (app : ℕ) (a : Application) → app < length w.apps → app_of (with_app w app a) app ≡ a
set_app w app a less = ap or_idle (get_set w.apps app a less)

set_other : (w : World) (app other : ℕ) (a : Application) → other ≢ app
    → app_of (with_app w app a) other ≡ app_of w other
set_other w app other a differs = ap or_idle (get_set_other w.apps app other a differs)

-- two worlds that agree on an application and on the moment answer it alike, and lead it to the same
pub answers_alike : (converters : Converters) (v w v' : World) (app : ℕ) (c : Call) (reply : Reply)
    → app < length v.apps → app < length w.apps
    → app_of v app ≡ app_of w app → v.now ≡ w.now → Step converters v (event.App app c) reply v'
    → (w' : World) × Step converters w (event.App app c) reply w' × (app_of w' app ≡ app_of v' app)
answers_alike converters v w v' app c reply in_v in_w same now step =
    let outcome : Outcome = step.0 in
    let w' : World = record (with_app w app outcome.1) { doubt = doubt_after (calls_device (app_of w app) c) w.doubt }
    in (
      w',
      (
        outcome,
        subst (λ (r : Application). AppStep converters (application_at app w.now r) c outcome) same
            (subst (λ (n : ℕ). AppStep converters (application_at app n (app_of v app)) c outcome) now step.1),
        step.2,
        refl,
      ),
      ap or_idle (get_set w.apps app outcome.1 in_w) ∙ sym
          (ap (λ (u : World). app_of u app) step.3 ∙ ap or_idle (get_set v.apps app outcome.1 in_v)),
    )

-- a command leaves every other application as it was, however it is answered
pub others_stay : (converters : Converters) (w w' : World) (app other : ℕ) (c : Call) (reply : Reply)
    → other ≢ app
    → StepsTo converters w (event.App app c) reply w' → app_of w' other ≡ app_of w other
others_stay converters w w' app other c reply differs (inl step) =
    ap (λ (u : World). app_of u other) step.3 ∙ ap or_idle (get_set_other w.apps app other step.0.1 differs)
others_stay converters w w' app other c reply differs (inr (inl fails)) = ap (λ (u : World). app_of u other) fails.2
others_stay converters w w' app other c reply differs (inr (inr fails)) =
    ap (λ (u : World). app_of u other) fails.6 ∙ ap or_idle (get_set_other w.apps app other fails.0 differs)

-- ---- a doubt stays without a sync

and_true : (a b : Bool) → IsTrue (a && b) → a ≡ true
and_true true b both = refl
and_true false b both = absurd (true≢false (sym both))

or_false : (a b : Bool) → (a || b) ≡ false → (a ≡ false) × (b ≡ false)
or_false true b e = absurd (true≢false e)
or_false false b e = (refl, e)

not_both : (b : Bool) → b ≡ true → b ≡ false → ⊥
not_both b holds fails = true≢false (sym holds ∙ fails)

-- a root that is not to be opened is not opened
not_opened : (r : Application) → is_to_open r.stage ≡ false → root_opened r ≡ r
not_opened r rests = ap (λ (b : Bool). cond b (record r { disk = reopened r.disk; stage = at_rest }) r) rests

reaches_uses : (app now : ℕ) (r : Application) (c : Call) → IsTrue (reaches_device app r now c)
    → uses_device r.disk c ≡ true
reaches_uses app now r c reaches = and_true (uses_device r.disk c) (is_none (beside_update (update_in r.stage) c))
    (and_true (uses_device r.disk c && is_none (beside_update (update_in r.stage) c))
    (passes_refusals app r now c) reaches)

-- a command that calls no device does not fail at it
never_fails : (app now : ℕ) (a : App) (r : Application) (c : Call) (r' : Application) → calls_device r c ≡ false
    → FailsAs app now a r c r' → ⊥
never_fails app now a r c r' calm (inl fails) = not_both (is_to_open r.stage) fails.0
    (or_false (is_to_open r.stage) (uses_device r.disk c) calm).0
never_fails app now a r c r' calm (inr fails) = not_both (uses_device r.disk c)
    (subst (λ (x : Application). uses_device x.disk c ≡ true)
    (not_opened r (or_false (is_to_open r.stage) (uses_device r.disk c) calm).0)
    (reaches_uses app now (root_opened r) c fails.0))
    (or_false (is_to_open r.stage) (uses_device r.disk c) calm).1

-- a command that calls no device ends no doubt and makes none, also where it is refused
pub doubt_stays : (converters : Converters) (w w' : World) (app : ℕ) (c : Call) (reply : Reply)
    → calls_device (app_of w app) c ≡ false
    → StepsTo converters w (event.App app c) reply w' → w'.doubt ≡ w.doubt
doubt_stays converters w w' app c reply calm (inl step) =
    ap (λ (u : World). u.doubt) step.3 ∙ ap (λ (b : Bool). doubt_after b w.doubt) calm
doubt_stays converters w w' app c reply calm (inr (inl fails)) = ap (λ (u : World). u.doubt) fails.2
doubt_stays converters w w' app c reply calm (inr (inr fails)) =
    absurd (never_fails app w.now (app_at fails.2.left app) (app_of w app) c fails.0 calm fails.3)

-- ---- a session ends where its storage's command fails at the device

pub none_there : (count n : ℕ) → if_open (slice_get (replicate {A = Option Session} count None) n) ≡ None
none_there zero n = refl
none_there (suc count) zero = refl
none_there (suc count) (suc n) = none_there count n

none_set : (ss : List (Option Session)) (n : ℕ) → if_open (slice_get (slice_set ss n None) n) ≡ None
none_set [] n = refl
none_set (s ∷ ss) zero = refl
none_set (s ∷ ss) (suc n) = none_set ss n

-- a root that is opened names the same storages, in the same states
found_by : (disk : App) (stage : Stage) (slots : List (Option Session)) (name : List ℕ)
    → storage_in (root_opened (record { disk = disk; stage = stage; sessions = slots })).disk name None
    ≡ storage_in disk name None
found_by disk to_open slots name = refl
found_by disk at_rest slots name = refl
found_by disk (updating p) slots name = refl

found_reopened : (r : Application) (name : List ℕ) → storage_in (root_opened r).disk name None
    ≡ storage_in r.disk name None
found_reopened r name = found_by r.disk r.stage r.sessions name

pub session_ends : (converters : Converters) (w w' : World) (app : ℕ) (c : Call) (reply : Reply)
    (name : List ℕ) (f : FoundStorage) → app < length w.apps
    → device_storage c ≡ Some name → storage_in (app_of w app).disk name None ≡ Ok f
    → FailsElsewhere converters w (event.App app c) reply w'
    → session_at (app_of w' app) f.number ≡ None
session_ends converters w w' app c reply name f less named found fails =
    ap (λ (u : World). session_at (app_of u app) f.number) fails.6
    ∙ ap (λ (r : Option Application). session_at (or_idle r) f.number) (get_set w.apps app fails.0 less)
    ∙ ended fails.3
  where
    ended : FailsAs app w.now (app_at fails.2.left app) (app_of w app) c fails.0 → session_at fails.0 f.number ≡ None
    ended (inl root) = ap (λ (r : Application). session_at r f.number) root.1 ∙ none_there 16 f.number
    ended (inr call) = ap (λ (r : Application). session_at r f.number) call.1
        ∙ ap (λ (found' : Option (Result FoundStorage PerError)).
        session_at (after_failure (app_at fails.2.left app) (root_opened (app_of w app)) found') f.number)
        (ap (λ (n : Option (List ℕ)). option_map (λ m. storage_in (root_opened (app_of w app)).disk m None) n) named
        ∙ ap (λ (r : Result FoundStorage PerError). Some r) (found_reopened (app_of w app) name ∙ found))
        ∙ none_set (root_opened (app_of w app)).sessions f.number
