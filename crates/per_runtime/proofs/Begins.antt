-- The start: the roots are opened one after another, wherever it ends.
use Rattle.std.specs.Prelude.{◌≡◌, ◌≢◌, ◌⊎◌, ◌≤◌, ◌<◌, ◌+◌, ◌*◌, ℕ, zero, suc, List, [], ◌∷◌, ◌++◌, length, map}
use Rattle.std.specs.Prelude.{replicate, Bool, false, IsTrue, Some, None, Ok, Err, slice_get, Vec}
use Rattle.std.proofs.Common.{refl, sym, ap, ◌∙◌, subst, inl, inr, ⊎_elim, le_refl, arith}
use Rattle.std.specs.declared.alloc.Global.{Global}
use Rattle.per_base.specs.Causes.{Rose}
use Rattle.disk_model.specs.Case.{Case}
use Rattle.disk_model.specs.Frame.{IsSettledOn, Spares}
use Rattle.disk_model.specs.Image.{Image}
use Rattle.disk_model.specs.Laws.{cases_on, elapses_on}
use Rattle.disk_model.specs.Medium.{Medium, Quiet, IsLawful, Elapses, OnlyReads, WritesNothing}
use Rattle.disk_model.specs.Place.{IsNoSlot}
use Rattle.deploy.specs.declared.errors.Stop.{Stop}
use Rattle.deploy.specs.declared.errors.Stop.TheVariants.{Device, OutOfMemory}
use Rattle.deploy_laws.specs.Apps.{App, app_at, IsCleanApp}
use Rattle.deploy_laws.specs.Places.{IsFileOf, root_place}
use Rattle.deploy_laws.specs.Stands.{IsLater, StandsCase, same_root}
use Rattle.deploy_rows.specs.Rows.{reopened}
use Rattle.deploy_rows.specs.Costs.{greatest_cost, manifests_at, root_cost}
use Rattle.run_model.specs.AppLaws.{AppLaws, OpensRoot}
use Rattle.run_model.specs.Costs.{roots_cost}
use Rattle.run_model.specs.Runtimes.{StartKeeps, Starts, with_disk}
use Rattle.run_model.specs.Runtimes as memory
use Rattle.run_model.specs.Starting.{OpenedUpTo, keeps_worlds, one_more_cost, open_next, open_none, opened_keeps}
use Rattle.run_model.specs.Starting.{none_written, one_left, some_cost, which}
use Rattle.run_model.specs.Turns.{DiskBytes, bytes_now}
use Rattle.run_model.specs.Worlds.{Application, all_resting, world_at}
use Rattle.run_model.specs.WriteLaws.{unchanged}
use Rattle.run_model.specs.Writes.{NeedsNothing}
use Rattle.per_runtime.specs.storages.Answers.{CallsTo}
use Rattle.per_runtime.specs.declared.application.running.Running.{Running}
use Rattle.per_runtime.specs.application.Running.{IsRunning, running_in}
use Rattle.per_runtime.specs.Begun.{AreOpened, HasBegun, IsBegun, fresh, idle}
use Rattle.per_runtime.specs.Memories.{AreRunning}
use Rattle.per_runtime.proofs.Lifted.{kept}
use Rattle.per_runtime.proofs.Places.{less_or_more, none_some, some_is}
use Rattle.per_runtime.proofs.Worlds.{StaysInUse, apart}

-- ---- each moment

is_reopened : (a : App) → IsLater a (reopened a)
is_reopened a = same_root refl refl

-- what is written where the sync failed, and where some roots were opened
pub unsynced_written : (old new : Medium) → OnlyReads old new → new.written ≤ old.written + 8 * greatest_cost
unsynced_written old new reads = let same = reads.written in omega (arith, same)

pub some_written : (was mid now app : ℕ) → app < 8 → mid ≤ was + app * greatest_cost → now ≤ mid + greatest_cost
    → now ≤ was + 8 * greatest_cost
some_written was mid now app lt before cost = omega (arith, lt, before, cost)

-- the same by what each root costs
unsynced_cost : (old new : Medium) → OnlyReads old new → new.written ≤ old.written + roots_cost old.image 8
unsynced_cost old new reads = let same = reads.written in omega (arith, same)

pub once_at : (k a : ℕ) (now new : Medium) → k ≡ a → new.written ≤ now.written + root_cost (manifests_at now.image k)
    → new.written ≤ now.written + root_cost (manifests_at now.image a)
once_at k a now new is once = subst (λ (n : ℕ). new.written ≤ now.written + root_cost (manifests_at now.image n)) is
    once

-- the sync failed
pub unsynced_keeps : (old new : Medium) → OnlyReads old new → StartKeeps old new
unsynced_keeps old new reads = keeps_worlds old new (λ b lt clean c s. inl (reads.during c s)) (inl reads)
    (λ f is. ap (λ (i : Image). i f) reads.image) (unsynced_cost old new reads)
    (λ b lt needs file of. ap (λ (i : Image). i file) reads.image)
    (λ all. unchanged (bytes_now old) (bytes_now new) reads.image reads.written)

-- what any opening promises, however it ends
abbrev pub IsOnTheWay : ℕ → (old new : Medium) → Type 0
IsOnTheWay a old new = (next : App) → IsLater (app_at old.image a) next → CallsTo a next old new

pub way_at : (k a : ℕ) (old new : Medium) → k ≡ a → IsOnTheWay k old new → IsOnTheWay a old new
way_at k a old new is way = subst (λ (n : ℕ). IsOnTheWay n old new) is way

pub slots_at : (k a : ℕ) (old new : Medium) → k ≡ a → Spares (IsNoSlot (root_place k)) old.image new.image
    → Spares (IsNoSlot (root_place a)) old.image new.image
slots_at k a old new is slots = subst (λ (n : ℕ). Spares (IsNoSlot (root_place n)) old.image new.image) is slots

-- an opening of a root that needed nothing wrote nothing
abbrev pub NeededNothing : ℕ → (old new : Medium) → Type 0
NeededNothing a old new = NeedsNothing old.image a → bytes_now new ≡ bytes_now old

pub already_at : (k a : ℕ) (old new : Medium) → k ≡ a → NeededNothing k old new → NeededNothing a old new
already_at k a old new is already = subst (λ (n : ℕ). NeededNothing n old new) is already

pub root_at : (k a : ℕ) (old new : Medium) → k ≡ a → OpensRoot k old new → OpensRoot a old new
root_at k a old new is opens = subst (λ (n : ℕ). OpensRoot n old new) is opens

-- the opening of one root failed, or memory ran out in it
pub stops_at : AppLaws → (told : Bool) (a : ℕ) (old now new : Medium) → a < 8 → IsLawful told new → OpenedUpTo a old now
    → Elapses now new → IsOnTheWay a now new → Spares (IsNoSlot (root_place a)) now.image new.image
    → new.written ≤ now.written + root_cost (manifests_at now.image a) → NeededNothing a now new → StartKeeps old new
stops_at laws told a old now new lta lawful o time way slots cost already = keeps_worlds old new
    (λ b lt clean c s. ⊎_elim
    (λ was. o.moments b lt clean c was)
    (λ at. inr (here b lt clean c at (which a b)))
    (cases_on o.time time c s))
    (inr (λ b lt clean c at. here b lt clean c (lawful.counts_now now.moment c time.later at) (which a b)))
    (λ f is. slots f (is a lta) ∙ o.roots f is)
    (some_cost old.image old.written new.written (a + 1) (omega (arith, lta))
    (one_more_cost old.image now.image old.written now.written new.written a (o.kept a (le_refl a) lta) o.written cost))
    (one_left a old.image now.image new.image lta (o.closed a (le_refl a) lta) o.left slots
    (λ needs. ap (λ (b : DiskBytes). b.image) (already needs)))
    (none_written a old now new lta o.already already)
  where
    calls : CallsTo a (reopened (app_at now.image a)) now new
    calls = way (reopened (app_at now.image a)) (is_reopened (app_at now.image a))

    below_or : (b : ℕ) → a ≢ b → (b < a) ⊎ (a ≤ b)
    below_or b differs = ⊎_elim (λ (less : a < b). inr (omega (arith, less))) (λ more. inl more)
        (less_or_more a b differs)

    rest : (b : ℕ) → b < 8 → IsCleanApp b now.image → (c : Case) → IsSettledOn (IsFileOf b) now.image c
        → (b < a) ⊎ (a ≤ b)
        → StandsCase b (app_at old.image b) (reopened (app_at old.image b)) c
    rest b lt clean c s (inl below) = λ is_sound damaged image decays.
        laws.mend b image damaged (app_at old.image b) (reopened (app_at old.image b))
        ((subst (λ x. StandsCase b x x c) (o.opened b below lt)
        (laws.still b now.image (app_at now.image b) c lt clean s (same_root refl refl))) is_sound damaged image
        decays)
    rest b lt clean c s (inr above) = subst (λ x. StandsCase b x (reopened x) c) (o.closed b above lt)
        (laws.still b now.image (reopened (app_at now.image b)) c lt clean s (is_reopened (app_at now.image b)))

    here : (b : ℕ) → b < 8 → IsCleanApp b old.image → (c : Case) → new.since now.moment c → (a ≡ b) ⊎ (a ≢ b)
        → StandsCase b (app_at old.image b) (reopened (app_at old.image b)) c
    here b lt clean c at (inl e) = subst (λ (n : ℕ). StandsCase n (app_at old.image n) (reopened (app_at old.image n))
        c) e
        (subst (λ x. StandsCase a x (reopened x) c) (o.closed a (le_refl a) lta)
        (calls.any_moment o.quiet (o.clean a lta (subst (λ (n : ℕ). IsCleanApp n old.image) (sym e) clean)) c at))
    here b lt clean c at (inr differs) = rest b lt (o.clean b lt clean) c
        (laws.others_case a b now.image c differs (calls.outside o.quiet c at)) (below_or b differs)

-- ---- how it ended

pub stopped_by : (told : Bool) (old new : Medium) (stop : Stop) → (stop ≡ Device → Rose old.faults new.faults)
    → (stop ≡ OutOfMemory → new.faults ≡ old.faults) → HasBegun told old new (Err stop)
stopped_by told old new Device cause fed = cause refl
stopped_by told old new OutOfMemory cause fed = fed refl

-- ---- one more

pub none_opened : AppLaws → (told : Bool) (old now : Medium) → Quiet now → WritesNothing old now → Elapses old now
    → now.faults ≡ old.faults → AreOpened told 0 [] old now
none_opened laws told old now quiet nothing time passes = record {
  many = refl;
  each = λ k a there. absurd (none_some a there);
  opened = λ tells. open_none laws old now time nothing quiet;
  quiet = quiet;
  passes = passes;
  written = let same = nothing.written in omega (arith, same);
  time = time;
}

at_end : (xs : List Running) (x : Running) (k : ℕ) (y : Running) → slice_get (xs ++ x ∷ []) k ≡ Some y
    → (slice_get xs k ≡ Some y) ⊎ ((k ≡ length xs) × (x ≡ y))
at_end [] x zero y e = inr (refl, some_is x y e)
at_end [] x (suc k) y e = absurd (none_some y e)
at_end (z ∷ zs) x zero y e = inl e
at_end (z ∷ zs) x (suc k) y e = ⊎_elim (λ was. inl was) (λ last. inr (ap suc last.0, last.1)) (at_end zs x k y e)

length_more : (xs : List Running) (x : Running) → length (xs ++ x ∷ []) ≡ length xs + 1
length_more [] x = refl
length_more (z ∷ zs) x = let more = length_more zs x in omega (arith, more)

pub one_opened : AppLaws → StaysInUse → (told : Bool) (a : ℕ) (apps : List Running) (b : Running) (old now new : Medium)
    → a < 8 → AreOpened told a apps old now
    → b.app ≡ a → IsRunning told new.image b → running_in b ≡ idle → (IsTrue told → OpensRoot a now new)
    → (IsTrue told → IsOnTheWay a now new) → Quiet new → Elapses now new
    → new.faults ≡ now.faults → new.written ≤ now.written + greatest_cost → AreOpened told (a + 1) (apps ++ b ∷ []) old new
one_opened laws stays told a apps b old now new lt are number used rests opens way quiet time passes cost = record {
  many = length_more apps b ∙ ap (λ (n : ℕ). n + 1) are.many;
  each = λ k x there. ⊎_elim
      (λ was. before k x was)
      (λ last. subst (λ (y : Running). (y.app ≡ k) × IsRunning told new.image y × (running_in y ≡ idle)) last.1
      (number ∙ sym (last.0 ∙ are.many), used, rests))
      (at_end apps b k x there);
  opened = λ tells. open_next laws a old now new lt (are.opened tells) (opens tells);
  quiet = quiet;
  passes = passes ∙ are.passes;
  written = let before = are.written in omega (arith, before, cost);
  time = elapses_on are.time time;
}
  where
    within : (xs : List Running) (k : ℕ) (x : Running) → slice_get xs k ≡ Some x → k < length xs
    within [] k x e = absurd (none_some x e)
    within (y ∷ ys) zero x e = omega arith
    within (y ∷ ys) (suc k) x e = let less = within ys k x e in omega (arith, less)

    before : (k : ℕ) (x : Running) → slice_get apps k ≡ Some x
        → (x.app ≡ k) × IsRunning told new.image x × (running_in x ≡ idle)
    before k x there = let was = are.each k x there in let less = within apps k x there in (
      was.0,
      stays told now.image new.image x (λ tells f inside.
          (way tells (reopened (app_at now.image a)) (is_reopened (app_at now.image a))).elsewhere f
          (apart a k f (λ e. omega (arith, e, less, are.many)) (subst (λ (j : ℕ). IsFileOf j f) was.0 inside))) was.1,
      was.2,
    )

-- ---- all eight

pub all_in_use : (told : Bool) (apps : List Running) (old now : Medium) → AreOpened told 8 apps old now
    → AreRunning told now.image apps
all_in_use told apps old now are = record {
  eight = are.many;
  each = λ k a there. let is =
      are.each k a there in (is.0, is.1);
}

all_idle : (apps : List Running) → ((k : ℕ) (a : Running) → slice_get apps k ≡ Some a → running_in a ≡ idle)
    → map running_in apps ≡ replicate (length apps) idle
all_idle [] each = refl
all_idle (a ∷ apps) each = ap (λ (r : memory.Running). r ∷ map running_in apps) (each 0 a refl)
    ∙ ap (λ (rs : List memory.Running). idle ∷ rs) (all_idle apps (λ k b there. each (suc k) b there))

idle_world : (disk disk' : ℕ → App) (first count : ℕ) → ((b : ℕ) → first ≤ b → b < first + count
    → disk' b ≡ reopened (disk b))
    → with_disk disk' first (replicate count idle) ≡ map (λ (a : Application). record a { disk = reopened a.disk })
    (all_resting disk first count)
idle_world disk disk' first zero same = refl
idle_world disk disk' first (suc count) same = ap (λ (d : App).
    record { disk = d; stage = idle.stage; sessions = idle.sessions }
    ∷ with_disk disk' (first + 1) (replicate count idle)) (same first (le_refl first) (omega arith))
    ∙ ap (λ (xs : List Application). record {
      disk = reopened (disk first);
      stage = idle.stage;
      sessions =
          idle.sessions;
    } ∷ xs)
    (idle_world disk disk' (first + 1) count (λ b le lt. same b (omega (arith, le)) (omega (arith, lt))))

pub idle_apps : (told : Bool) (apps : List Running) (old now : Medium) → AreOpened told 8 apps old now
    → map running_in apps ≡ replicate 8 idle
idle_apps told apps old now are = all_idle apps (λ k a there. (are.each k a there).2)
    ∙ ap (λ (n : ℕ). replicate n idle) are.many

pub fresh_by : (told : Bool) (apps : List Running) (old now : Medium) → AreOpened told 8 apps old now
    → kept 0 apps false ≡ fresh
fresh_by told apps old now are = ap (λ (rs : List memory.Running). record { now = 0; apps = rs; in_doubt = false })
    (idle_apps told apps old now are)

pub starts_by : (told : Bool) (apps : List Running) (old now : Medium) → IsTrue told → AreOpened told 8 apps old now
    → StartKeeps old now → Starts (record { now = 0; apps = map running_in apps; in_doubt = false }) old now
unfolding world_at
starts_by told apps old now tells are keeps =
    let same : map running_in apps ≡ replicate 8 idle = idle_apps told apps old now are in
    record {
      eight = ap length same;
      sure = refl;
      world = ap (λ (xs : List Application). record { now = 0; apps = xs; doubt = None })
          (ap (with_disk (app_at now.image) 0) same
          ∙ idle_world (app_at old.image) (app_at now.image) 0 8 (λ b le lt. (are.opened tells).opened b lt lt));
      quiet = are.quiet;
      clean = λ b lt clean. (are.opened tells).clean b lt clean;
      keeps = keeps;
    }

pub all_begun : AppLaws → (told : Bool) (count : ℕ) (apps : Vec Running Global) (old now : Medium) → count ≡ 8
    → AreOpened told count apps.items old now → IsBegun told old now (Ok apps)
all_begun laws told count apps old now all are = let eight : AreOpened told 8 apps.items old now =
    subst (λ (n : ℕ). AreOpened told n apps.items old now) all are in record {
      end = eight;
      keeps = λ tells. opened_keeps laws 8 old now (omega arith) (eight.opened tells);
      written = eight.written;
      time = eight.time;
    }
