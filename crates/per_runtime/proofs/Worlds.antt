-- The world that the runtime makes with an image: each application of it, and one of them set.
use Rattle.std.specs.Prelude.{◌≡◌, ◌≢◌, ◌⊎◌, ◌≤◌, ◌<◌, ◌+◌, ℕ, zero, suc, List, [], ◌∷◌, length, map, Bool, IsTrue}
use Rattle.std.specs.Prelude.{Option, Some, None, slice_get, slice_set, option_map}
use Rattle.std.specs.List.{AllByRecursion}
use Rattle.std.proofs.Common.{refl, sym, ap, ◌∙◌, subst, ⊎_elim, inl, inr, arith}
use Rattle.std.proofs.lemmas.List.{length-map, map-set}
use Rattle.std.proofs.lemmas.Option.{slice_get-map}
use Rattle.disk_model.specs.Frame.{Spares}
use Rattle.disk_model.specs.Image.{Image}
use Rattle.deploy_laws.specs.Places.{IsFileOf, IsNoFileOf}
use Rattle.deploy_laws.specs.Apps.{App, app_at}
use Rattle.run_model.specs.Later.{set_length}
use Rattle.run_model.specs.Lasting.{IsApplication, IsWorld}
use Rattle.run_model.specs.OneApp.{as_app}
use Rattle.run_model.specs.Runtimes.{with_disk}
use Rattle.run_model.specs.Runtimes as memory
use Rattle.run_model.specs.Starting.{which}
use Rattle.run_model.specs.Worlds.{Application, World, Disks, Doubt, disks, disk_at, or_none, or_idle, resting, app_of}
use Rattle.run_model.specs.Worlds.{with_app, all_resting, world_at, after_run}
use Rattle.per_runtime.specs.declared.application.running.Running.{Running}
use Rattle.per_runtime.specs.application.Running.{IsRunning, application, running_in}
use Rattle.per_runtime.specs.Memories.{AreRunning}
use Rattle.per_runtime.proofs.Places.{get_set, get_set_other, less_or_more, none_some, some_is}

-- what the runtime keeps makes this world, whether it is in doubt or not
abbrev pub world : Image → (now : ℕ) → List Running → Option Doubt → World
world image now apps doubt = record {
  now = now;
  apps = with_disk (app_at image) 0 (map running_in apps);
  doubt =
      doubt;
}

-- ---- lists of applications

with_get : (disk : ℕ → App) (first : ℕ) (rs : List memory.Running) (n : ℕ) (r : memory.Running)
    → slice_get rs n ≡ Some r
    → slice_get (with_disk disk first rs) n ≡ Some (as_app (disk (first + n)) r)
with_get disk first [] n r e = absurd (none_some r e)
with_get disk first (s ∷ rs) zero r e = let same : s ≡ r = cc in let here : first ≡ first + 0 = omega arith in
    ap (λ (x : memory.Running). Some (as_app (disk first) x)) same ∙ ap (λ (k : ℕ). Some (as_app (disk k) r)) here
with_get disk first (s ∷ rs) (suc n) r e = let there : (first + 1) + n ≡ first + suc n = omega arith in
    with_get disk (first + 1) rs n r e ∙ ap (λ (k : ℕ). Some (as_app (disk k) r)) there

disk_there : (disk : ℕ → App) (first : ℕ) (rs : List memory.Running) (b : ℕ) → b < length rs
    → disk_at (map (λ (a : Application). a.disk) (with_disk disk first rs)) b ≡ disk (first + b)
disk_there disk first [] b lt = absurd (omega (arith, lt))
disk_there disk first (r ∷ rs) zero lt = ap disk (omega arith)
disk_there disk first (r ∷ rs) (suc b) lt = let less : b < length rs =
    omega (arith, lt) in disk_there disk (first + 1) rs b less ∙ ap disk (omega arith)

rest_there : (disk : ℕ → App) (first : ℕ) (rs : List memory.Running)
    → all_resting disk first (length rs) ≡ map (λ (a : Application). resting a.disk) (with_disk disk first rs)
rest_there disk first [] = refl
rest_there disk first (r ∷ rs) = ap (λ (xs : List Application). resting (disk first) ∷ xs)
    (rest_there disk (first + 1) rs)

same_there : (disk disk' : ℕ → App) (first : ℕ) (rs : List memory.Running)
    → ((b : ℕ) → first ≤ b → b < first + length rs → disk' b ≡ disk b)
    → with_disk disk' first rs ≡ with_disk disk first rs
same_there disk disk' first [] same = refl
same_there disk disk' first (r ∷ rs) same = ap (λ (d : App). as_app d r ∷ with_disk disk' (first + 1) rs)
    (same first (omega arith) (omega arith))
    ∙ ap (λ (xs : List Application). as_app (disk first) r ∷ xs)
    (same_there disk disk' (first + 1) rs (λ b le lt. same b (omega (arith, le)) (omega (arith, lt))))

-- with the memory of one application set, and the disk changed for it alone, the applications are as before but for
-- that one
set_there : (disk disk' : ℕ → App) (first n : ℕ) (rs : List memory.Running) (r : memory.Running)
    → ((b : ℕ) → first ≤ b → b < first + length rs → b ≢ first + n → disk' b ≡ disk b)
    → with_disk disk' first (slice_set rs n r) ≡ slice_set (with_disk disk first rs) n (as_app (disk' (first + n)) r)
set_there disk disk' first n [] r same = refl
set_there disk disk' first zero (s ∷ rs) r same = let here : first ≡ first + 0 = omega arith in
    ap (λ (k : ℕ). as_app (disk' k) r ∷ with_disk disk' (first + 1) rs) here
    ∙ ap (λ (xs : List Application). as_app (disk' (first + 0)) r ∷ xs)
    (same_there disk disk' (first + 1) rs (λ b le lt. same b (omega (arith, le)) (omega (arith, lt))
    (λ e. omega (arith, le, e))))
set_there disk disk' first (suc n) (s ∷ rs) r same = let there : (first + 1) + n ≡ first + suc n = omega arith in
    ap (λ (d : App). as_app d s ∷ with_disk disk' (first + 1) (slice_set rs n r))
    (same first (omega arith) (omega arith) (λ e. omega (arith, e)))
    ∙ ap (λ (xs : List Application). as_app (disk first) s ∷ xs)
    (set_there disk disk' (first + 1) n rs r (λ b le lt differs.
    same b (omega (arith, le)) (omega (arith, lt)) (λ e. differs (e ∙ sym there)))
    ∙ ap (λ (k : ℕ). slice_set (with_disk disk (first + 1) rs) n (as_app (disk' k) r)) there)

-- ---- one application of a world

from_none : (n : ℕ) → 0 + n ≡ n
from_none n = omega arith

get_running : (apps : List Running) (n : ℕ) (a : Running) → slice_get apps n ≡ Some a
    → slice_get (map running_in apps) n ≡ Some (running_in a)
get_running apps n a there = slice_get-map running_in apps n ∙ ap (option_map running_in) there

there_in : (image : Image) (apps : List Running) (n : ℕ) (a : Running) → slice_get apps n ≡ Some a → a.app ≡ n
    → slice_get (with_disk (app_at image) 0 (map running_in apps)) n ≡ Some (application image a)
there_in image apps n a there number = with_get (app_at image) 0 (map running_in apps) n (running_in a)
    (get_running apps n a there)
    ∙ ap (λ (k : ℕ). Some (as_app (app_at image k) (running_in a))) (from_none n ∙ sym number)

pub app_is : (image : Image) (now : ℕ) (apps : List Running) (doubt : Option Doubt) (n : ℕ) (a : Running)
    → slice_get apps n ≡ Some a → a.app ≡ n
    → app_of (world image now apps doubt) n ≡ application image a
app_is image now apps doubt n a there number = ap or_idle (there_in image apps n a there number)

length_in : (apps : List Running) → length apps ≡ 8 → length (map running_in apps) ≡ 8
length_in apps eight = length-map apps running_in ∙ eight

-- the image denotes what the world says of each application
pub disk_is : (image : Image) (now : ℕ) (apps : List Running) (doubt : Option Doubt) → length apps ≡ 8 → (b : ℕ) → b < 8
    → app_at image b ≡ disk_at (disks (world image now apps doubt)) b
disk_is image now apps doubt eight b lt = let less : b < length (map running_in apps) =
    omega (arith, lt, length_in apps eight) in
    sym (disk_there (app_at image) 0 (map running_in apps) b less ∙ ap (app_at image) (from_none b))

-- and what is on the disk of it is among what is on the disk
pub disk_in : (image : Image) (now : ℕ) (apps : List Running) (doubt : Option Doubt) (n : ℕ) (a : Running)
    → slice_get apps n ≡ Some a → a.app ≡ n
    → slice_get (disks (world image now apps doubt)) n ≡ Some (app_at image n)
disk_in image now apps doubt n a there number = slice_get-map (λ (x : Application). x.disk)
    (with_disk (app_at image) 0 (map running_in apps)) n
    ∙ ap (option_map (λ (x : Application). x.disk)) (there_in image apps n a there number)
    ∙ ap (λ (k : ℕ). Some (app_at image k)) number

pub with_length : (disk : ℕ → App) (first : ℕ) (rs : List memory.Running) → length (with_disk disk first rs) ≡ length rs
with_length disk first [] = refl
with_length disk first (r ∷ rs) = ap suc (with_length disk (first + 1) rs)

pub apps_length : (image : Image) (apps : List Running) → length apps ≡ 8
    → length (with_disk (app_at image) 0 (map running_in apps)) ≡ 8
apps_length image apps eight = with_length (app_at image) 0 (map running_in apps) ∙ length_in apps eight

pub disks_length : (image : Image) (now : ℕ) (apps : List Running) (doubt : Option Doubt) → length apps ≡ 8
    → length (disks (world image now apps doubt)) ≡ 8
disks_length image now apps doubt eight = length-map (with_disk (app_at image) 0 (map running_in apps))
    (λ (x : Application). x.disk) ∙ apps_length image apps eight

-- ---- one application set

pub world_is : (old new : Image) (now n : ℕ) (apps : List Running) (a' : Running) (doubt doubt' : Option Doubt)
    → length apps ≡ 8 → a'.app ≡ n
    → ((b : ℕ) → b < 8 → b ≢ n → app_at new b ≡ app_at old b)
    → world new now (slice_set apps n a') doubt' ≡ record (with_app (world old now apps doubt) n
    (application new a')) { doubt = doubt' }
world_is old new now n apps a' doubt doubt' eight number same =
    ap (λ (xs : List Application). record { now = now; apps = xs; doubt = doubt' })
    (ap (with_disk (app_at new) 0) (map-set running_in apps n a')
    ∙ set_there (app_at old) (app_at new) 0 n (map running_in apps) (running_in a')
    (λ b le lt differs. same b (omega (arith, lt, length_in apps eight)) (λ e. differs (e ∙ sym (from_none n))))
    ∙ ap (λ (k : ℕ). slice_set (with_disk (app_at old) 0 (map running_in apps)) n
    (as_app (app_at new k) (running_in a'))) (from_none n ∙ sym number))

-- what is on the disk then
pub disks_set : (w : World) (n : ℕ) (x : Application) (doubt : Option Doubt)
    → disks (record (with_app w n x) { doubt = doubt }) ≡ slice_set (disks w) n x.disk
disks_set w n x doubt = map-set (λ (a : Application). a.disk) w.apps n x

pub set_here : (ds : Disks) (n : ℕ) (next : App) → length ds ≡ 8 → n < 8 → disk_at (slice_set ds n next) n ≡ next
set_here ds n next eight lt = ap or_none (get_set ds n next (omega (arith, lt, eight)))

pub set_elsewhere : (ds : Disks) (n : ℕ) (next : App) (b : ℕ) → n ≢ b → disk_at (slice_set ds n next) b ≡ disk_at ds b
set_elsewhere ds n next b differs = ap or_none (get_set_other ds n b next (λ e. differs (sym e)))

-- ---- all applications

-- what a law says of what is kept of one application
abbrev pub MakesOne : Type 0
MakesOne = (told : Bool) (image : Image) (r : Running) → IsTrue told → IsRunning told image r
    → IsApplication (application image r)

abbrev pub StaysInUse : Type 0
StaysInUse = (told : Bool) (old new : Image) (r : Running) → (IsTrue told → Spares (IsFileOf r.app) old new)
    → IsRunning told old r → IsRunning told new r

all_so : (image : Image) (first : ℕ) (apps : List Running)
    → ((k : ℕ) (a : Running) → slice_get apps k ≡ Some a
    → IsApplication (as_app (app_at image (first + k)) (running_in a)))
    → AllByRecursion IsApplication (with_disk (app_at image) first (map running_in apps))
all_so image first [] each = tt
all_so image first (a ∷ apps) each = let here : first + 0 ≡ first = omega arith in (
  subst (λ (k : ℕ). IsApplication (as_app (app_at image k) (running_in a))) here (each 0 a refl),
  all_so image (first + 1) apps (λ k b e. let there : first + suc k ≡ (first + 1) + k = omega arith in
      subst (λ (j : ℕ). IsApplication (as_app (app_at image j) (running_in b))) there (each (suc k) b e)),
)

pub is_world : MakesOne → (told : Bool) (image : Image) (now : ℕ) (apps : List Running) (doubt : Option Doubt)
    → IsTrue told → AreRunning told image apps
    → IsWorld (world image now apps doubt)
is_world makes told image now apps doubt tells are = record {
  eight = apps_length image apps are.eight;
  each = all_so image 0 apps (λ k a there. let both = are.each k a there in
      subst (λ (j : ℕ). IsApplication (as_app (app_at image j) (running_in a))) (both.0 ∙ sym (from_none k))
      (makes told image a tells both.1));
}

pub apart : (n k f : ℕ) → n ≢ k → IsFileOf k f → IsNoFileOf n f
apart n k f differs inside = ⊎_elim (λ (less : n < k). inr (omega (arith, less, inside.0)))
    (λ more. inl (omega (arith, more, inside.1))) (less_or_more n k differs)

-- the others stay in use, since no file of theirs changes
pub are_set : StaysInUse → (told : Bool) (old new : Image) (n : ℕ) (apps : List Running) (a' : Running) → n < 8
    → a'.app ≡ n
    → (IsTrue told → Spares (IsNoFileOf n) old new) → IsRunning told new a' → AreRunning told old apps
    → AreRunning told new (slice_set apps n a')
are_set stays told old new n apps a' lt number elsewhere used are = record {
  eight = set_length apps n a' ∙ are.eight;
  each = λ k b there. one k b there (which n k);
}
  where
    one : (k : ℕ) (b : Running) → slice_get (slice_set apps n a') k ≡ Some b → (n ≡ k) ⊎ (n ≢ k)
        → (b.app ≡ k) × IsRunning told new b
    one k b there (inl e) =
        let less : n < length apps = omega (arith, lt, are.eight) in
        let it : a' ≡ b = some_is a' b (sym (get_set apps n a' less) ∙ ap (slice_get (slice_set apps n a')) e ∙ there)
        in
        subst (λ (x : Running). (x.app ≡ k) × IsRunning told new x) it (number ∙ e, used)
    one k b there (inr differs) = let was = are.each k b
        (sym (get_set_other apps n k a' (λ e. differs (sym e))) ∙ there) in (
          was.0,
          stays told old new b (λ tells f inside. elsewhere tells f
              (apart n k f differs (subst (λ (j : ℕ). IsFileOf j f) was.0 inside))) was.1,
        )

-- they stay so where reads give what they gave
pub are_same : (told : Bool) (old new : Image) (apps : List Running) → new ≡ old → AreRunning told old apps
    → AreRunning told new apps
are_same told old new apps same are = subst (λ (i : Image). AreRunning told i apps) (sym same) are

-- what is left of the world at the end is what the image denotes
pub closed_is : (image : Image) (now : ℕ) (apps : List Running) (doubt : Option Doubt) → length apps ≡ 8
    → world_at image ≡ after_run (world image now apps doubt)
unfolding world_at
closed_is image now apps doubt eight = ap (λ (xs : List Application). record { now = 0; apps = xs; doubt = None })
    (subst (λ (n : ℕ). all_resting (app_at image) 0 n ≡ map (λ (a : Application). resting a.disk)
    (with_disk (app_at image) 0 (map running_in apps))) (length_in apps eight)
    (rest_there (app_at image) 0 (map running_in apps)))
