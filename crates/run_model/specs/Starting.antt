-- The start: the roots are opened one after another, and at every moment each application stands between what it was
-- and itself with its root mended.
use Rattle.std.specs.Prelude.{◌≡◌, ◌≢◌, ◌⊎◌, ◌<◌, ◌≤◌, ◌+◌, ◌-◌, ℕ, List, zero, suc, map, true, false, nat_lt}
use Rattle.std.proofs.Common.{refl, sym, ap, ap₂, ◌∙◌, subst, le_refl, inl, inr, ⊎_elim, arith, eq-or-lt_of_le}
use Rattle.std.proofs.lemmas.Bool.{cases_Bool}
use Rattle.std.proofs.lemmas.Bool.Decides.{nat_tests}
use Rattle.disk_model.specs.Image.{Image}
use Rattle.disk_model.specs.Case.{Case, IsSettledAt}
use Rattle.disk_model.specs.Frame.{IsSettledOn, Spares}
use Rattle.disk_model.specs.Laws.{cases_on, elapses_on}
use Rattle.disk_model.specs.Medium.{Medium, Quiet, EachCase, Elapses, OnlyReads, WritesNothing}
use Rattle.disk_model.specs.Place.{IsNoSlot, slot}
use Rattle.disk_model.specs.lemmas.Frames.{settled_on}
use Rattle.guarded_cell.specs.Register.{Holds, IsBlank, other, own}
use Rattle.deploy_laws.specs.Places.{IsFileOf, IsNoFileOf, root_place}
use Rattle.deploy_laws.specs.Apps.{App, app_at, IsCleanApp}
use Rattle.deploy_laws.specs.Stands.{StandsCase, IsLater, same_root}
use Rattle.deploy_rows.specs.Costs.{manifests_at, root_cost}
use Rattle.deploy_rows.specs.Rows.{reopened}
use Rattle.run_model.specs.AppLaws.{AppLaws, OpensRoot}
use Rattle.run_model.specs.Costs.{roots_cost}
use Rattle.run_model.specs.Moments.{Between, OrBefore}
use Rattle.run_model.specs.Runtimes.{IsNoRoot, StartKeeps}
use Rattle.run_model.specs.Turns.{DiskBytes, bytes_now}
use Rattle.run_model.specs.Worlds.{Application, disks, disk_at, all_resting, world_at, after_start}
use Rattle.run_model.specs.Writes.{AllNeedNothing, IsRootAlone, IsRootSlot, LeavesRoots, NeedsNothing}

-- ---- the worlds of the start

entry_disk : (f : ℕ → App) (app n i : ℕ) → i < n → disk_at (map (λ (a : Application). a.disk) (all_resting f app n)) i
    ≡ f (app + i)
entry_disk f app zero i lt = absurd (omega (arith, lt))
entry_disk f app (suc n) zero lt = ap f (omega arith)
entry_disk f app (suc n) (suc i) lt = let less : i < n =
    omega (arith, lt) in entry_disk f (app + 1) n i less ∙ ap f (omega arith)

start_disk : (f : ℕ → App) (app n i : ℕ) → i < n
    → disk_at (map (λ (a : Application). a.disk) (map (λ (a : Application). record a { disk = reopened a.disk })
    (all_resting f app n))) i ≡ reopened (f (app + i))
start_disk f app zero i lt = absurd (omega (arith, lt))
start_disk f app (suc n) zero lt = ap (λ (k : ℕ). reopened (f k)) (omega arith)
start_disk f app (suc n) (suc i) lt = let less : i < n =
    omega (arith, lt) in start_disk f (app + 1) n i less ∙ ap (λ (k : ℕ). reopened (f k)) (omega arith)

pub at_entry : (image : Image) (b : ℕ) → b < 8 → disk_at (disks (world_at image)) b ≡ app_at image b
unfolding world_at
at_entry image b lt = entry_disk (app_at image) 0 8 b lt ∙ ap (app_at image) (omega arith)

pub at_start : (image : Image) (b : ℕ) → b < 8 → disk_at (disks (after_start (world_at image))) b
    ≡ reopened (app_at image b)
unfolding world_at
at_start image b lt = start_disk (app_at image) 0 8 b lt ∙ ap (λ (k : ℕ). reopened (app_at image k)) (omega arith)

-- ---- a start that is under way

-- the roots below this number are opened, the others are as they were, and each application stood so at every moment;
-- no more is written than these roots cost, and nothing where none needs anything
pub record OpenedUpTo (count : ℕ) (old now : Medium) : Type 0 where
  pub moments : (b : ℕ) → b < 8 → IsCleanApp b old.image
      → EachCase (OrBefore old (StandsCase b (app_at old.image b) (reopened (app_at old.image b)))) old now
  pub opened : (b : ℕ) → b < count → b < 8 → app_at now.image b ≡ reopened (app_at old.image b)
  pub closed : (b : ℕ) → count ≤ b → b < 8 → app_at now.image b ≡ app_at old.image b
  pub clean : (b : ℕ) → b < 8 → IsCleanApp b old.image → IsCleanApp b now.image
  pub roots : Spares IsNoRoot old.image now.image
  pub kept : (b : ℕ) → count ≤ b → b < 8 → manifests_at now.image b ≡ manifests_at old.image b
  pub written : now.written ≤ old.written + roots_cost old.image count
  pub left : LeavesRoots old.image now.image
  pub already : AllNeedNothing old.image → bytes_now now ≡ bytes_now old
  pub quiet : Quiet now
  pub time : Elapses old now

is_same : (a : App) → IsLater a a
is_same a = same_root refl refl

is_reopened : (a : App) → IsLater a (reopened a)
is_reopened a = same_root refl refl

below_or : (a b : ℕ) → (a < b) ⊎ (b ≤ a)
below_or a b = ⊎_elim (λ (yes : nat_lt a b ≡ true). let less : a < b = grind (arith, nat_tests, yes) in inl less)
    (λ (no : nat_lt a b ≡ false). let le : b ≤ a = grind (arith, nat_tests, no) in inr le) (cases_Bool (nat_lt a b))

strictly : (a b : ℕ) → b ≤ a → a ≢ b → b < a
strictly a b le differs = ⊎_elim (λ (e : b ≡ a). absurd (differs (sym e))) (λ less. less) (eq-or-lt_of_le le)

pub which : (a b : ℕ) → (a ≡ b) ⊎ (a ≢ b)
which a b = ⊎_elim (λ less. inr (λ e. omega (arith, less, e)))
    (λ le. ⊎_elim (λ (e : b ≡ a). inl (sym e)) (λ less. inr (λ e. omega (arith, less, e))) (eq-or-lt_of_le le))
    (below_or a b)

-- the files of one application are none of another's
files_apart : (a b file : ℕ) → a ≢ b → IsFileOf b file → IsNoFileOf a file
files_apart a b file differs of = by (below_or a b)
  where
    by : (a < b) ⊎ (b ≤ a) → IsNoFileOf a file
    by (inl less) = let low = of.0 in inr (omega (arith, less, low))
    by (inr le) = let less = strictly a b le differs in let high = of.1 in inl (omega (arith, less, high))

-- what it costs, once the roots before it are opened
one_more : (image : Image) (count : ℕ) → roots_cost image (count + 1)
    ≡ roots_cost image count + root_cost (manifests_at image count)
one_more image count = let next : count + 1 ≡ suc count = omega arith in
    subst (λ (n : ℕ). roots_cost image n ≡ roots_cost image count + root_cost (manifests_at image count)) (sym next)
    refl

pub one_more_cost : (old now : Image) (was mid after count : ℕ) → manifests_at now count ≡ manifests_at old count
    → mid ≤ was + roots_cost old count → after ≤ mid + root_cost (manifests_at now count)
    → after ≤ was + roots_cost old (count + 1)
one_more_cost old now was mid after count same before cost =
    let here : after ≤ mid + root_cost (manifests_at old count) =
    subst (λ (kept : List (List ℕ)). after ≤ mid + root_cost kept) same cost in
    let more = one_more old count in
    omega (arith, before, here, more)

-- ---- roots that need nothing

-- the slots of one root are none of another's
slots_apart : (a b file : ℕ) → a < 8 → b < 8 → a ≢ b → IsRootSlot b file → IsNoSlot (root_place a) file
slots_apart a b file lta ltb differs of copy parity few two is =
    of (λ copy' parity' few' two' is'. apart copy' parity' few' two' is' (below_or a b))
  where
    apart : (copy' parity' : ℕ) → copy' < 3 → parity' < 2 → file ≡ slot (root_place b) copy' parity'
        → (a < b) ⊎ (b ≤ a) → ⊥
    apart copy' parity' few' two' is' (inl less) = omega (arith, lta, ltb, few, two, few', two', is, is', less)
    apart copy' parity' few' two' is' (inr le) = let less = strictly a b le differs in
        omega (arith, lta, ltb, few, two, few', two', is, is', less)

-- a root is held as long as its slots stay
held_on : (old new : Image) (app : ℕ) → Spares (IsRootSlot app) old new → IsRootAlone old app → IsRootAlone new app
held_on old new app same root = record {
  generation = root.generation;
  text = root.text;
  alone = record {
    held = λ copy few. let two : own root.generation < 2 = omega arith in
        subst (λ (bytes : List ℕ). Holds (λ file. bytes) (root_place app) copy root.generation root.text)
        (sym (here copy (own root.generation) few two)) (root.alone.held copy few);
    blank = λ copy few. let two : other root.generation < 2 = omega arith in
        subst (λ (bytes : List ℕ). IsBlank bytes) (sym (here copy (other root.generation) few two))
        (root.alone.blank copy few);
  };
}
  where
    here : (copy parity : ℕ) → copy < 3 → parity < 2
        → new (slot (root_place app) copy parity) ≡ old (slot (root_place app) copy parity)
    here copy parity few two = same (slot (root_place app) copy parity) (λ no. no copy parity few two refl)

needs_on : (old new : Image) (app : ℕ) → app_at new app ≡ app_at old app → Spares (IsRootSlot app) old new
    → NeedsNothing old app → NeedsNothing new app
unfolding app_at
needs_on old new app is same (inl alone) = inl (held_on old new app same alone)
needs_on old new app is same (inr bad) = inr (ap (λ (a : App). a.says) is ∙ bad)

-- one opening more leaves the slots of each that needs nothing
pub one_left : (a : ℕ) (old now new : Image) → a < 8 → app_at now a ≡ app_at old a → LeavesRoots old now
    → Spares (IsNoSlot (root_place a)) now new → (NeedsNothing now a → new ≡ now) → LeavesRoots old new
one_left a old now new lta is left slots already b ltb needs file of = by (which a b)
  where
    by : (a ≡ b) ⊎ (a ≢ b) → new file ≡ old file
    by (inl e) =
        let here : NeedsNothing old a = subst (λ (n : ℕ). NeedsNothing old n) (sym e) needs in
        ap (λ (i : Image). i file) (already (needs_on old now a is (left a lta here) here)) ∙ left b ltb needs file of
    by (inr differs) = slots file (slots_apart a b file lta ltb differs of) ∙ left b ltb needs file of

-- where none before it needed anything, and so nothing was written, and it needs nothing, no more is written
pub none_written : (a : ℕ) (old now new : Medium) → a < 8 → (AllNeedNothing old.image → bytes_now now ≡ bytes_now old)
    → (NeedsNothing now.image a → bytes_now new ≡ bytes_now now) → AllNeedNothing old.image
    → bytes_now new ≡ bytes_now old
none_written a old now new lta before here all =
    let same = before all in
    here (subst (λ (i : Image). NeedsNothing i a) (sym (ap (λ (b : DiskBytes). b.image) same)) (all a lta)) ∙ same

-- one root more
pub open_next : AppLaws → (a : ℕ) (old now new : Medium) → a < 8 → OpenedUpTo a old now → OpensRoot a now new
    → OpenedUpTo (a + 1) old new
open_next laws a old now new lta o r = record {
  moments = λ b lt clean c s. ⊎_elim
      (λ was. o.moments b lt clean c was)
      (λ at. inr (here b lt clean c at (which a b)))
      (cases_on o.time r.time c s);
  opened = λ b below lt. opened b below lt (which a b);
  closed = λ b above lt. elsewhere b lt (λ e. omega (arith, e, above)) ∙ o.closed b (omega (arith, above)) lt;
  clean = λ b lt clean. clean_on b lt clean (which a b);
  roots = λ f is. r.slots f (is a lta) ∙ o.roots f is;
  kept = λ b above lt. laws.manifests b now.image new.image lt (λ f of. r.elsewhere f
      (files_apart a b f (λ e. omega (arith, e, above)) of)) ∙ o.kept b (omega (arith, above)) lt;
  written = one_more_cost old.image now.image old.written now.written new.written a (o.kept a (le_refl a) lta) o.written
      r.written;
  left = one_left a old.image now.image new.image lta (o.closed a (le_refl a) lta) o.left r.slots
      (λ needs. ap (λ (b : DiskBytes). b.image) (r.already needs));
  already = none_written a old now new lta o.already r.already;
  quiet = r.quiet;
  time = elapses_on o.time r.time;
}
  where
    elsewhere : (b : ℕ) → b < 8 → a ≢ b → app_at new.image b ≡ app_at now.image b
    elsewhere b lt differs = (laws.others a b now.image new.image lt differs r.elsewhere).0

    opened : (b : ℕ) → b < a + 1 → b < 8 → (a ≡ b) ⊎ (a ≢ b) → app_at new.image b ≡ reopened (app_at old.image b)
    opened b below lt (inl e) = subst (λ (n : ℕ). app_at new.image n ≡ reopened (app_at old.image n)) e
        (r.app ∙ ap reopened (o.closed a (le_refl a) lta))
    opened b below lt (inr differs) = elsewhere b lt differs
        ∙ o.opened b (strictly a b (omega (arith, below)) differs) lt

    clean_on : (b : ℕ) → b < 8 → IsCleanApp b old.image → (a ≡ b) ⊎ (a ≢ b) → IsCleanApp b new.image
    clean_on b lt clean (inl e) = subst (λ (n : ℕ). IsCleanApp n new.image) e
        (r.clean (o.clean a lta (subst (λ (n : ℕ). IsCleanApp n old.image) (sym e) clean)))
    clean_on b lt clean (inr differs) = (laws.others a b now.image new.image lt differs r.elsewhere).1
        (o.clean b lt clean)

    -- before its turn an application is as it was, on its way to its mended root; after it, it rests so
    rest : (b : ℕ) → b < 8 → IsCleanApp b now.image → a ≢ b → (c : Case) → IsSettledOn (IsFileOf b) now.image c
        → (b < a) ⊎ (a ≤ b) → StandsCase b (app_at old.image b) (reopened (app_at old.image b)) c
    rest b lt clean differs c s (inl below) = λ is_sound damaged image decays.
        laws.mend b image damaged (app_at old.image b) (reopened (app_at old.image b))
        ((subst (λ x. StandsCase b x x c) (o.opened b below lt)
        (laws.still b now.image (app_at now.image b) c lt clean s (is_same (app_at now.image b)))) is_sound
        damaged image decays)
    rest b lt clean differs c s (inr above) = subst (λ x. StandsCase b x (reopened x) c) (o.closed b above lt)
        (laws.still b now.image (reopened (app_at now.image b)) c lt clean s (is_reopened (app_at now.image b)))

    here : (b : ℕ) → b < 8 → IsCleanApp b old.image → (c : Case) → new.since now.moment c
        → (a ≡ b) ⊎ (a ≢ b) → StandsCase b (app_at old.image b) (reopened (app_at old.image b)) c
    here b lt clean c at (inl e) = subst (λ (n : ℕ).
        StandsCase n (app_at old.image n) (reopened (app_at old.image n)) c) e
        (subst (λ x. StandsCase a x (reopened x) c) (o.closed a (le_refl a) lta)
        (r.any_moment o.quiet (o.clean a lta (subst (λ (n : ℕ). IsCleanApp n old.image) (sym e) clean))
        (reopened (app_at now.image a)) (is_reopened (app_at now.image a)) c at))
    here b lt clean c at (inr differs) = rest b lt (o.clean b lt clean) differs c
        (laws.others_case a b now.image c differs (r.outside o.quiet c at)) (below_or b a)

-- ---- the start as a whole

-- before any root is opened, after a sync: nothing changed, and nothing is pending any more
pub open_none : AppLaws → (old now : Medium) → Elapses old now → WritesNothing old now → Quiet now
    → OpenedUpTo 0 old now
open_none laws old now time nothing quiet = record {
  moments = λ b lt clean c s. ⊎_elim (λ before. inl before)
      (λ at. inr (laws.still b old.image (reopened (app_at old.image b)) c lt clean
      (settled_on (IsFileOf b) (subst (λ i. IsSettledAt i c) nothing.image (quiet c at)))
      (is_reopened (app_at old.image b))))
      (nothing.during c s);
  opened = λ b below lt. absurd (omega (arith, below));
  closed = λ b above lt. ap (λ (i : Image). app_at i b) nothing.image;
  clean = λ b lt clean. subst (λ i. IsCleanApp b i) (sym nothing.image) clean;
  roots = λ f is. ap (λ (i : Image). i f) nothing.image;
  kept = λ b above lt. ap (λ (i : Image). manifests_at i b) nothing.image;
  written = let same = nothing.written in omega (arith, same);
  left = λ b lt needs file of. ap (λ (i : Image). i file) nothing.image;
  already = λ all. ap₂ (λ (i : Image) (n : ℕ). record { image = i; written = n }) nothing.image nothing.written;
  quiet = quiet;
  time = time;
}

-- with all eight opened, the start is what a run begins with
pub between_worlds : (image : Image) (b : ℕ) → b < 8 → (c : Case)
    → StandsCase b (app_at image b) (reopened (app_at image b)) c
    → Between b (disks (world_at image)) (disks (after_start (world_at image))) c
between_worlds image b lt c stands = subst (λ x. StandsCase b x (disk_at (disks (after_start (world_at image))) b) c)
    (sym (at_entry image b lt))
    (subst (λ y. StandsCase b (app_at image b) y c) (sym (at_start image b lt)) stands)

-- between two openings each application rests, with its root mended or not yet
pub opened_rests : AppLaws → (count : ℕ) (old now : Medium) → OpenedUpTo count old now → (b : ℕ) → b < 8
    → IsCleanApp b old.image → (c : Case) → now.now c
    → StandsCase b (app_at old.image b) (reopened (app_at old.image b)) c
opened_rests laws count old now o b lt clean c at = rest (below_or b count)
  where
    settled : IsSettledOn (IsFileOf b) now.image c
    settled = settled_on (IsFileOf b) (o.quiet c at)

    rest : (b < count) ⊎ (count ≤ b) → StandsCase b (app_at old.image b) (reopened (app_at old.image b)) c
    rest (inl below) = λ is_sound damaged image decays.
        laws.mend b image damaged (app_at old.image b) (reopened (app_at old.image b))
        ((subst (λ x. StandsCase b x x c) (o.opened b below lt)
        (laws.still b now.image (app_at now.image b) c lt (o.clean b lt clean) settled
        (is_same (app_at now.image b)))) is_sound damaged image decays)
    rest (inr above) = subst (λ x. StandsCase b x (reopened x) c) (o.closed b above lt)
        (laws.still b now.image (reopened (app_at now.image b)) c lt (o.clean b lt clean) settled
        (is_reopened (app_at now.image b)))

-- what is said of applications is said of worlds
pub keeps_worlds : (old new : Medium) → ((b : ℕ) → b < 8 → IsCleanApp b old.image
    → EachCase (OrBefore old (StandsCase b (app_at old.image b) (reopened (app_at old.image b)))) old new)
    → OnlyReads old new ⊎ ((b : ℕ) → b < 8 → IsCleanApp b old.image → (c : Case) → new.now c
    → StandsCase b (app_at old.image b) (reopened (app_at old.image b)) c)
    → Spares IsNoRoot old.image new.image → new.written ≤ old.written + roots_cost old.image 8
    → LeavesRoots old.image new.image → (AllNeedNothing old.image → bytes_now new ≡ bytes_now old)
    → StartKeeps old new
keeps_worlds old new moments exit roots cost left already = record {
  always = λ b lt clean c s. ⊎_elim (λ before. inl before) (λ stands. inr (between_worlds old.image b lt c stands))
      (moments b lt clean c s);
  at_exit = ⊎_elim (λ reads. inl reads)
      (λ each. inr (λ b lt clean c at. between_worlds old.image b lt c (each b lt clean c at))) exit;
  roots = roots;
  written = cost;
  left = left;
  already = already;
}

-- what so many roots cost, all eight cost too
fewer_cost : (image : Image) (count more : ℕ) → roots_cost image count ≤ roots_cost image (count + more)
fewer_cost image count zero =
    let same : count ≡ count + 0 = omega arith in
    subst (λ (n : ℕ). roots_cost image count ≤ roots_cost image n) same (le_refl (roots_cost image count))
fewer_cost image count (suc more) =
    let next : count + suc more ≡ (count + more) + 1 = omega arith in
    let before = fewer_cost image count more in
    let step = one_more image (count + more) in
    let up : roots_cost image count ≤ roots_cost image ((count + more) + 1) = omega (arith, before, step) in
    subst (λ (n : ℕ). roots_cost image count ≤ roots_cost image n) (sym next) up

pub some_cost : (image : Image) (was now count : ℕ) → count ≤ 8 → now ≤ was + roots_cost image count
    → now ≤ was + roots_cost image 8
some_cost image was now count few cost =
    let whole : count + (8 - count) ≡ 8 = omega (arith, few) in
    let fewer : roots_cost image count ≤ roots_cost image 8 =
    subst (λ (n : ℕ). roots_cost image count ≤ roots_cost image n) whole (fewer_cost image count (8 - count)) in
    omega (arith, cost, fewer)

pub opened_keeps : AppLaws → (count : ℕ) (old now : Medium) → count ≤ 8 → OpenedUpTo count old now → StartKeeps old now
opened_keeps laws count old now few o = keeps_worlds old now o.moments (inr (opened_rests laws count old now o)) o.roots
    (some_cost old.image old.written now.written count few o.written) o.left o.already
