-- A disk over any number of jobs, for one application: between which two it stands wherever a job begins.
use Rattle.std.specs.Prelude.{◌≡◌, ◌⊎◌, ◌<◌, ℕ, List, [], ◌∷◌, ◌++◌, Option, Some, None, Bool, IsTrue, ⊤}
use Rattle.std.proofs.Common.{refl, sym, ap, ◌∙◌, subst, inl, inr, ⊎_elim, le_refl, arith}
use Rattle.std.proofs.lemmas.List.Elements.{Contains-append_left, Contains-append_right}
use Rattle.disk_model.specs.Case.{Case, IsSettledAt}
use Rattle.disk_model.specs.Damage.{DecaysFor}
use Rattle.disk_model.specs.Frame.{IsSettledOn}
use Rattle.disk_model.specs.Image.{Image}
use Rattle.disk_model.specs.Laws.{cases_on}
use Rattle.disk_model.specs.Medium.{Medium, Quiet, OnlyReads, WritesNothing, IsIdle, IsLawful, Elapses, EachCase}
use Rattle.disk_model.specs.declared.place.Place.{Place}
use Rattle.disk_model.specs.lemmas.Frames.{settled_on}
use Rattle.element_state.specs.Clean.{IsPiece}
use Rattle.deploy_laws.specs.Apps.{App, Says, absent, app_at, installed, nothing, IsCleanApp}
use Rattle.deploy_laws.specs.Pieces.{DecaysApp, IsPlaceOn, IsSoundApp}
use Rattle.deploy_laws.specs.Places.{IsFileOf, IsNoFileOf}
use Rattle.deploy_laws.specs.Stands.{Stands, StandsCase, same_root, HasEnoughRoot}
use Rattle.deploy_rows.specs.Rows.{reopened}
use Rattle.run_model.specs.AppLaws.{AppLaws}
use Rattle.run_model.specs.Converters.{Converters}
use Rattle.run_model.specs.Edges.{Edges}
use Rattle.run_model.specs.Endings.{Ending}
use Rattle.run_model.specs.Moments.{
  AreImaged,
  AreSoundDoubts,
  AtMoment,
  Between,
  InDoubt,
  IsMomentOf,
  IsSideImaged,
  IsWorldImaged,
  OrBefore,
  last_of,
}
use Rattle.run_model.specs.Resting.{stands_itself}
use Rattle.run_model.specs.RunLaws.{imaged_last}
use Rattle.run_model.specs.Starting.{at_entry, between_worlds}
use Rattle.run_model.specs.Lines.{lines_of}
use Rattle.run_model.specs.Runs.{DiskSide, Handling, Progress, Reach, Run, starting, between, within}
use Rattle.run_model.specs.Turns.{worlds_of}
use Rattle.run_model.specs.Worlds.{Disks, Doubt, World, after_start, disk_at, disks, world_at}

-- ---- the pairs between which an application may stand

-- what it is before and after, and the files that were damaged since
pub record Pair : Type 0 where
  pub before : App
  pub after : App
  pub damaged : List ℕ

-- a pair of which no file is damaged yet
abbrev pub fresh_pair : (before after : App) → Pair
fresh_pair before after = record { before = before; after = after; damaged = [] }

-- the pair is one of the list
abbrev pub IsAmong : List Pair → Pair → Type 0
IsAmong [] q = ⊥
IsAmong (p ∷ ps) q = (q ≡ p) ⊎ IsAmong ps q

-- the one pair of an application while nothing is in progress: it is before and after what the image says
abbrev pub resting_pairs : Image → (app : ℕ) → List Pair
resting_pairs image app = fresh_pair (app_at image app) (app_at image app) ∷ []

-- the two sides of a doubt, as a pair of this application, where there is a doubt
abbrev pub doubt_pairs : ℕ → Option Doubt → List Pair
doubt_pairs app None = []
doubt_pairs app (Some d) = fresh_pair (disk_at d.before app) (disk_at d.after app) ∷ []

-- the last world and what is in progress, and the two sides of its doubt
abbrev pub last_pairs : ℕ → World → (next : Disks) → List Pair
last_pairs app w next = fresh_pair (disk_at (disks w) app) (disk_at next app) ∷ doubt_pairs app w.doubt

-- the pairs after a run; one that did not start may have left those of before it (`earlier`)
abbrev pub pairs_after : ℕ → (entry : World) → (reached : List World) → (next : Disks) → (earlier : List Pair)
    → List Pair
pairs_after app entry [] next earlier = fresh_pair (disk_at (disks entry) app) (disk_at next app)
    ∷ (doubt_pairs app entry.doubt ++ earlier)
pairs_after app entry (w ∷ ws) next earlier = last_pairs app (last_of w ws) next

-- more files are damaged
abbrev pub aged : (damaged : List ℕ) → Pair → Pair
aged damaged p = record { before = p.before; after = p.after; damaged = p.damaged ++ damaged }

-- more files are damaged, in each pair of a list
abbrev pub all_aged : (damaged : List ℕ) → List Pair → List Pair
all_aged damaged [] = []
all_aged damaged (p ∷ ps) = aged damaged p ∷ all_aged damaged ps

-- what each was before is what some image denotes
abbrev pub BeginImaged : ℕ → List Pair → Type 0
BeginImaged app [] = ⊤
BeginImaged app (p ∷ ps) = ((start : Image) × (p.before ≡ app_at start app)) × BeginImaged app ps

-- all damage since leaves two copies of the root that the application did not lack
abbrev pub IsRooted : ℕ → Pair → Type 0
IsRooted app p = ¬ (p.before.says ≡ nothing) → HasEnoughRoot app p.damaged p.before.lacking

-- each of these pairs has such a root (`IsRooted`), with these files damaged too
abbrev pub HasRoot : ℕ → (damaged : List ℕ) → List Pair → Type 0
HasRoot app damaged [] = ⊤
HasRoot app damaged (p ∷ ps) = IsRooted app (aged damaged p) × HasRoot app damaged ps

-- each of these pairs of which some file is damaged has such a root (`IsRooted`)
abbrev pub AreRooted : ℕ → List Pair → Type 0
AreRooted app [] = ⊤
AreRooted app (p ∷ ps) = ((p.damaged ≡ []) ⊎ IsRooted app p) × AreRooted app ps

-- ---- jobs

-- calls that change no byte: a crash meanwhile leaves what one before them might have left, or what reads give
pub record LooksOnly (old new : Medium) : Type 0 where
  pub image : new.image ≡ old.image
  pub written : new.written ≡ old.written
  pub during : EachCase (OrBefore old (IsSettledAt old.image)) old new

-- a run on a disk whose bytes are modelled, with all that it promises of the disk (`DiskSide`), where what reads gave
-- after each command that failed has nothing of the application that passes its hash by chance
pub record Ran (converters : Converters) (app : ℕ) (old new : Medium) : Type 0 where
  pub ending : Ending
  pub handling : Handling
  pub disk : DiskSide converters ending handling old new
  pub sound : AreSoundDoubts app disk.reached

-- any run is one, where what its failed commands read is sound
pub ran_of : (told : Bool) (tells : IsTrue told) (converters : Converters) (status : ℕ) (app : ℕ)
    (before after : Edges Medium) → (run : Run told converters status before after)
    → AreSoundDoubts app (run.disk tells).reached
    → Ran converters app before.disk after.disk
ran_of told tells converters status app before after run sound = record {
  ending = run.ending;
  handling = record {
    lines = run.lines;
    all = lines_of run.ended run.given;
    turns = run.turns;
    before = before.taken;
    now = after.taken;
  };
  disk = run.disk tells;
  sound = sound;
}

-- the pairs after a run, from those before it
abbrev pub pairs_of_run : {converters : Converters} → (app : ℕ) → (old new : Medium)
    → Ran converters app old new → (earlier : List Pair) → List Pair
pairs_of_run app old new run earlier = pairs_after app (world_at old.image) run.disk.reached run.disk.next earlier

-- A job as one application sees it: a run; one that looks and writes nothing, as an audit, an export and a refused
-- import; an import into a storage of it, by which it becomes `next`; and one into a storage of another application.
pub data Job (converters : Converters) (app : ℕ) (old new : Medium) : Type 0 where
  runs : Ran converters app old new → Job converters app old new
  looks : LooksOnly old new → Job converters app old new
  imports : (next : App)
      → (IsCleanApp app old.image → EachCase (OrBefore old (StandsCase app (app_at old.image app) next)) old new)
      → Job converters app old new
  imports_beside : (other : ℕ) → ¬ (other ≡ app)
      → EachCase (OrBefore old (IsSettledOn (IsNoFileOf other) old.image)) old new → Job converters app old new

-- what a crash at its end may leave; of a job that is no run, at any moment of it
abbrev pub JobMayLeave : {converters : Converters} → {app : ℕ} → (old new : Medium)
    → Job converters app old new → Case → Type 0
JobMayLeave old new (runs run) c = new.now c
JobMayLeave old new other c = new.since old.moment c

-- the pairs after a job, from those before it, which a job that is no run may still have left
abbrev pub pairs_of : {converters : Converters} → (app : ℕ) → (old new : Medium)
    → Job converters app old new → (earlier : List Pair) → List Pair
pairs_of app old new (runs run) earlier = pairs_of_run app old new run earlier
pairs_of app old new (imports next stands) earlier = fresh_pair (app_at old.image app) next ∷ earlier
pairs_of app old new other earlier = fresh_pair (app_at old.image app) (app_at old.image app) ∷ earlier

-- ---- between two jobs

-- damage to the files of a list makes no piece of any place that some image gives to the application
abbrev pub Decays : ℕ → (damaged : List ℕ) → (old new : Image) → Type 0
Decays app damaged old new = (place : Place) (some : Image) → IsPlaceOn app some place
    → DecaysFor (IsPiece place) damaged old new

-- a process that begins: some of what was pending still is, and reads give what one sound case leaves
pub record BeginsOver (app : ℕ) (pending : Case → Type 0) (m : Medium) : Type 0 where
  pub some : (c : Case) → m.now c → pending c
  pub read : Case
  pub is_now : m.now read
  pub gives : read.left ≡ m.image
  pub sound : IsSoundApp app read

-- the case came by this damage from one that was pending, which is sound where this one is
abbrev pub CameBy : ℕ → (damaged : List ℕ) → (pending : Case → Type 0) → Case → Type 0
CameBy app damaged pending c = (was : Case) × pending was × (IsSoundApp app c → IsSoundApp app was)
    × Decays app damaged was.left c.left

-- The same, and meanwhile some files were damaged: what is pending came by the damage from what was. The case from
-- which came what reads give is sound.
pub record BeginsDamaged (app : ℕ) (pending : Case → Type 0) (pairs : List Pair) (m : Medium) : Type 0 where
  pub damaged : List ℕ
  pub some : (c : Case) → m.now c → CameBy app damaged pending c
  pub read : Case
  pub is_now : m.now read
  pub gives : read.left ≡ m.image
  pub sound : IsSoundApp app (some read is_now).0
  pub enough : HasRoot app damaged pairs

-- power was lost: one sound case is left, some files are damaged, and nothing is pending
pub record BeginsAfterStop (app : ℕ) (pending : Case → Type 0) (pairs : List Pair) (m : Medium) : Type 0 where
  pub case : Case
  pub is_now : pending case
  pub sound : IsSoundApp app case
  pub damaged : List ℕ
  pub decays : Decays app damaged case.left m.image
  pub enough : HasRoot app damaged pairs
  pub quiet : Quiet m

-- ---- a life

-- A disk that was formatted once, and then job after job. A job ends by itself, by a process that is killed, or by
-- power that is lost: as over a disk that fails from then on. The next begins with some of what is pending, over what
-- reads then give, where files may be damaged; or after a stop, with nothing pending and some files damaged.
pub data Life {D : Type 0} (medium : D → Medium) (converters : Converters) (app : ℕ)
    : D → List Pair → Type 0 where
  formatted : (m : D) → Quiet (medium m) → IsCleanApp app (medium m).image
      → Life medium converters app m (resting_pairs (medium m).image app)
  goes_on : (old new m : D) (pairs : List Pair) → Life medium converters app old pairs
      → (job : Job converters app (medium old) (medium new))
      → BeginsOver app (JobMayLeave (medium old) (medium new) job) (medium m)
      → Life medium converters app m (pairs_of app (medium old) (medium new) job pairs)
  goes_on_damaged : (old new m : D) (pairs : List Pair) → Life medium converters app old pairs
      → (job : Job converters app (medium old) (medium new))
      → (begins : BeginsDamaged app (JobMayLeave (medium old) (medium new) job)
      (pairs_of app (medium old) (medium new) job pairs) (medium m))
      → Life medium converters app m (all_aged begins.damaged (pairs_of app (medium old) (medium new) job pairs))
  stops : (old new m : D) (pairs : List Pair) → Life medium converters app old pairs
      → (job : Job converters app (medium old) (medium new))
      → BeginsAfterStop app (JobMayLeave (medium old) (medium new) job)
      (pairs_of app (medium old) (medium new) job pairs) (medium m)
      → Life medium converters app m (resting_pairs (medium m).image app)

-- ---- what is known between two jobs

-- what this case leaves came by the damage since from an image on which it stands so, and stands so after each damage
abbrev pub StandsAged : ℕ → Pair → Case → Type 0
StandsAged app p c = IsSoundApp app c → (from : Image) × DecaysApp app p.damaged from c.left
    × ((damaged : List ℕ) (image : Image) → DecaysApp app damaged from image
    → Stands app image damaged p.before p.after)

-- in this case it stands between two that are among these
abbrev pub StandsAmong : ℕ → List Pair → Case → Type 0
StandsAmong app pairs c = (p : Pair) × IsAmong pairs p × StandsAged app p c

-- by what reads give it stands between two that are among these
abbrev pub ReadsAmong : ℕ → List Pair → Image → Type 0
ReadsAmong app pairs image = (p : Pair) × IsAmong pairs p × Stands app image p.damaged p.before p.after

-- The places are clean, which each run asks, and by what reads give and in each case the application stands between two
-- of the pairs.
pub record Known (app : ℕ) (m : Medium) (pairs : List Pair) : Type 0 where
  pub clean : IsCleanApp app m.image
  pub reads : ReadsAmong app pairs m.image
  pub imaged : BeginImaged app pairs
  pub rooted : AreRooted app pairs
  pub stands : (c : Case) → m.now c → StandsAmong app pairs c

undamaged : (app : ℕ) (image : Image) → DecaysApp app [] image image
undamaged app image place of_app = record { others = λ f outside. refl; pieces = λ x piece. piece }

-- damage, and then more
decays_on : (app : ℕ) (first more : List ℕ) (old mid new : Image) → DecaysApp app first old mid
    → Decays app more mid new
    → DecaysApp app (first ++ more) old new
decays_on app first more old mid new one other place of_app = record {
  others = λ f outside.
      (other place old of_app).others f (λ in_more. outside (Contains-append_right first more f in_more))
      ∙ (one place of_app).others f (λ in_first. outside (Contains-append_left first more f in_first));
  pieces = λ x piece. (one place of_app).pieces x ((other place old of_app).pieces x piece);
}

freshly : (app : ℕ) (before after : App) (c : Case) → StandsCase app before after c
    → StandsAged app (fresh_pair before after) c
freshly app before after c stands sound = (c.left, undamaged app c.left, stands sound)

among_rest : (app : ℕ) (ps qs : List Pair) (c : Case) → StandsAmong app qs c → StandsAmong app (ps ++ qs) c
among_rest app [] qs c is = is
among_rest app (p ∷ ps) qs c is = let (q, at, stands) = among_rest app ps qs c is in (q, inr at, stands)

among_front : (app : ℕ) (ps qs : List Pair) (c : Case) → StandsAmong app ps c → StandsAmong app (ps ++ qs) c
among_front app [] qs c is = absurd is.1
among_front app (p ∷ ps) qs c (q, inl at, stands) = (q, inl at, stands)
among_front app (p ∷ ps) qs c (q, inr at, stands) =
    let (r, at', stands') = among_front app ps qs c (q, at, stands) in (r, inr at', stands')

imaged_at : (app : ℕ) (ps : List Pair) (q : Pair) → BeginImaged app ps → IsAmong ps q
    → (start : Image) × (q.before ≡ app_at start app)
imaged_at app [] q are is = absurd is
imaged_at app (p ∷ ps) q are (inl is) = (are.0.0, ap (λ (x : Pair). x.before) is ∙ are.0.1)
imaged_at app (p ∷ ps) q are (inr is) = imaged_at app ps q are.1 is

root_at : (app : ℕ) (damaged : List ℕ) (ps : List Pair) (q : Pair) → HasRoot app damaged ps → IsAmong ps q
    → IsRooted app (aged damaged q)
root_at app damaged [] q has is = absurd is
root_at app damaged (p ∷ ps) q has (inl is) = subst (λ (x : Pair). IsRooted app (aged damaged x)) (sym is) has.0
root_at app damaged (p ∷ ps) q has (inr is) = root_at app damaged ps q has.1 is

rooted_at : (app : ℕ) (ps : List Pair) (q : Pair) → AreRooted app ps → IsAmong ps q
    → (q.damaged ≡ []) ⊎ IsRooted app q
rooted_at app [] q has is = absurd is
rooted_at app (p ∷ ps) q has (inl is) = subst (λ (x : Pair). (x.damaged ≡ []) ⊎ IsRooted app x) (sym is) has.0
rooted_at app (p ∷ ps) q has (inr is) = rooted_at app ps q has.1 is

imaged_both : (app : ℕ) (ps qs : List Pair) → BeginImaged app ps → BeginImaged app qs → BeginImaged app (ps ++ qs)
imaged_both app [] qs are more = more
imaged_both app (p ∷ ps) qs are more = (are.0, imaged_both app ps qs are.1 more)

rooted_both : (app : ℕ) (ps qs : List Pair) → AreRooted app ps → AreRooted app qs → AreRooted app (ps ++ qs)
rooted_both app [] qs are more = more
rooted_both app (p ∷ ps) qs are more = (are.0, rooted_both app ps qs are.1 more)

imaged_aged : (app : ℕ) (damaged : List ℕ) (ps : List Pair) → BeginImaged app ps → BeginImaged app (all_aged damaged ps)
imaged_aged app damaged [] are = tt
imaged_aged app damaged (p ∷ ps) are = (are.0, imaged_aged app damaged ps are.1)

rooted_aged : (app : ℕ) (damaged : List ℕ) (ps : List Pair) → HasRoot app damaged ps
    → AreRooted app (all_aged damaged ps)
rooted_aged app damaged [] has = tt
rooted_aged app damaged (p ∷ ps) has = (inr has.0, rooted_aged app damaged ps has.1)

among_aged : (damaged : List ℕ) (ps : List Pair) (q : Pair) → IsAmong ps q
    → IsAmong (all_aged damaged ps) (aged damaged q)
among_aged damaged [] q is = absurd is
among_aged damaged (p ∷ ps) q (inl is) = inl (ap (aged damaged) is)
among_aged damaged (p ∷ ps) q (inr is) = inr (among_aged damaged ps q is)

side_pairs : (app : ℕ) (d : Option Doubt) → IsSideImaged app d → BeginImaged app (doubt_pairs app d)
side_pairs app None is = tt
side_pairs app (Some d) is = (is, tt)

side_rooted : (app : ℕ) (d : Option Doubt) → AreRooted app (doubt_pairs app d)
side_rooted app None = tt
side_rooted app (Some d) = (inl refl, tt)

last_imaged : (app : ℕ) (w : World) (next : Disks) → IsWorldImaged app w → BeginImaged app (last_pairs app w next)
last_imaged app w next is = (is.0, side_pairs app w.doubt is.1)

entry_imaged : (app : ℕ) → app < 8 → (image : Image) → IsWorldImaged app (world_at image)
unfolding world_at
entry_imaged app lt image = ((image, at_entry image app lt), tt)

after_imaged : (app : ℕ) (entry : World) (reached : List World) (next : Disks) (earlier : List Pair)
    → IsWorldImaged app entry → AreImaged app reached → BeginImaged app earlier
    → BeginImaged app (pairs_after app entry reached next earlier)
after_imaged app entry [] next earlier is are more =
    (is.0, imaged_both app (doubt_pairs app entry.doubt) earlier (side_pairs app entry.doubt is.1) more)
after_imaged app entry (w ∷ ws) next earlier is are more =
    last_imaged app (last_of w ws) next (imaged_last app w ws are.0 are.1)

after_rooted : (app : ℕ) (entry : World) (reached : List World) (next : Disks) (earlier : List Pair)
    → AreRooted app earlier → AreRooted app (pairs_after app entry reached next earlier)
after_rooted app entry [] next earlier more =
    (inl refl, rooted_both app (doubt_pairs app entry.doubt) earlier (side_rooted app entry.doubt) more)
after_rooted app entry (w ∷ ws) next earlier more = (inl refl, side_rooted app (last_of w ws).doubt)

doubt_moment : (app : ℕ) (d : Option Doubt) (c : Case) → InDoubt app d c → StandsAmong app (doubt_pairs app d) c
doubt_moment app None c is = absurd is
doubt_moment app (Some d) c is = (
  fresh_pair (disk_at d.before app) (disk_at d.after app),
  inl refl,
  freshly app (disk_at d.before app) (disk_at d.after app) c is,
)

last_moment : (app : ℕ) (w : World) (next : Disks) (c : Case) → IsMomentOf app w [] next c
    → StandsAmong app (last_pairs app w next) c
last_moment app w next c (inl stands) = (
  fresh_pair (disk_at (disks w) app) (disk_at next app),
  inl refl,
  freshly app (disk_at (disks w) app) (disk_at next app) c stands,
)
last_moment app w next c (inr doubt) = let (q, at, stands) = doubt_moment app w.doubt c doubt in (q, inr at, stands)

moment_after : (app : ℕ) (entry : World) (reached : List World) (next : Disks) (earlier : List Pair) (c : Case)
    → ((reached ≡ []) × StandsAmong app earlier c) ⊎ IsMomentOf app (last_of entry reached) [] next c
    → StandsAmong app (pairs_after app entry reached next earlier) c
moment_after app entry [] next earlier c (inl was) =
    let (q, at, stands) = among_rest app (doubt_pairs app entry.doubt) earlier c was.1 in (q, inr at, stands)
moment_after app entry [] next earlier c (inr moment) = among_front app (last_pairs app entry next) earlier c
    (last_moment app entry next c moment)
moment_after app entry (w ∷ ws) next earlier c (inl was) = absurd (let no : 1 ≡ 0 = ap length_of was.0 in
    omega (arith, no))
  where
    length_of : List World → ℕ
    length_of [] = 0
    length_of (x ∷ xs) = 1
moment_after app entry (w ∷ ws) next earlier c (inr moment) = last_moment app (last_of w ws) next c moment

-- what is settled stands as it was
still_there : AppLaws → (app : ℕ) (image : Image) (pairs : List Pair) (c : Case) → app < 8 → IsCleanApp app image
    → IsSettledOn (IsFileOf app) image c → StandsAmong app (fresh_pair (app_at image app) (app_at image app) ∷ pairs) c
still_there laws app image pairs c lt clean settled = (
  fresh_pair (app_at image app) (app_at image app),
  inl refl,
  freshly app (app_at image app) (app_at image app) c (laws.untouched app image c lt clean settled),
)

-- after a job each case stands between two of its pairs
pub behind : {converters : Converters} → AppLaws → (app : ℕ) (old new : Medium) (earlier : List Pair)
    → app < 8 → (job : Job converters app old new) → Known app old earlier → (c : Case) → JobMayLeave old new job c
    → StandsAmong app (pairs_of app old new job earlier) c
behind laws app old new earlier lt (runs run) known c at =
    moment_after app (world_at old.image) run.disk.reached run.disk.next earlier c
    (⊎_elim (λ none. inl (none.0, known.stands c (none.1.now c at))) (λ moment. inr moment)
    (run.disk.everywhen.at_exit app lt known.clean run.sound c at))
behind laws app old new earlier lt (looks look) known c at = ⊎_elim
    (λ was. let (q, is, stands) = known.stands c was in (q, inr is, stands))
    (λ settled. still_there laws app old.image earlier c lt known.clean (settled_on (IsFileOf app) settled))
    (look.during c at)
behind laws app old new earlier lt (imports next stands) known c at = ⊎_elim
    (λ was. let (q, is, so) = known.stands c was in (q, inr is, so))
    (λ here. (fresh_pair (app_at old.image app) next, inl refl, freshly app (app_at old.image app) next c here))
    (stands known.clean c at)
behind laws app old new earlier lt (imports_beside other differs settled) known c at = ⊎_elim
    (λ was. let (q, is, stands) = known.stands c was in (q, inr is, stands))
    (λ here. still_there laws app old.image earlier c lt known.clean
    (laws.others_case other app old.image c differs here))
    (settled c at)

job_imaged : {converters : Converters} (app : ℕ) (old new : Medium) (earlier : List Pair) → app < 8
    → (job : Job converters app old new) → BeginImaged app earlier
    → BeginImaged app (pairs_of app old new job earlier)
job_imaged app old new earlier lt (runs run) more = after_imaged app (world_at old.image) run.disk.reached
    run.disk.next earlier (entry_imaged app lt old.image) (run.disk.imaged app lt) more
job_imaged app old new earlier lt (looks look) more = ((old.image, refl), more)
job_imaged app old new earlier lt (imports next stands) more = ((old.image, refl), more)
job_imaged app old new earlier lt (imports_beside other differs settled) more = ((old.image, refl), more)

job_rooted : {converters : Converters} (app : ℕ) (old new : Medium) (earlier : List Pair)
    → (job : Job converters app old new) → AreRooted app earlier → AreRooted app (pairs_of app old new job earlier)
job_rooted app old new earlier (runs run) more =
    after_rooted app (world_at old.image) run.disk.reached run.disk.next earlier more
job_rooted app old new earlier (looks look) more = (inl refl, more)
job_rooted app old new earlier (imports next stands) more = (inl refl, more)
job_rooted app old new earlier (imports_beside other differs settled) more = (inl refl, more)

something : (s : Says) → (s ≡ nothing) ⊎ ¬ (s ≡ nothing)
something nothing = inl refl
something (absent g) = inr (λ e. let no : 1 ≡ 0 = ap code e in omega (arith, no))
  where
    code : Says → ℕ
    code nothing = 0
    code other = 1
something (installed g active previous) = inr (λ e. let no : 1 ≡ 0 = ap code e in omega (arith, no))
  where
    code : Says → ℕ
    code nothing = 0
    code other = 1

-- damage that leaves two copies of the root leaves clean places
pub damaged_clean : (app : ℕ) (image : Image) (damaged : List ℕ) (before after : App)
    → (¬ (before.says ≡ nothing) → HasEnoughRoot app damaged before.lacking)
    → Stands app image damaged before after → IsCleanApp app image
damaged_clean app image damaged before after spared stands = record {
  root = stands.clean_root;
  storages = stands.clean (⊎_elim
      (λ none. ⊎_elim (λ bad. inl (bad ∙ sym none)) (λ next. inr next) (stands.bad none))
      (λ some. stands.root some (spared some))
      (something before.says));
}

rests : AppLaws → (app : ℕ) → app < 8 → (m : Medium) → Quiet m → IsCleanApp app m.image
    → Known app m (resting_pairs m.image app)
rests laws app lt m quiet clean = record {
  clean = clean;
  reads = (
    fresh_pair (app_at m.image app) (app_at m.image app),
    inl refl,
    stands_itself app m.image [] clean,
  );
  imaged = ((m.image, refl), tt);
  rooted = (inl refl, tt);
  stands = λ c at. still_there laws app m.image [] c lt clean (settled_on (IsFileOf app) (quiet c at));
}

-- a process that begins over cases that stand so
begun : AppLaws → (app : ℕ) (pending : Case → Type 0) (pairs : List Pair) (m : Medium) → BeginImaged app pairs
    → AreRooted app pairs → ((c : Case) → pending c → StandsAmong app pairs c) → BeginsOver app pending m
    → Known app m pairs
begun laws app pending pairs m imaged rooted stands over =
    let there : StandsAmong app pairs over.read = stands over.read (over.some over.read over.is_now) in
    let p = there.0 in
    let start = imaged_at app pairs p imaged there.1 in
    let aged_so = there.2 over.sound in
    let here : Stands app over.read.left p.damaged p.before p.after = aged_so.2 p.damaged over.read.left aged_so.1 in
    record {
      clean = subst (λ i. IsCleanApp app i) over.gives (⊎_elim
          (λ none. laws.clean app start.0 over.read.left p.after
          (subst (λ x. Stands app over.read.left [] x p.after) start.1
          (subst (λ d. Stands app over.read.left d p.before p.after) none here)))
          (λ spared. damaged_clean app over.read.left p.damaged p.before p.after spared here)
          (rooted_at app pairs p rooted there.1));
      reads = (p, there.1, subst (λ i. Stands app i p.damaged p.before p.after) over.gives here);
      imaged = imaged;
      rooted = rooted;
      stands = λ c at. stands c (over.some c at);
    }

-- and one over what damage left of them
begun_damaged : (app : ℕ) (pending : Case → Type 0) (pairs : List Pair) (m : Medium) → BeginImaged app pairs
    → ((c : Case) → pending c → StandsAmong app pairs c) → (over : BeginsDamaged app pending pairs m)
    → Known app m (all_aged over.damaged pairs)
begun_damaged app pending pairs m imaged stands over =
    let came_by : CameBy app over.damaged pending over.read = over.some over.read over.is_now in
    let was = came_by.0 in
    let by_damage = came_by.3 in
    let there : StandsAmong app pairs was = stands was came_by.1 in
    let p = there.0 in
    let aged_so = there.2 over.sound in
    let here : Stands app over.read.left (p.damaged ++ over.damaged) p.before p.after =
    aged_so.2 (p.damaged ++ over.damaged) over.read.left
    (decays_on app p.damaged over.damaged aged_so.0 was.left over.read.left aged_so.1 by_damage) in
    record {
      clean = subst (λ i. IsCleanApp app i) over.gives
          (damaged_clean app over.read.left (p.damaged ++ over.damaged) p.before p.after
          (root_at app over.damaged pairs p over.enough there.1) here);
      reads = (
        aged over.damaged p,
        among_aged over.damaged pairs p there.1,
        subst (λ i. Stands app i (p.damaged ++ over.damaged) p.before p.after) over.gives here,
      );
      imaged = imaged_aged app over.damaged pairs imaged;
      rooted = rooted_aged app over.damaged pairs over.enough;
      stands = λ c at. aged_case c (over.some c at);
    }
  where
    aged_case : (c : Case) → CameBy app over.damaged pending c → StandsAmong app (all_aged over.damaged pairs) c
    aged_case c (was, is_pending, was_sound, by_damage) = let (q, at, so) = stands was is_pending in (
      aged over.damaged q,
      among_aged over.damaged pairs q at,
      λ sound. let came = so (was_sound sound) in (
        came.0,
        decays_on app q.damaged over.damaged came.0 was.left c.left came.1 by_damage,
        came.2,
      ),
    )

-- after each stop, with its damage, it stands between two of the pairs
stopped_so : (app : ℕ) (pending : Case → Type 0) (pairs : List Pair) (m : Medium)
    → ((c : Case) → pending c → StandsAmong app pairs c) → (stop : BeginsAfterStop app pending pairs m)
    → (p : Pair) × IsAmong pairs p × Stands app m.image (p.damaged ++ stop.damaged) p.before p.after
stopped_so app pending pairs m stands stop =
    let (p, at, so) = stands stop.case stop.is_now in
    let came = so stop.sound in (
      p,
      at,
      came.2 (p.damaged ++ stop.damaged) m.image
          (decays_on app p.damaged stop.damaged came.0 stop.case.left m.image came.1 stop.decays),
    )

-- Each job of a life begins with clean places, whatever ends came before, and in each case the application stands
-- between what it was after the last command and what was then in progress.
pub lives_go_on : {D : Type 0} → AppLaws → (medium : D → Medium) (converters : Converters) (app : ℕ)
    → app < 8 → (m : D) (pairs : List Pair) → Life medium converters app m pairs → Known app (medium m) pairs
lives_go_on laws medium converters app lt _ _ (formatted m quiet clean) = rests laws app lt (medium m) quiet clean
lives_go_on laws medium converters app lt _ _ (goes_on old new m pairs life job over) =
    let known : Known app (medium old) pairs = lives_go_on laws medium converters app lt old pairs life in
    begun laws app (JobMayLeave (medium old) (medium new) job) (pairs_of app (medium old) (medium new) job pairs)
    (medium m)
    (job_imaged app (medium old) (medium new) pairs lt job known.imaged)
    (job_rooted app (medium old) (medium new) pairs job known.rooted)
    (behind laws app (medium old) (medium new) pairs lt job known) over
lives_go_on laws medium converters app lt _ _ (goes_on_damaged old new m pairs life job over) =
    let known : Known app (medium old) pairs = lives_go_on laws medium converters app lt old pairs life in
    begun_damaged app (JobMayLeave (medium old) (medium new) job) (pairs_of app (medium old) (medium new) job pairs)
    (medium m) (job_imaged app (medium old) (medium new) pairs lt job known.imaged)
    (behind laws app (medium old) (medium new) pairs lt job known) over
lives_go_on laws medium converters app lt _ _ (stops old new m pairs life job stop) =
    let known : Known app (medium old) pairs = lives_go_on laws medium converters app lt old pairs life in
    let (p, at, stands) = stopped_so app (JobMayLeave (medium old) (medium new) job)
    (pairs_of app (medium old) (medium new) job pairs) (medium m)
    (behind laws app (medium old) (medium new) pairs lt job known) stop in
    rests laws app lt (medium m) stop.quiet (damaged_clean app (medium m).image (p.damaged ++ stop.damaged) p.before
    p.after (root_at app stop.damaged (pairs_of app (medium old) (medium new) job pairs) p stop.enough at) stands)

-- and by what each stop leaves, with its damage, it came from an image on which it stands so
pub aged_among : {converters : Converters} → AppLaws → (app : ℕ) → app < 8 → (old new m : Medium)
    (pairs : List Pair) → Known app old pairs → (job : Job converters app old new)
    → (stop : BeginsAfterStop app (JobMayLeave old new job) (pairs_of app old new job pairs) m)
    → (p : Pair) × IsAmong (pairs_of app old new job pairs) p × (from : Image)
    × DecaysApp app (p.damaged ++ stop.damaged) from m.image
    × ((damaged : List ℕ) (image : Image) → DecaysApp app damaged from image
    → Stands app image damaged p.before p.after)
aged_among laws app lt old new m pairs known job stop =
    let (p, at, so) = behind laws app old new pairs lt job known stop.case stop.is_now in
    let came = so stop.sound in (
      p,
      at,
      came.0,
      decays_on app p.damaged stop.damaged came.0 stop.case.left m.image came.1 stop.decays,
      came.2,
    )

-- and after each stop, with its damage, it stands so between two of the pairs
pub stops_keep : {converters : Converters} → AppLaws → (app : ℕ) → app < 8 → (old new m : Medium)
    (pairs : List Pair) → Known app old pairs → (job : Job converters app old new)
    → (stop : BeginsAfterStop app (JobMayLeave old new job) (pairs_of app old new job pairs) m)
    → (p : Pair) × IsAmong (pairs_of app old new job pairs) p
    × Stands app m.image (p.damaged ++ stop.damaged) p.before p.after
stops_keep laws app lt old new m pairs known job stop = stopped_so app (JobMayLeave old new job)
    (pairs_of app old new job pairs) m (behind laws app old new pairs lt job known) stop

-- ---- where nothing was pending before the run

-- what a run reached: nothing, or first the world of its start
abbrev pub HasFirst : (start : World) → (reached : List World) → (next : Disks) → Type 0
HasFirst start reached next = ((reached ≡ []) × (next ≡ disks start)) ⊎ ((ws : List World) × (reached ≡ start ∷ ws))

first_of : (converters : Converters) (how : Ending) (start : World) (handling : Handling) (reach : Reach)
    → Progress converters how start handling reach → HasFirst start reach.worlds reach.next
first_of converters how start handling reach (starting a b c d none is e) = inl (none, is)
first_of converters how start handling reach (between a is b c) = inr (worlds_of handling.turns, is)
first_of converters how start handling reach (within a b c is d) = inr (worlds_of handling.turns, is)

first_moment : (app : ℕ) (entry start : World) (reached : List World) (next : Disks) (c : Case) → start.doubt ≡ None
    → Between app (disks entry) (disks start) c → HasFirst start reached next → IsMomentOf app entry reached next c
first_moment app entry start reached next c none stands (inl empty) =
    subst (λ ws. IsMomentOf app entry ws next c) (sym empty.0)
    (inl (subst (λ ds. Between app (disks entry) ds c) (sym empty.1) stands))
first_moment app entry start reached next c none stands (inr first) =
    subst (λ ws. IsMomentOf app entry ws next c) (sym first.1)
    (inl (subst (λ d. AtMoment app (disks entry) (disks start) d c) (sym none) stands))

start_calm : (image : Image) → (after_start (world_at image)).doubt ≡ None
unfolding world_at
start_calm image = refl

-- each moment of such a run is one of its own
pub quiet_always : AppLaws → (converters : Converters) (app : ℕ) → app < 8 → (how : Ending) (handling : Handling)
    (old new : Medium) → (run : DiskSide converters how handling old new) → Quiet old → IsCleanApp app old.image
    → AreSoundDoubts app run.reached → EachCase (IsMomentOf app (world_at old.image) run.reached run.next) old new
quiet_always laws converters app lt how handling old new run quiet clean sound c s = ⊎_elim
    (λ was. first_moment app (world_at old.image) (after_start (world_at old.image)) run.reached run.next c
    (start_calm old.image)
    (between_worlds old.image app lt c (laws.still app old.image (reopened (app_at old.image app)) c lt clean
    (settled_on (IsFileOf app) (quiet c was)) (same_root refl refl)))
    (first_of converters how (after_start (world_at old.image)) handling _ run.progress))
    (λ moment. moment)
    (run.everywhen.always app lt clean sound c s)

-- ---- jobs that look

-- their sync failed
pub looks_unsynced : (old new : Medium) → OnlyReads old new → LooksOnly old new
looks_unsynced old new reads = record {
  image = reads.image;
  written = reads.written;
  during = λ c s. inl (reads.during c s);
}

-- it succeeded
pub looks_synced : (old new : Medium) → WritesNothing old new → Quiet new → LooksOnly old new
looks_synced old new look quiet = record {
  image = look.image;
  written = look.written;
  during = λ c s. ⊎_elim (λ was. inl was) (λ at. inr (subst (λ i. IsSettledAt i c) look.image (quiet c at)))
      (look.during c s);
}

-- one look and then another
pub looks_on : (told : Bool) (old mid new : Medium) → IsLawful told mid → Elapses old mid → Elapses mid new
    → LooksOnly old mid → LooksOnly mid new → LooksOnly old new
looks_on told old mid new lawful time later first more = record {
  image = more.image ∙ first.image;
  written = more.written ∙ first.written;
  during = λ c s. ⊎_elim
      (λ was. first.during c was)
      (λ at. ⊎_elim
      (λ here. first.during c (lawful.counts_now old.moment c time.later here))
      (λ settled. inr (subst (λ i. IsSettledAt i c) first.image settled))
      (more.during c at))
      (cases_on time later c s);
}

-- where nothing was pending it is idle
pub looks_idle : (told : Bool) (old new : Medium) → IsLawful told new → Elapses old new → LooksOnly old new → Quiet old
    → IsIdle old new
looks_idle told old new lawful time look quiet = record {
  image = look.image;
  quiet = λ c at. subst (λ i. IsSettledAt i c) (sym look.image) (here c (lawful.counts_now old.moment c time.later at));
  during = here;
  written = look.written;
}
  where
    here : (c : Case) → new.since old.moment c → IsSettledAt old.image c
    here c s = ⊎_elim (λ was. quiet c was) (λ settled. settled) (look.during c s)

-- After a sync that succeeded each moment is one that might have come before it, or one of those after it.
pub after_sync : {told : Bool} {old mid new : Medium} (P : Case → Type 0) → IsLawful told mid → Elapses old mid
    → WritesNothing old mid → Elapses mid new → EachCase P mid new → EachCase (OrBefore old P) old new
after_sync {mid = mid} P lawful time calls later each c s = ⊎_elim
    (λ first. ⊎_elim
    (λ was. inl was)
    (λ now. inr (each c (later.keeps mid.moment c (le_refl mid.moment)
    (lawful.counts_now mid.moment c (le_refl mid.moment) now))))
    (calls.during c first))
    (λ at. inr (each c at))
    (cases_on time later c s)

-- no call
pub looks_none : {told : Bool} {m : Medium} → IsLawful told m → LooksOnly m m
looks_none lawful = record { image = refl; written = refl; during = λ c s. inl (lawful.only_now c s) }
