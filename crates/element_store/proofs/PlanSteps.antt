-- Plans, one content after another.
use Rattle.std.proofs.Common.{◌≡◌, ◌≢◌, ◌⊎◌, ℕ, zero, suc, ◌+◌, ◌*◌, ◌<◌, ◌≤◌, List, [], ◌∷◌, ◌++◌, length, get_or}
use Rattle.std.proofs.Common.{Bool, true, false, refl, sym, ap, ◌∙◌, subst, arith, ⊎_elim, inl, inr}
use Rattle.std.specs.List.{All, AllZip, AllByRecursion}
use Rattle.std.proofs.Math.Nat.{mul-le-mul_left}
use Rattle.std.proofs.lemmas.Bool.{cases_Bool, cases_eq, cases_lt}
use Rattle.std.proofs.lemmas.List.{get_or_append_left, get_or_push, length_push}
use Rattle.std.proofs.lemmas.List.Elements.{All-push}
use Rattle.std.proofs.lemmas.List.Sums.{sum_by-append, sum_by-cons}
use Rattle.per_base.specs.declared.elements.Fresh.{Fresh}
use Rattle.per_base.specs.declared.elements.Content.TheVariants.{Good}
use Rattle.per_base.specs.Contents.{blocks_for}
use Rattle.disk_model.specs.declared.place.Place.{Place}
use Rattle.disk_model.specs.Image.{Image}
use Rattle.block_files.specs.Parts.{is_changed}
use Rattle.block_files.specs.BlockSets.{contains, AreDistinct, IsNotAmong, AreFree, IsAdded}
use Rattle.block_files.specs.Areas.{AllFull}
use Rattle.block_files.specs.lemmas.PartLemmas.{same_part, changed_to-le}
use Rattle.block_files.specs.lemmas.Partly.{length-part}
use Rattle.block_files.specs.lemmas.Sharing.{free_distinct}
use Rattle.index_text.specs.declared.entries.IndexEntry.{IndexEntry}
use Rattle.element_state.specs.Views.{entry_view}
use Rattle.element_state.specs.States.{fresh_entry, fresh_element}
use Rattle.element_store.specs.declared.jobs.Job.{Job}
use Rattle.disk_model.specs.Place.{area}
use Rattle.disk_model.specs.Case.{Case}
use Rattle.disk_model.specs.Medium.{Medium}
use Rattle.disk_model.specs.lemmas.Frames.{case_less}
use Rattle.block_files.specs.Areas.{HoldsShared}
use Rattle.block_files.specs.lemmas.Everywhere.{shared_none}
use Rattle.element_store.specs.Spelled.{IsContentsCase}
use Rattle.element_store.specs.Jobs.{IsRoomy, AreApart, IsJobWritten, IsSparedByJob, IsLeftByAll, HasShared, IsJobsCase}
use Rattle.element_store.specs.Jobs.{job_cost}
use Rattle.element_store.specs.Jobs.{jobs_cost}
use Rattle.element_store.specs.Plans.{HasAll, KeepsTaken, AreDisjoint, AreLaidApart, IsPlacedJob, ArePlacedJobs}
use Rattle.element_store.specs.Plans.{IsWrittenEntry}
use Rattle.element_store.specs.Plans.{IsPlanOf, blocks_of_all}
use Rattle.element_store.proofs.Fulls.{view_full}

-- ---- lists, one item more

pub zip_push : {X Y : Type 0} (R : X → Y → Type 0) (xs : List X) (ys : List Y) (x : X) (y : Y) → AllZip R xs ys → R x y
    → AllZip R (xs ++ x ∷ []) (ys ++ y ∷ [])
zip_push R [] [] x y zip is = (is, tt)
zip_push R [] (b ∷ ys) x y zip is = absurd zip
zip_push R (a ∷ xs) [] x y zip is = absurd zip
zip_push R (a ∷ xs) (b ∷ ys) x y zip is = (zip.0, zip_push R xs ys x y zip.1 is)

pub each_push : {X : Type 0} (P : X → Type 0) (xs : List X) (x : X) → AllByRecursion P xs → P x
    → AllByRecursion P (xs ++ x ∷ [])
each_push P [] x all is = (is, tt)
each_push P (a ∷ xs) x all is = (all.0, each_push P xs x all.1 is)

pub each_map : {X : Type 0} (P Q : X → Type 0) (xs : List X) → ((x : X) → P x → Q x) → AllByRecursion P xs
    → AllByRecursion Q xs
each_map P Q [] to all = tt
each_map P Q (x ∷ xs) to all = (to x all.0, each_map P Q xs to all.1)

pub all_map : {X : Type 0} (P Q : X → Type 0) (xs : List X) → ((x : X) → P x → Q x) → All P xs → All Q xs
all_map P Q xs to all k d lt = to (get_or xs k d) (all k d lt)

pub all_front : {X : Type 0} (P : X → Type 0) (xs : List X) (x : X) → All P (xs ++ x ∷ []) → All P xs
all_front P xs x all k d lt = subst P (get_or_append_left xs (x ∷ []) d k lt)
    (all k d (omega (arith, lt, length_push xs x)))

pub all_last : {X : Type 0} (P : X → Type 0) (xs : List X) (x : X) → All P (xs ++ x ∷ []) → P x
all_last P xs x all = subst P (get_or_push xs x x (length xs) refl)
    (all (length xs) x (omega (arith, length_push xs x)))

-- ---- sets of blocks

pub both_ways : (b : Bool) → b ≡ true → b ≡ false → ⊥
both_ways b is isnt = cc

-- a block is one of these, or apart from them
pub apart_or_one : (blocks : List ℕ) (b : ℕ) → IsNotAmong blocks b
    ⊎ ((i : ℕ) × (i < length blocks) × (b ≡ get_or blocks i 0))
apart_or_one [] b = inl (λ i lt e. absurd (omega (arith, lt)))
apart_or_one (x ∷ blocks) b = ⊎_elim
    (λ same. inr (0, omega arith, same))
    (λ other. ⊎_elim
    (λ apart. inl (λ i lt e. at i lt e other apart))
    (λ one. let (i, lt, e) = one in inr (suc i, omega (arith, lt), e))
    (apart_or_one blocks b))
    (cases_eq b x)
  where
    at : (i : ℕ) → i < length (x ∷ blocks) → b ≡ get_or (x ∷ blocks) i 0 → b ≢ x → IsNotAmong blocks b → ⊥
    at zero lt e other apart = other e
    at (suc i) lt e other apart = apart i (omega (arith, lt)) e

pub added_keeps : (blocks : List ℕ) (old new : List Bool) → IsAdded blocks old new → KeepsTaken old new
added_keeps blocks old new added b is = ⊎_elim
    (λ apart. added.kept b apart ∙ is)
    (λ one. let (i, lt, e) = one in ap (contains new) e ∙ added.added i lt)
    (apart_or_one blocks b)

pub keeps_all : (old new : List Bool) (blocks : List ℕ) → KeepsTaken old new → HasAll old blocks → HasAll new blocks
keeps_all old new blocks keeps all i lt = keeps (get_or blocks i 0) (all i lt)

-- what the set has, and what it lacks
pub disjoint_by : (set : List Bool) (xs ys : List ℕ) → HasAll set xs
    → ((j : ℕ) → j < length ys → contains set (get_or ys j 0) ≡ false) → AreDisjoint xs ys
disjoint_by set xs ys has lacks i j lt less e = both_ways (contains set (get_or ys j 0))
    (sym (ap (contains set) e) ∙ has i lt) (lacks j less)

-- ---- entries, one more

pub laid_push : (entries : List IndexEntry) (e : IndexEntry) → AreLaidApart entries → AreDistinct e.blocks
    → AllByRecursion (λ (f : IndexEntry). AreDisjoint f.blocks e.blocks) entries → AreLaidApart (entries ++ e ∷ [])
laid_push [] e laid distinct all = (distinct, tt, tt)
laid_push (f ∷ entries) e laid distinct all = (
  laid.0,
  each_push (λ (h : IndexEntry). AreDisjoint f.blocks h.blocks) entries e laid.1 all.0,
  laid_push entries e laid.2 distinct all.1,
)

-- ---- jobs, one more

module _ (start now new : List Bool) (jobs : List Job) (job : Job) (keeps : KeepsTaken start now)
    (added : IsAdded job.blocks now new) (roomy : IsRoomy job)
    (written : (i : ℕ) → i < length job.blocks → is_changed job.bytes.now job.was.now i ≡ true
    → contains now (get_or job.blocks i 0) ≡ false)
    (shared : (i : ℕ) → i < length job.blocks → is_changed job.bytes.now job.was.now i ≡ false
    → contains start (get_or job.blocks i 0) ≡ true) where
  not_at_start : (b : ℕ) → contains now b ≡ false → contains start b ≡ false
  not_at_start b out = ⊎_elim (λ was. absurd (both_ways (contains now b) (keeps b was) out)) (λ none. none)
      (cases_Bool (contains start b))

  job_placed : IsPlacedJob start new job
  job_placed = record {
    taken = added.added;
    written = λ i lt is.
        not_at_start (get_or job.blocks i 0) (written i lt is);
    shared = shared;
  }

  others_placed : All (IsPlacedJob start now) jobs → All (IsPlacedJob start new) jobs
  others_placed all k d lt = let it = all k d lt in
      record {
        taken = keeps_all now new (get_or jobs k d).blocks (added_keeps job.blocks now new added) it.taken;
        written = it.written;
        shared = it.shared;
      }

  -- the blocks of an earlier job are none that the new one writes
  earlier_left : (x : Job) → IsPlacedJob start now x → (m : ℕ) → m < length x.blocks
      → IsSparedByJob job (get_or x.blocks m 0)
  earlier_left x placed m lt i less is e = both_ways (contains now (get_or job.blocks i 0))
      (sym (ap (contains now) e) ∙ placed.taken m lt) (written i less is)

  -- the blocks of the new one are none that an earlier job writes
  new_left : (x : Job) → IsPlacedJob start now x → (m : ℕ) → m < length job.blocks
      → IsSparedByJob x (get_or job.blocks m 0)
  new_left x placed m lt i less is e = ⊎_elim
      (λ differs. both_ways (contains now (get_or job.blocks m 0)) (ap (contains now) e ∙ placed.taken i less)
      (written m lt differs))
      (λ same. both_ways (contains start (get_or job.blocks m 0)) (shared m lt same)
      (ap (contains start) e ∙ placed.written i less is))
      (cases_Bool (is_changed job.bytes.now job.was.now m))

  at_old : (i : ℕ) (d : Job) → i < length jobs → get_or (jobs ++ job ∷ []) i d ≡ get_or jobs i d
  at_old i d lt = get_or_append_left jobs (job ∷ []) d i lt

  at_new : (i : ℕ) (d : Job) → length jobs ≡ i → get_or (jobs ++ job ∷ []) i d ≡ job
  at_new i d e = get_or_push jobs job d i e

  abbrev Leaves : Job → Job → Type 0
  Leaves x y = (m : ℕ) → m < length x.blocks → IsSparedByJob y (get_or x.blocks m 0)

  all_apart : All (IsPlacedJob start now) jobs → AreApart jobs → AreApart (jobs ++ job ∷ [])
  all_apart placed apart i j d differ lt less =
      let long = length_push jobs job in
      let P : Job → Type 0 = λ x. Leaves x (get_or (jobs ++ job ∷ []) j d) in
      ⊎_elim
      (λ below. subst P (sym (at_old i d below)) (⊎_elim
      (λ lower. subst (Leaves (get_or jobs i d)) (sym (at_old j d lower)) (apart i j d differ below lower))
      (λ last. subst (Leaves (get_or jobs i d)) (sym (at_new j d
      (let e : length jobs ≡ j = omega (arith, last, less, long) in e)))
      (earlier_left (get_or jobs i d) (placed i d below)))
      (cases_lt j (length jobs))))
      (λ here.
      let i_is : length jobs ≡ i = omega (arith, here, lt, long) in
      let lower : j < length jobs = omega (arith, less, long, i_is, differ) in
      subst P (sym (at_new i d i_is)) (subst (Leaves job) (sym (at_old j d lower))
      (new_left (get_or jobs j d) (placed j d lower))))
      (cases_lt i (length jobs))

  pub placed_push : ArePlacedJobs start now jobs → ArePlacedJobs start new (jobs ++ job ∷ [])
  placed_push was = record {
    roomy = All-push IsRoomy jobs job was.roomy roomy;
    placed = All-push (IsPlacedJob start new) jobs job (others_placed was.placed) job_placed;
    apart = all_apart was.placed was.apart;
  }

pub placed_none : (set : List Bool) → ArePlacedJobs set set []
placed_none set = record {
  roomy = λ k d lt. absurd (omega (arith, lt));
  placed =
      λ k d lt. absurd (omega (arith, lt));
  apart = λ i j d differ lt less. absurd (omega (arith, lt));
}

-- beside no earlier content every part is written
pub none_same : (bytes : List ℕ) (i : ℕ) → i < blocks_for (length bytes) → is_changed bytes [] i ≡ false → ⊥
none_same bytes i lt same = absurd (omega (
  arith,
  ap length (same_part bytes [] i same),
  length-part bytes i,
  length-part [] i,
))

-- ---- contents that are written whole

pub plan_none : (generation : ℕ) (set : List Bool) → IsPlanOf generation [] set set [] []
plan_none generation set = record {
  made = tt;
  laid = tt;
  taken = tt;
  placed = placed_none set;
  whole = λ k d lt. absurd (omega (arith, lt));
  keeps = λ b is. is;
  capacity = refl;
  free = omega arith;
  cost = omega arith;
  views = λ image place m some enough done. tt;
}

pub plan_push : (generation : ℕ) (contents : List Fresh) (start now new : List Bool) (entries : List IndexEntry)
    (jobs : List Job) (f : Fresh) (e : IndexEntry) (job : Job)
    → IsWrittenEntry generation f e → AreFree now e.blocks → IsAdded e.blocks now new → job.blocks ≡ e.blocks
    → job.bytes.now ≡ f.bytes → job.was.now ≡ []
    → IsPlanOf generation contents start now entries jobs
    → IsPlanOf generation (contents ++ f ∷ []) start new (entries ++ e ∷ []) (jobs ++ job ∷ [])
plan_push generation contents start now new entries jobs f e job made free added blocks bytes was plan = record {
  made = zip_push (IsWrittenEntry generation) contents entries f e plan.made made;
  laid = laid_push entries e plan.laid (free_distinct now e.blocks free)
      (each_map (λ (h : IndexEntry). HasAll now h.blocks) (λ (h : IndexEntry). AreDisjoint h.blocks e.blocks) entries
      (λ h has. disjoint_by now h.blocks e.blocks has free.free) plan.taken);
  taken = each_push (λ (h : IndexEntry). HasAll new h.blocks) entries e
      (each_map (λ (h : IndexEntry). HasAll now h.blocks) (λ (h : IndexEntry). HasAll new h.blocks) entries
      (λ h has. keeps_all now new h.blocks grows has) plan.taken) added.added;
  placed = placed_push start now new jobs job plan.keeps
      (subst (λ (bs : List ℕ). IsAdded bs now new) (sym blocks) added) roomy
      (λ i lt is. ap (contains now) (ap (λ (bs : List ℕ). get_or bs i 0) blocks) ∙ free.free i
      (omega (arith, lt, long)))
      (λ i lt same. absurd (none_same f.bytes i (omega (arith, lt, long, made.count))
      (subst (λ (xs : List ℕ). is_changed f.bytes xs i ≡ false) was
      (subst (λ (xs : List ℕ). is_changed xs job.was.now i ≡ false) bytes same))))
      plan.placed;
  whole = All-push (λ (j : Job). j.was.now ≡ []) jobs job plan.whole was;
  keeps = λ b is. grows b (plan.keeps b is);
  capacity = added.capacity ∙ plan.capacity;
  free = omega (
    arith,
    plan.free,
    added.free,
    made.count,
    sum_by-append (λ (x : Fresh). blocks_for (length x.bytes)) contents (f ∷ []),
    sum_by-cons (λ (x : Fresh). blocks_for (length x.bytes)) f [],
  );
  cost = omega (
    arith,
    plan.cost,
    job_few,
    sum_by-append job_cost jobs (job ∷ []),
    sum_by-cons job_cost job [],
    sum_by-append (λ (x : Fresh). blocks_for (length x.bytes)) contents (f ∷ []),
    sum_by-cons (λ (x : Fresh). blocks_for (length x.bytes)) f [],
  );
  views = λ image place m some enough done.
      zip_push (λ (g : Fresh) (h : IndexEntry). entry_view image place m h ≡ fresh_entry generation (fresh_element g))
      contents entries f e
      (plan.views image place m some enough (all_front (IsJobWritten image place) jobs job done))
      (shown image place m some enough (all_last (IsJobWritten image place) jobs job done));
}
  where
    grows : KeepsTaken now new
    grows = added_keeps e.blocks now new added

    long : length job.blocks ≡ length e.blocks
    long = ap length blocks

    job_few : job_cost job ≤ 256 * blocks_for (length f.bytes)
    job_few =
        let few = changed_to-le job.bytes.now job.was.now (blocks_for (length job.bytes.now)) in
        subst (λ (xs : List ℕ). job_cost job ≤ 256 * blocks_for (length xs)) bytes (omega (arith, few))

    roomy : IsRoomy job
    roomy = record {
      room = (let a = ap length bytes in omega (arith, a, long, made.count));
      distinct = subst AreDistinct (sym blocks) (free_distinct now e.blocks free);
    }

    shown : (image : Image) (place : Place) (m : ℕ) → 1 ≤ m → m ≤ place.copies
        → IsJobWritten image place job
        → entry_view image place m e ≡ fresh_entry generation (fresh_element f)
    shown image place m some enough done =
        let a : AllFull place e.blocks job.bytes.now image =
        subst (λ (bs : List ℕ). AllFull place bs job.bytes.now image) blocks done in
        let b : AllFull place e.blocks f.bytes image =
        subst (λ (xs : List ℕ). AllFull place e.blocks xs image) bytes a in
        view_full image place m e f.bytes some enough b made.hash made.len
        ∙ ap (λ (n : List ℕ). record {
          name = n;
          info = e.info;
          changed = e.changed;
          len = e.len;
          content =
              Good f.bytes;
          lacking = [];
        }) made.name
        ∙ ap (λ i. record {
          name = f.name;
          info = i;
          changed = e.changed;
          len = e.len;
          content = Good f.bytes;
          lacking =
              [];
        }) made.info
        ∙ ap (λ (c : ℕ). record {
          name = f.name;
          info = f.info;
          changed = c;
          len = e.len;
          content =
              Good f.bytes;
          lacking = [];
        }) made.changed
        ∙ ap (λ (l : ℕ). record {
          name = f.name;
          info = f.info;
          changed = generation;
          len = l;
          content =
              Good f.bytes;
          lacking = [];
        }) made.len

-- ---- what the plan says of the disk

-- beside nothing, nothing is shared
pub shared_of_whole : (image : Image) (place : Place) (jobs : List Job) → All (λ (job : Job). job.was.now ≡ []) jobs
    → All (HasShared image place) jobs
shared_of_whole image place jobs whole k d lt c few =
    subst (λ (was : List ℕ). HoldsShared (image (area place c)) (get_or jobs k d).blocks (get_or jobs k d).bytes.now
    was) (sym (whole k d lt))
    (shared_none (image (area place c)) (get_or jobs k d).blocks (get_or jobs k d).bytes.now)

-- what was in the set at the start is written by no job
pub left_of_placed : (start now : List Bool) (jobs : List Job) → ArePlacedJobs start now jobs → (k : ℕ)
    → contains start k ≡ true → IsLeftByAll jobs k
left_of_placed start now jobs placed k taken x d lt i less is e =
    both_ways (contains start k) taken (ap (contains start) e ∙ (placed.placed x d lt).written i less is)

-- what is written whole is written in whole blocks
pub written_of_plan : (copies blocks was now : ℕ) (jobs : List Job) → jobs_cost jobs ≤ 256 * blocks
    → now ≤ was + copies * jobs_cost jobs
    → now ≤ was + copies * (256 * blocks)
written_of_plan copies blocks was now jobs few written =
    let wider : copies * jobs_cost jobs ≤ copies * (256 * blocks) = mul-le-mul_left copies few in
    omega (arith, written, wider)

pub jobs_to_contents : (place : Place) (start now : List Bool) (jobs : List Job) (old new : Medium)
    (done more : Type 0) → ArePlacedJobs start now jobs → (done → more)
    → (c : Case) → IsJobsCase place jobs old new done c → IsContentsCase place start old new more c
jobs_to_contents place start now jobs old new done more placed to c is = ⊎_elim
    (λ some. let (d, was, step) = some in inl (
      d,
      was,
      case_less (λ f none. none)
          (λ k taken. left_of_placed start now jobs placed k taken) step,
    ))
    (λ all. inr (to all.0, all.1))
    is
