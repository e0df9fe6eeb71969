-- Jobs done one after another.
use Rattle.std.proofs.Common.{◌≡◌, ◌≢◌, ℕ, ◌+◌, ◌*◌, ◌<◌, ◌≤◌, List, length, get_or, take, Bool, IsTrue, sym, ap, ◌∙◌}
use Rattle.std.proofs.Common.{subst, arith, ⊎_elim, le_trans, le_of_eq}
use Rattle.std.specs.List.{All}
use Rattle.std.proofs.Math.Nat.{mul-le-mul_left}
use Rattle.std.proofs.lemmas.Bool.{cases_eq}
use Rattle.std.proofs.lemmas.List.{take_all, get_or_default}
use Rattle.std.proofs.lemmas.List.Sums.{sum_by_more, sum_by_more_le}
use Rattle.disk_model.specs.Image.{Image}
use Rattle.disk_model.specs.Place.{area, IsNoArea}
use Rattle.disk_model.specs.Medium.{Medium, IsLawful}
use Rattle.disk_model.specs.Frame.{Keeps}
use Rattle.disk_model.specs.declared.place.Place.{Place}
use Rattle.block_files.specs.Areas.{IsFull, HoldsShared}
use Rattle.block_files.specs.Writes.{Wrote, Tore}
use Rattle.block_files.specs.lemmas.Stretches.{wrote_none, wrote_on, wrote_tore, wrote_less, tore_less}
use Rattle.block_files.specs.lemmas.AsideLaws.{joined_kept, within_grown}
use Rattle.element_store.specs.declared.jobs.Job.{Job}
use Rattle.element_store.specs.Jobs.{IsSparedByJob, IsLeftByAll, AreApart, HasShared, IsJobWritten, job_cost, jobs_cost}

-- ---- contents in blocks that whole writes leave alone

pub full_kept : (spared apart : ℕ → Type 0) (old new : Image) (f : ℕ) (blocks bytes : List ℕ)
    → Keeps spared apart old new
    → ((m : ℕ) → m < length blocks → apart (get_or blocks m 0)) → IsFull (old f) blocks bytes
    → IsFull (new f) blocks bytes
full_kept spared apart old new f blocks bytes keeps is full = record {
  bytes_are = joined_kept (old f) (new f) blocks (length bytes)
      (λ m j lt small. keeps.bytes f (get_or blocks m 0) j small (is m lt)) ∙ full.bytes_are;
  inside = within_grown (old f) (new f) blocks (length bytes) (keeps.no_shorter f) full.inside;
}

pub shared_kept : (spared apart : ℕ → Type 0) (old new : Image) (f : ℕ) (blocks bytes was : List ℕ)
    → Keeps spared apart old new
    → ((m : ℕ) → m < length blocks → apart (get_or blocks m 0)) → HoldsShared (old f) blocks bytes was
    → HoldsShared (new f) blocks bytes was
shared_kept spared apart old new f blocks bytes was keeps is shared i lt same j small inside =
    let at = shared i lt same j small inside in
    (le_trans at.0 (keeps.no_shorter f), keeps.bytes f (get_or blocks i 0) j small (is i lt) ∙ at.1)

-- ---- the first i jobs are done

pub record AreDone (told : Bool) (place : Place) (jobs : List Job) (i : ℕ) (old now : Medium) : Type 0 where
  pub wrote : Wrote told (IsNoArea place) (IsLeftByAll jobs) (place.copies * jobs_cost (take i jobs)) old now
  pub full : IsTrue told → (x : ℕ) (d : Job) → x < i → x < length jobs → IsJobWritten now.image place (get_or jobs x d)
  pub shared : IsTrue told → (x : ℕ) (d : Job) → i ≤ x → x < length jobs
      → HasShared now.image place (get_or jobs x d)

module _ (told : Bool) (place : Place) (jobs : List Job) where
  pub done_none : (m : Medium) → IsLawful told m → (IsTrue told → All (HasShared m.image place) jobs)
      → AreDone told place jobs 0 m m
  done_none m law shared = record {
    wrote = wrote_less told (IsNoArea place) (IsLeftByAll jobs) (IsNoArea place) (IsLeftByAll jobs)
        (λ f is. is) (λ k is. is)
        0 (place.copies * jobs_cost (take 0 jobs)) (omega arith) m m
        (wrote_none told (IsNoArea place) (IsLeftByAll jobs) m law);
    full = λ tells x d less lt. absurd (omega arith);
    shared = λ tells x d le lt. shared tells x d lt;
  }

  -- the next job, which leaves the blocks of the others alone
  module _ (i : ℕ) (job : Job) (old mid new : Medium) (lt : i < length jobs) (is : job ≡ get_or jobs i job)
      (wrote : Wrote told (IsNoArea place) (IsSparedByJob job) (place.copies * job_cost job) mid new) where
    left_by : (x : ℕ) (d : Job) → x ≢ i → x < length jobs → AreApart jobs → (m : ℕ)
        → m < length (get_or jobs x d).blocks → IsSparedByJob job (get_or (get_or jobs x d).blocks m 0)
    left_by x d other inside apart m less =
        let P : Job → Type 0 = λ j. IsSparedByJob j (get_or (get_or jobs x job).blocks m 0) in
        let same : get_or jobs x d ≡ get_or jobs x job = get_or_default jobs x d job inside in
        let Q : Job → Type 0 = λ j. IsSparedByJob job (get_or j.blocks m 0) in
        let short : m < length (get_or jobs x job).blocks = subst (λ (j : Job). m < length j.blocks) same less in
        subst Q (sym same) (subst P (sym is) (apart x i job other inside lt m short))

    pub done_more : AreApart jobs → (IsTrue told → IsJobWritten new.image place job)
        → AreDone told place jobs i old mid → AreDone told place jobs (i + 1) old new
    done_more apart now was = record {
      wrote = (
          let next = wrote_less told (IsNoArea place) (IsSparedByJob job) (IsNoArea place) (IsLeftByAll jobs)
          (λ f none. none)
          (λ k all. subst (λ (j : Job). IsSparedByJob j k) (sym is) (all i job lt)) (place.copies * job_cost job)
          (place.copies * job_cost job) (omega arith) mid new wrote in
          let both = wrote_on told (IsNoArea place) (IsLeftByAll jobs) (place.copies * jobs_cost (take i jobs))
          (place.copies * job_cost job) old mid new was.wrote next in
          let sum : jobs_cost (take (i + 1) jobs) ≡ jobs_cost (take i jobs) + job_cost job =
          sum_by_more job_cost jobs i job lt ∙ ap (λ (j : Job). jobs_cost (take i jobs) + job_cost j) (sym is) in
          let e = ap (λ (n : ℕ). place.copies * n) sum in
          let a = jobs_cost (take i jobs) in
          let b = job_cost job in
          let split : place.copies * (a + b) ≡ place.copies * a + place.copies * b = omega arith in
          let P : ℕ → Type 0 = λ n. Wrote told (IsNoArea place) (IsLeftByAll jobs) n old new in
          subst P (sym (e ∙ split)) both);
      full = λ tells x d less inside. ⊎_elim
          (λ here. (
          let at : get_or jobs x d ≡ job = get_or_default jobs x d job inside ∙ ap (λ (n : ℕ). get_or jobs n job) here
          ∙ sym is in
          let P : Job → Type 0 = λ j. IsJobWritten new.image place j in
          subst P (sym at) (now tells)))
          (λ other. λ c few. full_kept (IsNoArea place) (IsSparedByJob job) mid.image new.image (area place c)
          (get_or jobs x d).blocks (get_or jobs x d).bytes.now
          (wrote.keeps tells) (left_by x d other inside apart)
          (was.full tells x d (let ne : x ≢ i = other in omega arith) inside c few))
          (cases_eq x i);
      shared = λ tells x d le inside. λ c few. (
          let other : x ≢ i = omega arith in
          shared_kept (IsNoArea place) (IsSparedByJob job) mid.image new.image (area place c) (get_or jobs x d).blocks
          (get_or jobs x d).bytes.now (get_or jobs x d).was.now
          (wrote.keeps tells) (left_by x d other inside apart) (was.shared tells x d (omega arith) inside c few));
    }

  pub done_failed : (i : ℕ) (job : Job) (old mid new : Medium) → i < length jobs → job ≡ get_or jobs i job
      → Tore told (IsNoArea place) (IsSparedByJob job) (place.copies * job_cost job) mid new
      → AreDone told place jobs i old mid
      → Tore told (IsNoArea place) (IsLeftByAll jobs) (place.copies * jobs_cost jobs) old new
  done_failed i job old mid new lt is tore was =
      let next = tore_less told (IsNoArea place) (IsSparedByJob job) (IsNoArea place) (IsLeftByAll jobs)
      (λ f none. none)
      (λ k all. subst (λ (j : Job). IsSparedByJob j k) (sym is) (all i job lt)) (place.copies * job_cost job)
      (place.copies * job_cost job) (omega arith) mid new tore in
      let both = wrote_tore told (IsNoArea place) (IsLeftByAll jobs) (place.copies * jobs_cost (take i jobs))
      (place.copies * job_cost job) old mid new was.wrote next in
      let sum : jobs_cost (take i jobs) + job_cost job ≤ jobs_cost jobs =
      le_trans (le_of_eq (ap (λ (j : Job). jobs_cost (take i jobs) + job_cost j) is))
      (sum_by_more_le job_cost jobs i job lt) in
      let le = mul-le-mul_left place.copies sum in
      let a = jobs_cost (take i jobs) in
      let b = job_cost job in
      let split : place.copies * (a + b) ≡ place.copies * a + place.copies * b = omega arith in
      tore_less told (IsNoArea place) (IsLeftByAll jobs) (IsNoArea place) (IsLeftByAll jobs)
      (λ f none. none) (λ k all. all)
      (place.copies * a + place.copies * b) (place.copies * jobs_cost jobs) (omega (arith, le, split)) old new both

  pub done_all : (i : ℕ) (old now : Medium) → i ≡ length jobs → AreDone told place jobs i old now
      → Wrote told (IsNoArea place) (IsLeftByAll jobs) (place.copies * jobs_cost jobs) old now
  done_all i old now all was =
      let P : List Job → Type 0 = λ js. Wrote told (IsNoArea place) (IsLeftByAll jobs) (place.copies * jobs_cost js)
      old now in
      subst P (take_all i jobs (le_of_eq (sym all))) was.wrote

  pub done_full : (i : ℕ) (old now : Medium) → i ≡ length jobs → AreDone told place jobs i old now
      → IsTrue told → All (IsJobWritten now.image place) jobs
  done_full i old now all was tells x d inside = was.full tells x d (omega arith) inside
