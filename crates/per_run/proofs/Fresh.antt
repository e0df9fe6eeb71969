-- Disks that were formatted, and jobs that did not come to their output.
use Rattle.std.proofs.Common.{ℕ, zero, suc, List, [], ◌∷◌, replicate, ◌≡◌, ◌≤◌, ◌<◌, ◌+◌, ◌*◌, ◌⊎◌, inl, inr, refl}
use Rattle.std.proofs.Common.{sym, ◌∙◌, ap, ap₂, append-nil, subst, arith, Option, None, Bool, IsTrue}
use Rattle.disk_model.specs.Frame.{Spares}
use Rattle.disk_model.specs.Image.{Image}
use Rattle.disk_model.specs.Medium.{Medium, OnlyReads}
use Rattle.command_text.specs.Generated.{generated}
use Rattle.deploy_laws.specs.Apps.{App, app_at}
use Rattle.deploy_rows.specs.Costs.{format_cost}
use Rattle.deploy_rows.specs.Rows.{empty_app}
use Rattle.run_model.specs.Bounds.{AreBounded}
use Rattle.run_model.specs.Converters.{Converters}
use Rattle.run_model.specs.Endings as endings
use Rattle.run_model.specs.Endings.{AfterSome, InReply}
use Rattle.run_model.specs.Moments.{last_of}
use Rattle.run_model.specs.RunLaws.{ends_settled}
use Rattle.run_model.specs.Runs as runs
use Rattle.run_model.specs.Runs.{DiskSide, Handling, IsSettled, Progress, Reach, between, starting, without_sink}
use Rattle.run_model.specs.Runtimes.{IsNoRoot, Memory}
use Rattle.run_model.specs.Turns.{AreBlamed, DiskBytes, Follow, Turn, bytes_now, replies_of, worlds_of}
use Rattle.run_model.specs.Worlds.{Application, World, after_start, all_resting, formatted, resting, world_at}
use Rattle.run_model.specs.Writes.{AllNeedNothing, AreRootsAlone}
use Rattle.per_run.specs.declared.tally.Tally.{Tally}
use Rattle.per_run.specs.Jobs.{BeginWith, FailsAtThree, Formats, Generates, IsLeftBy, WritesOutput, outputs}
use Rattle.per_run.specs.Jobs.{summary}
use Rattle.per_run.specs.Serves.{FormatsWithin}
use Rattle.per_run.specs.Steps.{Counted, IsGoing, IsServeBegun, RunsShort, Tallies}
use Rattle.per_run.proofs.Courses.{counts_whole}
use Rattle.per_run.proofs.Goes.{goes_none}
use Rattle.per_run.proofs.Outputs.{not_done, writes_none}
use Rattle.per_run.proofs.Tallied.{length_all}
use Rattle.per_run.proofs.Settings.{setting}

-- ---- the world of a disk that was formatted

resting_all : (f : ℕ → App) (a : App) (app n : ℕ) → ((i : ℕ) → app ≤ i → i < app + n → f i ≡ a)
    → all_resting f app n ≡ replicate n (resting a)
resting_all f a app zero is = refl
resting_all f a app (suc n) is = ap₂ (λ (x : App) (xs : List Application). resting x ∷ xs)
    (is app (omega arith) (omega arith))
    (resting_all f a (app + 1) n (λ i least most. is i (omega (arith, least)) (omega (arith, most))))

pub is_formatted : (image : Image) → ((app : ℕ) → app < 8 → app_at image app ≡ empty_app 1) → world_at image
    ≡ formatted
unfolding world_at
is_formatted image each = ap (λ (apps : List Application). record formatted { apps = apps })
    (resting_all (app_at image) (empty_app 1) 0 8 (λ i least most. each i most))

-- ---- the formatting and the start

pub spares_on : {spared : ℕ → Type 0} {a b c : Image} → Spares spared a b → Spares spared b c → Spares spared a c
spares_on first later file is = later file is ∙ first file is

-- a formatting that was not begun
pub formats_still : (m : Medium) → FormatsWithin (bytes_now m) (bytes_now m)
formats_still m = record { roots = λ file is. refl; written = omega arith }

-- one that did not end
pub formats_short : (old new : Medium) → Spares IsNoRoot old.image new.image
    → new.written ≤ old.written + 8 * format_cost → FormatsWithin (bytes_now old) (bytes_now new)
formats_short old new roots written = record { roots = roots; written = omega (arith, written) }

-- one that did, and the start after it, which writes nothing
pub formats_on : (old middle : Medium) (new : DiskBytes) → Spares IsNoRoot old.image middle.image
    → middle.written ≤ old.written + 8 * format_cost → AreRootsAlone middle.image
    → Spares IsNoRoot middle.image new.image → (AllNeedNothing middle.image → new ≡ bytes_now middle)
    → FormatsWithin (bytes_now old) new
formats_on old middle new roots written alone started already = record {
  roots = spares_on roots started;
  written =
      let same : new.written ≡ middle.written = ap (λ (b : DiskBytes). b.written)
      (already (λ app lt. inl (alone app lt))) in
      omega (arith, written, same);
}

-- so the disk is the formatted one
pub formatted_still : (middle : Medium) (new : DiskBytes) → world_at middle.image ≡ formatted
    → AreRootsAlone middle.image → (AllNeedNothing middle.image → new ≡ bytes_now middle)
    → world_at new.image ≡ formatted
formatted_still middle new world alone already = ap (λ (b : DiskBytes). world_at b.image)
    (already (λ app lt. inl (alone app lt))) ∙ world

-- one that was looked for first
pub formats_later : (old middle new : Medium) → OnlyReads old middle
    → FormatsWithin (bytes_now middle) (bytes_now new) → FormatsWithin (bytes_now old) (bytes_now new)
formats_later old middle new reads formats = record {
  roots = λ file is. formats.roots file is ∙ ap (λ (i : Image). i file) reads.image;
  written =
      let same : middle.written ≡ old.written = reads.written in
      let cost : new.written ≤ middle.written + 8 * format_cost = formats.written in
      omega (arith, same, cost);
}

-- ---- jobs that did not come to their output

pub formats_none : (told : Bool) (status : ℕ) (now : Option (List ℕ)) (old new : Medium) → (status ≡ 3) ⊎ (status ≡ 4)
    → (IsTrue told → Spares IsNoRoot old.image new.image) → new.written ≤ old.written + 8 * format_cost
    → FailsAtThree status old.faults new.faults
    → Formats told status (outputs now old) (outputs now new)
formats_none told status now old new is roots cost failed = record {
  output = writes_none status now _ is;
  world = λ tells done. absurd (not_done status is done);
  clean = λ tells done. absurd (not_done status is done);
  quiet = λ done. absurd (not_done status is done);
  roots = roots;
  written = cost;
  failed = failed;
}

stopped_so : {status : ℕ} → (status ≡ 3) ⊎ (status ≡ 4) → endings.Ending
stopped_so (inl three) = endings.device
stopped_so (inr four) = endings.start_memory

stopped_by : {status : ℕ} (is : (status ≡ 3) ⊎ (status ≡ 4)) → status ≡ endings.ending_status (stopped_so is)
unfolding stopped_so
stopped_by (inl three) = three
stopped_by (inr four) = four

not_begun : {status : ℕ} (is : (status ≡ 3) ⊎ (status ≡ 4)) → endings.HasStarted (stopped_so is) → ⊥
unfolding stopped_so
not_begun (inl three) begun = begun
not_begun (inr four) begun = begun

-- the formatting or the start did not end
pub generates_none : (told : Bool) (converters : Converters) (n status : ℕ) (now : Option (List ℕ))
    (old new : Medium) → (status ≡ 3) ⊎ (status ≡ 4) → old.faults ≤ new.faults
    → FailsAtThree status old.faults new.faults → (IsTrue told → FormatsWithin (bytes_now old) (bytes_now new))
    → Generates told converters n status (outputs now old) (outputs now new)
generates_none told converters n status now old new is later failed formats = record {
  ending = stopped_so is;
  status_is = stopped_by is;
  lines = [];
  first = (generated n, refl);
  whole = λ done. absurd (not_done status is done);
  turns = [];
  gives = refl;
  output = writes_none status now _ is;
  failures = record {
    last = old.faults;
    blamed = refl;
    later = later;
    passes = failed;
  };
  follow = λ tells. tt;
  bounded = λ tells. record {
    begun = bytes_now new;
    starts = formats tells;
    bounded = tt;
    held = λ done. refl;
    left = inl refl;
  };
  stands = λ tells begun. absurd (not_begun is begun);
  settled = λ tells done. absurd (not_done status is done);
  unbegun = λ open_end. (refl, formats);
  clean = λ tells begun. absurd (not_begun is begun);
}

-- ---- a synthetic workload that was handled

start_formatted : after_start formatted ≡ formatted
start_formatted = refl

pub counted_none : (told : Bool) (converters : Converters) (memory : Memory) (tally : Tally)
    (old middle new : Medium) → IsServeBegun told memory old middle new → Tallies [] tally
    → Counted (setting told converters middle None) [] memory tally new
counted_none told converters memory tally old middle new begun none = record {
  turns = [];
  gives = refl;
  each = refl;
  goes = goes_none told converters memory middle new begun.time begun.started begun.starts;
  tallies = none;
}

follow_from : (converters : Converters) (w v : World) (ts : List Turn) → w ≡ v → Follow converters w ts
    → Follow converters v ts
follow_from converters w v ts is follow = subst (λ (x : World). Follow converters x ts) is follow

pub counts_up : {told : Bool} {memory : Memory} {old middle new : Medium} {now : ℕ}
    → IsServeBegun told memory old middle new → new.faults ≤ now → old.faults ≤ now
counts_up {now = now} begun later = subst (λ (n : ℕ). n ≤ now) (begun.started ∙ begun.passes) later

-- what a run that memory ended left after its commands
left_by : (converters : Converters) (w : World) (handling : Handling) (reach : Reach)
    → Progress converters endings.memory w handling reach → IsLeftBy converters w handling reach.begun reach.held
left_by converters w handling reach (starting unbegun no_line no_lines none nothing still same) = absurd (unbegun tt)
left_by converters w handling reach (between begins through still same) = inl same
left_by converters w handling reach (runs.within begins open_end wrote through it) = inr (reach.next, it)

-- the lines that it handled are the first
first_lines : (lines all : List (List ℕ)) (turns : List Turn)
    → AfterSome lines all turns None None ⊎ InReply 0 lines all turns None None → BeginWith lines all
first_lines lines all turns (inl after) = (after.others, after.next)
first_lines lines all turns (inr reply) = (reply.others, reply.next)

-- memory ran out after the start
pub generates_short : (told : Bool) (converters : Converters) (n : ℕ) (now : Option (List ℕ))
    (memory : Memory) (old middle begun new : Medium) → IsServeBegun told memory old middle begun
    → RunsShort (setting told converters middle None) (generated n) new
    → Generates told converters n 4 (outputs now old) (outputs now new)
generates_short told converters n now memory old middle begun new b course = record {
  ending = endings.memory;
  status_is = refl;
  lines = course.lines;
  first = first_lines course.lines (generated n) course.turns course.ends;
  whole = λ done. absurd (not_done 4 (inr refl) done);
  turns = course.turns;
  gives = course.gives;
  output = writes_none 4 now _ (inr refl);
  failures = record {
    last = course.failures.last;
    blamed = subst (λ (n : ℕ). AreBlamed n course.turns course.failures.last) b.passes course.failures.blamed;
    later = course.failures.later;
    passes = λ other. course.failures.passes (λ is. cc);
  };
  follow = λ tells. follow_from converters (after_start (world_at middle.image)) formatted course.turns (here tells)
      (side tells).follow;
  bounded = λ tells. record {
    begun = (side tells).begun;
    starts = formats_on old middle (side tells).begun (b.roots tells) b.written (b.alone tells)
        (side tells).starts.roots (side tells).starts.already;
    bounded = subst (λ (w : World). AreBounded converters w (side tells).begun course.turns) (here tells)
        (side tells).bounded;
    held = λ done. absurd (not_done 4 (inr refl) done);
    left = subst (λ (w : World). IsLeftBy converters w
        (without_sink course.lines (generated n) course.turns) (side tells).begun (bytes_now new)) (here tells)
        (left_by _ (after_start (world_at middle.image)) _ _ (side tells).progress);
  };
  stands = λ tells started. formatted_still middle (side tells).begun (b.world tells) (b.alone tells)
      (side tells).starts.already;
  settled = λ tells done. absurd (not_done 4 (inr refl) done);
  unbegun = λ open_end. absurd (open_end tt);
  clean = λ tells started app lt. (side tells).clean app lt (b.clean tells app lt);
}
  where
    side : IsTrue told → DiskSide converters endings.memory
        (without_sink course.lines (generated n) course.turns) middle new
    side tells = course.disk tells

    here : IsTrue told → after_start (world_at middle.image) ≡ formatted
    here tells = ap after_start (b.world tells) ∙ start_formatted

-- the lines are handled, and the summary was written, or memory ran out for it, or the sink failed
handled_so : {status : ℕ} {Cause : Type 0} → (status ≡ 0) ⊎ ((status ≡ 4) ⊎ ((status ≡ 6) × Cause)) → endings.Ending
handled_so (inl done) = endings.all_read
handled_so (inr (inl four)) = endings.memory
handled_so (inr (inr six)) = endings.sink

handled_by : {status : ℕ} {Cause : Type 0} (is : (status ≡ 0) ⊎ ((status ≡ 4) ⊎ ((status ≡ 6) × Cause)))
    → status ≡ endings.ending_status (handled_so is)
unfolding handled_so
handled_by (inl done) = done
handled_by (inr (inl four)) = four
handled_by (inr (inr six)) = six.0

handled_begun : {status : ℕ} {Cause : Type 0} (is : (status ≡ 0) ⊎ ((status ≡ 4) ⊎ ((status ≡ 6) × Cause)))
    → endings.HasStarted (handled_so is)
unfolding handled_so
handled_begun (inl done) = tt
handled_begun (inr (inl four)) = tt
handled_begun (inr (inr six)) = tt

pub generates_all : {Cause : Type 0} (told : Bool) (converters : Converters) (n status : ℕ)
    (before now : Option (List ℕ)) (memory after : Memory) (tally : Tally) (old middle begun new : Medium)
    → IsServeBegun told memory old middle begun
    → (counted : Counted (setting told converters middle None) (generated n)
    after tally new)
    → WritesOutput status before now (summary (n + 5) (replies_of counted.turns))
    → (status ≡ 0) ⊎ ((status ≡ 4) ⊎ ((status ≡ 6) × Cause))
    → Generates told converters n status (outputs before old) (outputs now new)
generates_all told converters n status before now memory after tally old middle begun new b counted writes
    is = record {
      ending = handled_so is;
      status_is = handled_by is;
      lines = generated n;
      first = ([], sym (append-nil (generated n)));
      whole = λ done. refl;
      turns = counted.turns;
      gives = counted.gives;
      output = subst (λ (k : ℕ). WritesOutput status before now (summary k (replies_of counted.turns)))
          (sym (length_all n))
          writes;
      failures = counts_whole (subst (λ (n : ℕ). AreBlamed n counted.turns new.faults) b.passes counted.goes.blamed);
      follow = λ tells.
          let g : IsGoing converters middle counted.turns after new = counted.goes.disk tells in
          follow_from converters (after_start (world_at middle.image)) formatted counted.turns (here tells)
          g.2.follow;
      bounded = λ tells.
          let g : IsGoing converters middle counted.turns after new = counted.goes.disk tells in record {
            begun = g.2.begun;
            starts = formats_on old middle g.2.begun (b.roots tells) b.written (b.alone tells) g.2.starts.roots
                g.2.starts.already;
            bounded = subst (λ (w : World). AreBounded converters w g.2.begun counted.turns) (here tells) g.2.bounded;
            held = λ done. g.2.held;
            left = inl g.2.held;
          };
      stands = λ tells started.
          let g : IsGoing converters middle counted.turns after new = counted.goes.disk tells in
          formatted_still middle g.2.begun (b.world tells) (b.alone tells) g.2.starts.already;
      settled = λ tells done.
          let g : IsGoing converters middle counted.turns after new = counted.goes.disk tells in
          subst (λ (w : World). IsSettled (last_of w (worlds_of counted.turns)) new) (here tells)
          (ends_settled converters middle counted.turns after g.0 new g.2);
      unbegun = λ open_end. absurd (open_end (handled_begun is));
      clean = λ tells started app lt calm passes.
          let g : IsGoing converters middle counted.turns after new = counted.goes.disk tells in
          (g.2.stayed app lt (b.clean tells app lt) calm).ready.clean;
    }
  where
    here : IsTrue told → after_start (world_at middle.image) ≡ formatted
    here tells = ap after_start (b.world tells) ∙ start_formatted
