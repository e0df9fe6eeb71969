-- The disk that a run which stays starts on, and the run as a whole.
use Rattle.std.proofs.Common.{ℕ, List, [], ◌∷◌, length, ◌≡◌, ◌≤◌, ◌<◌, ◌+◌, inl, inr, ⊎_elim, refl, sym, ◌∙◌, ap, subst}
use Rattle.std.proofs.Common.{arith, Option, None, Bool, true, false, IsTrue, eq-or-lt_of_le, le_refl, Result, Ok, Err}
use Rattle.std.proofs.Common.{IfOk, OnErr, OnOk}
use Rattle.std.proofs.KnownBytes.{Appends-nil, Consumes-nil, Keeps-refl}
use Rattle.per_base.specs.Causes.{Rose}
use Rattle.disk_model.specs.Image.{Image}
use Rattle.disk_model.specs.Laws.{cases_on, elapses_on, reads_on}
use Rattle.disk_model.specs.Medium.{Medium, IsLawful, Elapses, OnlyReads}
use Rattle.disk_model.specs.declared.disk.Disk.{Ghosts as DiskOf}
use Rattle.deploy.specs.declared.errors.Stop.{Stop}
use Rattle.deploy_laws.specs.Apps.{IsCleanApp}
use Rattle.run_model.specs.AppLaws.{AppLaws}
use Rattle.run_model.specs.Converters.{Converters}
use Rattle.run_model.specs.Costs.{roots_cost}
use Rattle.run_model.specs.Edges.{Edges, failures_at, modelled}
use Rattle.run_model.specs.Endings as endings
use Rattle.run_model.specs.Endings.{HasCauseOf, HasStarted, ending_status}
use Rattle.run_model.specs.Moments.{Between}
use Rattle.run_model.specs.RunLaws.{start_disk}
use Rattle.run_model.specs.Runtimes.{Memory, StartKeeps, Starts}
use Rattle.run_model.specs.Turns.{bytes_now}
use Rattle.run_model.specs.Worlds.{after_start, disks, world_at}
use Rattle.run_model.specs.WriteLaws.{unchanged}
use Rattle.run_model.specs.Writes.{AllNeedNothing, NeedsNothing}
use Rattle.per_runtime.specs.Memories.{memory_of}
use Rattle.per_runtime.specs.declared.runtime.Runtime.{Runtime}
use Rattle.per_run.specs.declared.endings.Ending.{Ending as Way}
use Rattle.per_run.specs.declared.endings.Ending.TheVariants as ways
use Rattle.per_run.specs.Serves.{HasNoBytes, IsPreparedDisk, Serve, Serves, as_it_was, formatted_first, served}
use Rattle.per_run.specs.Serves.{unprepared}
use Rattle.per_run.specs.Serving.{Hearing, IsExactly, IsReadied, IsUnready, Served}
use Rattle.per_run.specs.Steps.{Blamed, IsServeBegun, ending_of, outset}
use Rattle.per_run.proofs.Begins.{cause_of, still}
use Rattle.per_run.proofs.Goes.{goes_none}
use Rattle.per_run.proofs.Inputs.{not_seen}
use Rattle.per_run.proofs.Settings.{setting}

-- ---- whether anything is on the disk

none_left : (bytes : List ℕ) → length bytes ≡ 0 → bytes ≡ []
none_left [] none = refl
none_left (b ∷ bytes) none = absurd (omega (arith, none))

pub blank_on : (image : Image) (file : ℕ) → ((f : ℕ) → f < file → image f ≡ []) → length (image file) ≡ 0
    → (f : ℕ) → f < file + 1 → image f ≡ []
blank_on image file so_far none f lt = ⊎_elim
    (λ (is : f ≡ file). ap image is ∙ none_left (image file) none)
    (λ (less : f < file). so_far f less)
    (eq-or-lt_of_le (omega (arith, lt)))

pub not_blank : (image : Image) (file : ℕ) → file < 32768 → 0 < length (image file) → HasNoBytes image → ⊥
not_blank image file lt some blank = omega (arith, some, ap length (blank file lt))

pub says_true : (blank : Bool) (P : Type 0) → blank ≡ true → IsExactly blank P → P
says_true true P is p = p
says_true false P is p = let bad : false ≡ true = is in cc

pub says_false : (blank : Bool) (P : Type 0) → blank ≡ false → IsExactly blank P → P → ⊥
says_false false P is p = p
says_false true P is p = let bad : true ≡ false = is in cc

-- no count of failures fell
pub earlier_start : {D : Type 0} (told : Bool) (medium : D → Medium) (old start : D)
    → IsPreparedDisk told medium old start → (medium old).faults ≤ (medium start).faults
earlier_start told medium old start (as_it_was some same) =
    subst (λ d. (medium old).faults ≤ (medium d).faults) (sym same) (le_refl _)
earlier_start told medium old start (formatted_first blank fresh) = omega (arith, fresh.passes)

-- ---- the start

-- a start that was looked for first
pub keeps_on : {a b c : Medium} → Elapses a b → OnlyReads a b → Elapses b c → StartKeeps b c → StartKeeps a c
keeps_on {a} {b} {c} first reads later keeps = record {
  always = λ app lt clean x past. ⊎_elim
      (λ seen. inl (reads.during x seen))
      (λ since. ⊎_elim
      (λ was. inl (reads.now x was))
      (λ between. inr (subst (λ (i : Image). Between app (disks (world_at i)) (disks (after_start (world_at i))) x)
      reads.image between))
      (keeps.always app lt (subst (IsCleanApp app) (sym reads.image) clean) x since))
      (cases_on first later x past);
  at_exit = ⊎_elim
      (λ only. inl (reads_on first reads later only))
      (λ each. inr (λ app lt clean x now.
      subst (λ (i : Image). Between app (disks (world_at i)) (disks (after_start (world_at i))) x) reads.image
      (each app lt (subst (IsCleanApp app) (sym reads.image) clean) x now)))
      keeps.at_exit;
  roots = λ f spared. keeps.roots f spared ∙ ap (λ (i : Image). i f) reads.image;
  written =
      let same = reads.written in
      let cost : c.written ≤ b.written + roots_cost a.image 8 =
      subst (λ (i : Image). c.written ≤ b.written + roots_cost i 8) reads.image keeps.written in
      omega (arith, same, cost);
  left = λ b lt needs f of. keeps.left b lt (subst (λ (i : Image). NeedsNothing i b) (sym reads.image) needs) f of
      ∙ ap (λ (i : Image). i f) reads.image;
  already = λ all. keeps.already (subst (λ (i : Image). AllNeedNothing i) (sym reads.image) all)
      ∙ unchanged (bytes_now a) (bytes_now b) reads.image reads.written;
}

pub starts_on : {a b c : Medium} (memory : Memory) → Elapses a b → OnlyReads a b → Elapses b c → Starts memory b c
    → Starts memory a c
starts_on {a} {b} {c} memory first reads later s = record {
  eight = s.eight;
  sure = s.sure;
  world = s.world ∙ ap (λ (i : Image). after_start (world_at i)) reads.image;
  quiet = s.quiet;
  clean = λ app lt clean. s.clean app lt (subst (IsCleanApp app) (sym reads.image) clean);
  keeps = keeps_on first reads later s.keeps;
}

-- after the formatting
pub readied_first : {D : Type 0} (told : Bool) (medium : D → Medium) (r : Result Runtime Stop) (old mid new : D)
    → (IsTrue told → HasNoBytes (medium old).image) → Elapses (medium old) (medium mid)
    → OnlyReads (medium old) (medium mid) → (medium mid).faults ≡ (medium old).faults
    → IfOk r (λ x. (m : D) × IsServeBegun told (memory_of x) (medium mid) (medium m) (medium new))
    → IfOk r (λ x. IsReadied told medium (memory_of x) old new)
readied_first told medium (Ok x) old mid new blank first reads same begun = record {
  start = begun.0;
  prepared = formatted_first blank (record {
    world = begun.1.world;
    clean = begun.1.clean;
    quiet = begun.1.quiet;
    passes = begun.1.passes ∙ same;
    roots = λ tells file is. begun.1.roots tells file is ∙ ap (λ (i : Image). i file) reads.image;
    written = let formats = begun.1.written in let nothing = reads.written in omega (arith, formats, nothing);
    alone = begun.1.alone;
    time = elapses_on first begun.1.formats;
  });
  passes = begun.1.started;
  starts = begun.1.starts;
  time = begun.1.time;
}
readied_first told medium (Err e) old mid new blank first reads same begun = tt

-- on the disk as it was
pub readied_as : {D : Type 0} (told : Bool) (medium : D → Medium) (r : Result Runtime Stop) (old mid new : D)
    → (IsTrue told → HasNoBytes (medium old).image → ⊥) → Elapses (medium old) (medium mid)
    → OnlyReads (medium old) (medium mid) → (medium mid).faults ≡ (medium old).faults
    → Elapses (medium mid) (medium new) → OnOk r ((medium new).faults ≡ (medium mid).faults)
    → (IsTrue told → IfOk r (λ x. Starts (memory_of x) (medium mid) (medium new)))
    → IfOk r (λ x. IsReadied told medium (memory_of x) old new)
readied_as told medium (Ok x) old mid new some first reads same later passes starts = record {
  start = old;
  prepared = as_it_was some refl;
  passes = passes ∙ same;
  starts = λ tells. starts_on (memory_of x) first reads later (starts tells);
  time = elapses_on first later;
}
readied_as told medium (Err e) old mid new some first reads same later passes starts = tt

pub on_err : {T E P : Type 0} (r : Result T E) → P → OnErr r P
on_err (Ok x) p = tt
on_err (Err e) p = p

-- ---- the run

pub hearing_none : (told : Bool) (converters : Converters) (now : Option (List ℕ)) (memory : Memory)
    (old new : Medium) → Elapses old new → new.faults ≡ old.faults → (IsTrue told → Starts memory old new)
    → Hearing (setting told converters old now) [] now memory new
hearing_none told converters now memory old new time passes starts = record {
  are = tt;
  wrote = Appends-nil now;
  goes = goes_none told converters memory old new time passes starts;
}

-- one that came to its lines
pub serve_from : (told : Bool) (converters : Converters) (ending : Way) (status : ℕ) (before after : Edges Medium)
    → Elapses before.disk after.disk → status ≡ ending_status (ending_of ending)
    → (ending ≡ ways.Source → Rose before.source_failures after.source_failures)
    → Blamed ending before.sink_failures after.sink_failures
    → Served (record { told = told; converters = converters; start = before.disk; before = before.taken })
    ending before.left after.left after.taken after.disk
    → Serve told converters status before after
serve_from told converters ending status before after time is source blamed s = record {
  ending = ending_of ending;
  status_is = is;
  given = s.given;
  taken = s.taken;
  ended = s.ended;
  end_seen = s.end_seen;
  input = s.input;
  heard = s.course.heard;
  are = s.course.are;
  ends = s.course.ends;
  cause = cause_of ending (failures_at before) (failures_at after) source blamed.sink;
  failures = s.course.failures;
  time = time;
  disk = s.course.disk;
}

pub serves_from : {D : Type 0} (of_disk : DiskOf D) (converters : Converters) (ending : Way) (status : ℕ)
    (before after : Edges D) (middle : D) (memory : Memory)
    → (r : IsReadied of_disk.told of_disk.medium memory before.disk middle)
    → Elapses (of_disk.medium middle) (of_disk.medium after.disk) → status ≡ ending_status (ending_of ending)
    → (ending ≡ ways.Source → Rose before.source_failures after.source_failures)
    → Blamed ending before.sink_failures after.sink_failures
    → Served (outset of_disk converters r.start before.taken) ending before.left after.left after.taken
    (of_disk.medium after.disk)
    → Serves of_disk converters status before after
serves_from of_disk converters ending status before after middle memory r time is source blamed s =
    served r.start r.prepared (serve_from of_disk.told converters ending status
    (modelled of_disk (record before { disk = r.start })) (modelled of_disk after) (elapses_on r.time time) is source
    blamed s)

-- one that did not
serve_none : AppLaws → (told : Bool) (converters : Converters) (ending : endings.Ending) (status : ℕ)
    (left taken : Option (List ℕ)) (source_failures sink_failures : ℕ) (old new : Medium) → ¬ (HasStarted ending)
    → IsLawful told new → Elapses old new → (IsTrue told → StartKeeps old new) → status ≡ ending_status ending
    → HasCauseOf ending (failures_at (still left taken source_failures sink_failures old))
    (failures_at (still left taken source_failures sink_failures new))
    → Serve told converters status (still left taken source_failures sink_failures old)
    (still left taken source_failures sink_failures new)
serve_none laws told converters endings.all_read status left taken source_failures sink_failures old new open_end lawful
    time keeps is cause = absurd (open_end tt)
serve_none laws told converters endings.end_line status left taken source_failures sink_failures old new open_end lawful
    time keeps is cause = absurd (open_end tt)
serve_none laws told converters endings.bad_line status left taken source_failures sink_failures old new open_end
    lawful time keeps is cause = absurd (open_end tt)
serve_none laws told converters endings.memory status left taken source_failures sink_failures old new open_end lawful
    time keeps is cause = absurd (open_end tt)
serve_none laws told converters endings.source status left taken source_failures sink_failures old new open_end lawful
    time keeps is cause = absurd (open_end tt)
serve_none laws told converters endings.sink status left taken source_failures sink_failures old new open_end lawful
    time keeps is cause = absurd (open_end tt)
serve_none laws told converters endings.too_long status left taken source_failures sink_failures old new open_end
    lawful time keeps is cause = absurd (open_end tt)
serve_none laws told converters endings.device status left taken source_failures sink_failures old new open_end lawful
    time keeps is cause = record {
      ending = endings.device;
      status_is = is;
      given = [];
      taken = Consumes-nil left;
      ended = false;
      end_seen = not_seen;
      input = (refl, refl);
      heard = [];
      are = tt;
      ends = record { no_line = refl; wrote = Appends-nil taken };
      cause = cause;
      failures = record {
        last = old.faults;
        blamed = refl;
        later = time.faults;
        passes = λ apart. absurd (apart refl);
      };
      time = time;
      disk = λ tells. start_disk laws converters endings.device None None told old new lawful
          time (λ begun. begun) (keeps tells);
    }
serve_none laws told converters endings.start_memory status left taken source_failures sink_failures old new open_end
    lawful time keeps is cause = record {
      ending = endings.start_memory;
      status_is = is;
      given = [];
      taken = Consumes-nil left;
      ended = false;
      end_seen = not_seen;
      input = (refl, refl);
      heard = [];
      are = tt;
      ends = record { no_line = refl; wrote = Appends-nil taken };
      cause = cause;
      failures = record { last = old.faults; blamed = refl; later = time.faults; passes = λ apart. cause };
      time = time;
      disk = λ tells. start_disk laws converters endings.start_memory None None told old new
          lawful time (λ begun. begun) (keeps tells);
    }

pub serves_none : {D : Type 0} → AppLaws → (of_disk : DiskOf D) (converters : Converters) (left taken : Option (List ℕ))
    (source_failures sink_failures : ℕ) (old new : D) → IsLawful of_disk.told (of_disk.medium new)
    → Elapses (of_disk.medium old) (of_disk.medium new) → IsUnready of_disk.told of_disk.medium old new
    → Rose (of_disk.medium old).faults (of_disk.medium new).faults
    → Serves of_disk converters 3 (still left taken source_failures sink_failures old)
    (still left taken source_failures sink_failures new)
serves_none laws of_disk converters left taken source_failures sink_failures old new lawful time (inl keeps) rose =
    served old (as_it_was keeps.0 refl)
    (serve_none laws of_disk.told converters endings.device 3 left taken source_failures sink_failures
    (of_disk.medium old) (of_disk.medium new) (λ begun. begun) lawful time keeps.1 refl rose)
serves_none laws of_disk converters left taken source_failures sink_failures old new lawful time (inr nothing) rose =
    unprepared nothing (inl (refl, rose)) (Keeps-refl left) (Keeps-refl taken)

pub serves_short : {D : Type 0} → AppLaws
    → (of_disk : DiskOf D) (converters : Converters) (left taken : Option (List ℕ))
    (source_failures sink_failures : ℕ) (old new : D) → IsLawful of_disk.told (of_disk.medium new)
    → Elapses (of_disk.medium old) (of_disk.medium new) → IsUnready of_disk.told of_disk.medium old new
    → (of_disk.medium new).faults ≡ (of_disk.medium old).faults
    → Serves of_disk converters 4 (still left taken source_failures sink_failures old)
    (still left taken source_failures sink_failures new)
serves_short laws of_disk converters left taken source_failures sink_failures old new lawful time (inl keeps) fed =
    served old (as_it_was keeps.0 refl)
    (serve_none laws of_disk.told converters endings.start_memory 4 left taken source_failures sink_failures
    (of_disk.medium old) (of_disk.medium new) (λ begun. begun) lawful time keeps.1 refl fed)
serves_short laws of_disk converters left taken source_failures sink_failures old new lawful time (inr nothing) fed =
    unprepared nothing (inr (refl, fed)) (Keeps-refl left) (Keeps-refl taken)
