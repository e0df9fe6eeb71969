-- How a run begins: nothing is handled; and how it ends where it did not begin.
use Rattle.std.proofs.Common.{ℕ, List, [], ◌≡◌, refl, sym, subst, inl, Option, Bool, false, IsTrue, arith}
use Rattle.std.proofs.KnownBytes.{Appends-nil, Consumes-nil}
use Rattle.disk_model.specs.Laws.{reads_none}
use Rattle.disk_model.specs.Medium.{Medium, IsLawful, Elapses}
use Rattle.per_base.specs.Causes.{Rose}
use Rattle.run_model.specs.AppLaws.{AppLaws}
use Rattle.run_model.specs.Converters.{Converters}
use Rattle.run_model.specs.Edges.{Edges, failures_at}
use Rattle.run_model.specs.Endings as endings
use Rattle.run_model.specs.Endings.{FailureCounts, HasCauseOf, ending_status}
use Rattle.run_model.specs.RunLaws.{start_disk}
use Rattle.run_model.specs.Runs.{Run}
use Rattle.run_model.specs.Runtimes.{Memory, Starts, StartKeeps}
use Rattle.per_run.specs.declared.endings.Ending.{Ending as Way}
use Rattle.per_run.specs.declared.endings.Ending.TheVariants as ways
use Rattle.per_run.specs.Steps.{Blamed, Handled, RanOverInput, Reached, ending_of, reading}
use Rattle.per_run.proofs.Goes.{goes_none}
use Rattle.per_run.proofs.Inputs.{not_seen}
use Rattle.per_run.proofs.Settings.{setting}

-- nothing is handled yet
pub handled_none : (told : Bool) (converters : Converters) (now : Option (List ℕ)) (memory : Memory)
    (old new : Medium) → Elapses old new → new.faults ≡ old.faults
    → (IsTrue told → Starts memory old new) → Handled (setting told converters old now) [] now memory new
handled_none told converters now memory old new time passes starts = record {
  turns = [];
  gives = refl;
  wrote = Appends-nil now;
  goes = goes_none told converters memory old new time passes starts;
}

pub reached_none : (told : Bool) (converters : Converters) (start : Medium) (before now : Option (List ℕ))
    (memory : Memory) (medium : Medium) (kept : List ℕ) (number : ℕ)
    → Handled (setting told converters start before) [] now memory medium → kept ≡ [] → number ≡ 0
    → Reached (setting told converters start before) [] now (reading memory kept number) medium
reached_none told converters start before now memory medium kept number handled empty none = record {
  lines = [];
  rest = [];
  split = refl;
  clean = tt;
  clean_rest = refl;
  kept_is = empty;
  number_is = none;
  handled = handled;
}

-- a start that was not begun: nothing is opened, and nothing changed
pub unbegun : (told : Bool) (m : Medium) → IsLawful told m → StartKeeps m m
unbegun told m lawful = record {
  always = λ app lt clean c since. inl (lawful.only_now c since);
  at_exit = inl (reads_none lawful);
  roots = λ f is. refl;
  written = omega arith;
  left = λ b lt needs f of. refl;
  already = λ all. refl;
}

-- nothing was taken and nothing written
abbrev pub still {ℓ} : {D : Type ℓ} → (left taken : Option (List ℕ)) → (source_failures sink_failures : ℕ) → D → Edges D
still left taken source_failures sink_failures disk = record {
  left = left;
  taken = taken;
  source_failures = source_failures;
  sink_failures = sink_failures;
  disk = disk;
}

-- a run that did not come to its lines
pub run_none : AppLaws → (told : Bool) (converters : Converters) (status : ℕ) (left taken : Option (List ℕ))
    (source_failures sink_failures : ℕ) (old new : Medium) → IsLawful told new → Elapses old new
    → (IsTrue told → StartKeeps old new) → status ≡ 3 → Rose old.faults new.faults
    → Run told converters status (still left taken source_failures sink_failures old)
    (still left taken source_failures sink_failures new)
run_none laws told converters status left taken source_failures sink_failures old new lawful time keeps is
    rose = record {
      ending = endings.device;
      status_is = is;
      given = [];
      taken = Consumes-nil left;
      bound = omega arith;
      ended = false;
      end_seen = not_seen;
      input = (refl, refl);
      lines = [];
      turns = [];
      gives = refl;
      ends = record { no_line = refl; no_turn = refl; wrote = Appends-nil taken };
      cause = rose;
      failures = record { last = old.faults; blamed = refl; later = time.faults; passes = λ apart. absurd (apart refl) };
      time = time;
      disk = λ tells. start_disk laws converters endings.device taken taken told old new lawful
          time (λ begun. begun) (keeps tells);
    }

pub run_short : AppLaws → (told : Bool) (converters : Converters) (status : ℕ) (left taken : Option (List ℕ))
    (source_failures sink_failures : ℕ) (old new : Medium) → IsLawful told new → Elapses old new
    → (IsTrue told → StartKeeps old new) → status ≡ 4 → new.faults ≡ old.faults
    → Run told converters status (still left taken source_failures sink_failures old)
    (still left taken source_failures sink_failures new)
run_short laws told converters status left taken source_failures sink_failures old new lawful time keeps is
    fed = record {
      ending = endings.start_memory;
      status_is = is;
      given = [];
      taken = Consumes-nil left;
      bound = omega arith;
      ended = false;
      end_seen = not_seen;
      input = (refl, refl);
      lines = [];
      turns = [];
      gives = refl;
      ends = record { no_line = refl; no_turn = refl; wrote = Appends-nil taken };
      cause = fed;
      failures = record { last = old.faults; blamed = refl; later = time.faults; passes = λ apart. fed };
      time = time;
      disk = λ tells. start_disk laws converters endings.start_memory taken taken told old new lawful
          time (λ begun. begun) (keeps tells);
    }

-- the same memory under another name
pub handled_as : (told : Bool) (converters : Converters) (start : Medium) (before : Option (List ℕ))
    (lines : List (List ℕ)) (now : Option (List ℕ)) (memory same : Memory) (medium : Medium)
    → same ≡ memory → Handled (setting told converters start before) lines now memory medium
    → Handled (setting told converters start before) lines now same medium
handled_as told converters start before lines now memory same medium is handled =
    subst (λ (m : Memory). Handled (setting told converters start before) lines now m medium) (sym is) handled

-- why it ended
pub cause_of : (ending : Way) (before after : FailureCounts) → (ending ≡ ways.Source → Rose before.source after.source)
    → (ending ≡ ways.Sink → Rose before.sink after.sink) → HasCauseOf (ending_of ending) before after
cause_of ways.AllRead before after by_source by_sink = tt
cause_of ways.EndLine before after by_source by_sink = tt
cause_of ways.BadLine before after by_source by_sink = tt
cause_of ways.OutOfMemory before after by_source by_sink = tt
cause_of ways.Source before after by_source by_sink = by_source refl
cause_of ways.Sink before after by_source by_sink = by_sink refl
cause_of ways.TooLong before after by_source by_sink = tt

-- a run that came to its lines
pub run_from : (told : Bool) (converters : Converters) (ending : Way) (status : ℕ) (before after : Edges Medium)
    → Elapses before.disk after.disk → status ≡ ending_status (ending_of ending)
    → (ending ≡ ways.Source → Rose before.source_failures after.source_failures)
    → Blamed ending before.sink_failures after.sink_failures
    → RanOverInput (record { told = told; converters = converters; start = before.disk; before = before.taken })
    ending before.left after.left after.taken after.disk
    → Run told converters status before after
run_from told converters ending status before after time is source blamed ran = record {
  ending = ending_of ending;
  status_is = is;
  given = ran.given;
  taken = ran.taken;
  bound = ran.bound;
  ended = ran.ended;
  end_seen = ran.end_seen;
  input = ran.input;
  lines = ran.course.lines;
  turns = ran.course.turns;
  gives = ran.course.gives;
  ends = ran.course.ends;
  cause = cause_of ending (failures_at before) (failures_at after) source blamed.sink;
  failures = ran.course.failures;
  time = time;
  disk = ran.course.disk;
}
