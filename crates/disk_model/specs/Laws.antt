-- How calls chain, for every caller of a disk: counts, time, cases from step to step, and calls that only read.
use Rattle.std.proofs.Common.{◌⊎◌, ℕ, ◌≤◌, Bool, refl, sym, ◌∙◌, subst, inl, inr, ⊎_elim, le_refl, le_trans, arith}
use Rattle.per_base.specs.Causes.{Rose}
use Rattle.disk_model.specs.Case.{Case, IsSettledAt, Follows, FromSettled}
use Rattle.disk_model.specs.Medium.{Medium, Grows, Quiet, IsLawful, Elapses, OnlyReads, WritesNothing, IsIdle, EachCase}

-- ---- counts

-- what rose before other calls has risen after them
pub rose_on : (a b c : ℕ) → Rose a b → b ≤ c → Rose a c
rose_on a b c rose later = le_trans rose later

-- what rose in later calls has risen since earlier ones
pub rose_before : (a b c : ℕ) → a ≤ b → Rose b c → Rose a c
rose_before a b c earlier rose = omega arith

-- ---- time

-- no call takes no time
pub elapses_none : {told : Bool} {m : Medium} → IsLawful told m → Elapses m m
elapses_none law = record {
  later = le_refl _;
  nothing_else = λ t c le past. inl past;
  keeps = λ t c le past. past;
  adds = λ t c le past. law.counts_now t c le (law.only_now c past);
  gave = record { nothing_else = λ t i le past. inl past; keeps = λ t i le past. past; adds = law.gave_counts };
  opens = λ t le was. was;
  agrees = λ t le was. was;
  apart = λ t le was. was;
  faults = le_refl _;
  written = le_refl _;
}

grows_on : {X : Type 0} {a b : ℕ} {old mid new : ℕ → X → Type 0} → a ≤ b → Grows a old mid → Grows b mid new
    → Grows a old new
grows_on {X} {a} later first next = record {
  nothing_else = λ t x le past. ⊎_elim
      (λ was. ⊎_elim (λ before. inl before) (λ since. inr (next.keeps a x later since)) (first.nothing_else t x le was))
      (λ since. inr (next.adds a x later since))
      (next.nothing_else t x (le_trans le later) past);
  keeps = λ t x le past. next.keeps t x (le_trans le later) (first.keeps t x le past);
  adds = λ t x le past. ⊎_elim
      (λ was. next.keeps t x (le_trans le later) (first.adds t x le was))
      (λ since. next.adds t x (le_trans le later) since)
      (next.nothing_else a x later past);
}

-- time goes on from call to call
pub elapses_on : {a b c : Medium} → Elapses a b → Elapses b c → Elapses a c
elapses_on {a} {b} {c} first next = record {
  later = le_trans first.later next.later;
  nothing_else = λ t x le past. ⊎_elim
      (λ was. ⊎_elim (λ old. inl old) (λ new. inr (next.keeps a.moment x first.later new))
      (first.nothing_else t x le was))
      (λ new. inr (next.adds a.moment x first.later new))
      (next.nothing_else t x (le_trans le first.later) past);
  keeps = λ t x le past. next.keeps t x (le_trans le first.later) (first.keeps t x le past);
  adds = λ t x le past. ⊎_elim
      (λ was. next.keeps t x (le_trans le first.later) (first.adds t x le was))
      (λ new. next.adds t x (le_trans le first.later) new)
      (next.nothing_else a.moment x first.later past);
  gave = grows_on first.later first.gave next.gave;
  opens = λ t le was. next.opens t (le_trans le first.later) (first.opens t le was);
  agrees = λ t le was. next.agrees t (le_trans le first.later) (first.agrees t le was);
  apart = λ t le was. next.apart t (le_trans le first.later) (first.apart t le was);
  faults = le_trans first.faults next.faults;
  written = le_trans first.written next.written;
}

-- a case since the start of two stretches of calls is one of the first or one of the second
pub cases_on : {a b c : Medium} → Elapses a b → Elapses b c → (x : Case) → c.since a.moment x
    → b.since a.moment x ⊎ c.since b.moment x
cases_on {a} first next x past = next.nothing_else a.moment x first.later past

-- what each case of two stretches says, each case of both says
pub goes_on : (P : Case → Type 0) {a b c : Medium} → Elapses a b → Elapses b c → EachCase P a b → EachCase P b c
    → EachCase P a c
goes_on P {a} first next was new x past = ⊎_elim (was x) (new x) (cases_on first next x past)

-- with no call between, what is said of each case now is said of each since now
pub goes_none : (P : Case → Type 0) {told : Bool} {m : Medium} → IsLawful told m → ((c : Case) → m.now c → P c)
    → EachCase P m m
goes_none P law now c past = now c (law.only_now c past)

-- a case after a call is one since its start
pub case_now : {told : Bool} {a b : Medium} → IsLawful told b → Elapses a b → (c : Case) → b.now c → b.since a.moment c
case_now {told} {a} law time c now = law.counts_now a.moment c time.later now

-- ---- cases from step to step

-- a step that leads to fewer places
pub follows_less : (P Q : Case → Case → Type 0) (old new : Case → Type 0) → ((d c : Case) → P d c → Q d c)
    → Follows P old new → Follows Q old new
follows_less P Q old new less steps c now = let (d, was, step) = steps c now in (d, was, less d c step)

-- a step and then another
pub follows_on : (P Q R : Case → Case → Type 0) (old mid new : Case → Type 0) → ((a b c : Case) → P a b → Q b c → R a c)
    → Follows P old mid → Follows Q mid new → Follows R old new
follows_on P Q R old mid new joins first next c now =
    let (b, were, then) = next c now in
    let (a, was, step) = first b were in (a, was, joins a b c step then)

-- no call leads from each case to itself
pub follows_none : (P : Case → Case → Type 0) (old : Case → Type 0) → ((c : Case) → P c c) → Follows P old old
follows_none P old none c now = (c, now, none c)

-- from a quiet disk a step leads from nothing pending
pub from_quiet : (P : Case → Case → Type 0) (m : Medium) (new : Case → Type 0) → Quiet m → Follows P m.now new
    → (c : Case) → new c → FromSettled P m.image c
from_quiet P m new quiet steps c now = let (d, was, step) = steps c now in (d, quiet d was, step)

-- ---- calls that only read

-- an empty stretch of calls only reads, and so do two on end of which each does
pub reads_none : {told : Bool} {m : Medium} → IsLawful told m → OnlyReads m m
reads_none law = record { image = refl; now = λ c now. now; during = λ c past. law.only_now c past; written = refl }

pub reads_on : {a b c : Medium} → Elapses a b → OnlyReads a b → Elapses b c → OnlyReads b c → OnlyReads a c
reads_on {a} {b} {c} time first later next = record {
  image = next.image ∙ first.image;
  now = λ x now. first.now x (next.now x now);
  during = λ x past. ⊎_elim (first.during x) (λ new. first.now x (next.during x new)) (cases_on time later x past);
  written = next.written ∙ first.written;
}

-- reads leave a quiet disk quiet
pub reads_quiet : {a b : Medium} → Quiet a → OnlyReads a b → Quiet b
reads_quiet quiet reads c now = subst (λ image. IsSettledAt image c) (sym reads.image) (quiet c (reads.now c now))

-- reads write nothing
pub reads_write_nothing : {a b : Medium} → OnlyReads a b → WritesNothing a b
reads_write_nothing reads = record {
  image = reads.image;
  during = λ c past. inl (reads.during c past);
  written =
      reads.written;
}

-- ---- reads and syncs on a quiet disk

-- on a quiet disk an empty stretch of calls, or one that only reads, is idle
pub idle_none : {told : Bool} {m : Medium} → IsLawful told m → Quiet m → IsIdle m m
idle_none law quiet = record {
  image = refl;
  quiet = quiet;
  during = λ c past. quiet c (law.only_now c past);
  written =
      refl;
}

pub idle_reads : {a b : Medium} → Quiet a → OnlyReads a b → IsIdle a b
idle_reads quiet reads = record {
  image = reads.image;
  quiet = reads_quiet quiet reads;
  during = λ c past. quiet c (reads.during c past);
  written = reads.written;
}

-- calls that write nothing and end quiet, as a sync that succeeds
pub idle_sync : {a b : Medium} → Quiet a → WritesNothing a b → Quiet b → IsIdle a b
idle_sync {a} {b} quiet calls after = record {
  image = calls.image;
  quiet = after;
  during = λ c past. ⊎_elim (quiet c) (λ now. subst (λ image. IsSettledAt image c) calls.image (after c now))
      (calls.during c past);
  written = calls.written;
}

-- two idle stretches on end are one
pub idle_on : {a b c : Medium} → Elapses a b → IsIdle a b → Elapses b c → IsIdle b c → IsIdle a c
idle_on {a} {b} {c} time first later next = record {
  image = next.image ∙ first.image;
  quiet = next.quiet;
  during = λ x past. ⊎_elim (first.during x) (λ new. subst (λ image. IsSettledAt image x) first.image
      (next.during x new)) (cases_on time later x past);
  written = next.written ∙ first.written;
}
