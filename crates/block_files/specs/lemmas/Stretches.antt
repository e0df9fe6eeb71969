-- Stretches of writes: none, one after another, a failure after some, and less said of them.
use Rattle.std.proofs.Common.{◌≡◌, ◌≢◌, ◌⊎◌, ℕ, ◌+◌, ◌*◌, ◌<◌, ◌≤◌, List, length, Bool, IsTrue, refl, sym, ◌∙◌}
use Rattle.std.proofs.Common.{subst, arith, ⊎_elim, inl, inr}
use Rattle.per_base.specs.Causes.{Rose}
use Rattle.disk_model.specs.Image.{put_image, TornImage}
use Rattle.disk_model.specs.Case.{WriteCase, WriteOrNot, Follows}
use Rattle.disk_model.specs.Medium.{Medium, IsLawful, Elapses}
use Rattle.disk_model.specs.Frame.{Keeps, KeepsCase}
use Rattle.disk_model.specs.Laws.{rose_before, elapses_none, elapses_on, cases_on, follows_less, follows_on}
use Rattle.disk_model.specs.lemmas.Frames.{IsWriteApart, keeps_none, keeps_on, keeps_less, keeps_tears, tears_on}
use Rattle.disk_model.specs.lemmas.Frames.{tears_less, case_none, case_on, case_less, keeps_put, tears_torn, case_write}
use Rattle.disk_model.specs.lemmas.Frames.{case_or_not}
use Rattle.block_files.specs.Writes.{Wrote, Tore}

-- ---- none, and one after another

module _ (told : Bool) (spared apart : ℕ → Type 0) where
  pub wrote_none : (m : Medium) → IsLawful told m → Wrote told spared apart 0 m m
  wrote_none m law = record {
    keeps = λ tells. keeps_none m.image;
    now = λ c now. (c, now, case_none c);
    during = λ c past. (c, law.only_now c past, case_none c);
    written = omega arith;
    time = elapses_none law;
    passes = refl;
  }

  -- each case since the start of two stretches
  during_on : (a b c : Medium) → Elapses a b → Elapses b c → Follows (KeepsCase spared apart) a.now b.now
      → Follows (KeepsCase spared apart) a.now (b.since a.moment)
      → Follows (KeepsCase spared apart) b.now (c.since b.moment)
      → Follows (KeepsCase spared apart) a.now (c.since a.moment)
  during_on a b c first next now was new x past = ⊎_elim
      (λ before. was x before)
      (λ after. follows_on (KeepsCase spared apart) (KeepsCase spared apart) (KeepsCase spared apart) a.now b.now
      (c.since b.moment) (λ x y z first next. case_on first next) now new x after)
      (cases_on first next x past)

  pub wrote_on : (n more : ℕ) (a b c : Medium) → Wrote told spared apart n a b → Wrote told spared apart more b c
      → Wrote told spared apart (n + more) a c
  wrote_on n more a b c first next = record {
    keeps = λ tells. keeps_on (first.keeps tells) (next.keeps tells);
    now = follows_on (KeepsCase spared apart) (KeepsCase spared apart) (KeepsCase spared apart) a.now b.now c.now
        (λ x y z first next. case_on first next) first.now next.now;
    during = during_on a b c first.time next.time first.now first.during next.during;
    written = omega (arith, first.written, next.written);
    time = elapses_on first.time next.time;
    passes = next.passes ∙ first.passes;
  }

  pub wrote_tore : (n more : ℕ) (a b c : Medium) → Wrote told spared apart n a b → Tore told spared apart more b c
      → Tore told spared apart (n + more) a c
  wrote_tore n more a b c first next = record {
    tears = λ tells. tears_on (keeps_tears (first.keeps tells)) (next.tears tells);
    during = during_on a b c first.time next.time first.now first.during next.during;
    written = omega (arith, first.written, next.written);
    time = elapses_on first.time next.time;
    cause = rose_before a.faults b.faults c.faults first.time.faults next.cause;
  }

-- ---- less said

module _ (told : Bool) (spared apart fewer closer : ℕ → Type 0) (files : (f : ℕ) → fewer f → spared f)
    (blocks : (k : ℕ) → closer k → apart k) (n more : ℕ) (le : n ≤ more) (old new : Medium) where
  pub wrote_less : Wrote told spared apart n old new → Wrote told fewer closer more old new
  wrote_less wrote = record {
    keeps = λ tells. keeps_less files blocks (wrote.keeps tells);
    now = follows_less (KeepsCase spared apart) (KeepsCase fewer closer) old.now new.now
        (λ x y step. case_less files blocks step) wrote.now;
    during = follows_less (KeepsCase spared apart) (KeepsCase fewer closer) old.now (new.since old.moment)
        (λ x y step. case_less files blocks step) wrote.during;
    written = omega (arith, wrote.written);
    time = wrote.time;
    passes = wrote.passes;
  }

  pub tore_less : Tore told spared apart n old new → Tore told fewer closer more old new
  tore_less tore = record {
    tears = λ tells. tears_less files blocks (tore.tears tells);
    during = follows_less (KeepsCase spared apart) (KeepsCase fewer closer) old.now (new.since old.moment)
        (λ x y step. case_less files blocks step) tore.during;
    written = omega (arith, tore.written);
    time = tore.time;
    cause = tore.cause;
  }

-- ---- one write, inside blocks that follow one another

module _ (told : Bool) (file b n : ℕ) (bytes : List ℕ) (fits : length bytes ≤ 256 * n) (old new : Medium) where
  abbrev others : ℕ → Type 0
  others f = f ≢ file

  abbrev apart : ℕ → Type 0
  apart k = (k < b) ⊎ (b + n ≤ k)

  one_run : IsWriteApart others apart file (256 * b) (length bytes)
  one_run = record {
    files = λ f ne. ne;
    bytes = λ k j inside is. ⊎_elim (λ below. inl (omega arith)) (λ above. inr (omega arith)) is;
  }

  pub wrote_one : (IsTrue told → new.image ≡ put_image old.image file (256 * b) bytes)
      → Follows (WriteCase file (256 * b) bytes) old.now new.now
      → Follows (WriteOrNot file (256 * b) bytes) old.now (new.since old.moment)
      → new.written ≤ old.written + length bytes → Elapses old new → new.faults ≡ old.faults
      → Wrote told (λ f. f ≢ file) (λ k. (k < b) ⊎ (b + n ≤ k)) (256 * n) old new
  wrote_one image now during written time passes = record {
    keeps = λ tells. subst (Keeps others apart old.image) (sym (image tells))
        (keeps_put old.image file (256 * b) bytes one_run);
    now = follows_less (WriteCase file (256 * b) bytes) (KeepsCase others apart) old.now new.now
        (λ x y step. case_write file (256 * b) bytes one_run step) now;
    during = follows_less (WriteOrNot file (256 * b) bytes) (KeepsCase others apart) old.now (new.since old.moment)
        (λ x y step. case_or_not x y file (256 * b) bytes one_run step) during;
    written = omega arith;
    time = time;
    passes = passes;
  }

  pub tore_one : (IsTrue told → TornImage file (256 * b) (length bytes) old.image new.image)
      → Follows (WriteOrNot file (256 * b) bytes) old.now (new.since old.moment)
      → new.written ≤ old.written + length bytes → Elapses old new → Rose old.faults new.faults
      → Tore told (λ f. f ≢ file) (λ k. (k < b) ⊎ (b + n ≤ k)) (256 * n) old new
  tore_one torn during written time cause = record {
    tears = λ tells. tears_torn old.image new.image file (256 * b) (length bytes) one_run (torn tells);
    during = follows_less (WriteOrNot file (256 * b) bytes) (KeepsCase others apart) old.now (new.since old.moment)
        (λ x y step. case_or_not x y file (256 * b) bytes one_run step) during;
    written = omega arith;
    time = time;
    cause = cause;
  }
