-- Calls that look at a disk, one after another.
use Rattle.std.proofs.Common.{◌≡◌, ℕ, Bool, true, false, List, Result, Ok, Err, refl, ap, ◌∙◌, inl, inr}
use Rattle.std.proofs.Common.{true≢false, sym, subst}
use Rattle.std.specs.Prelude.{IsErrAnd, IsErrOf, OnErr, OnOk, is_err}
use Rattle.per_base.specs.Causes.{Rose}
use Rattle.disk_model.specs.Laws.{elapses_none, elapses_on, reads_none, rose_before}
use Rattle.disk_model.specs.Image.{Image}
use Rattle.disk_model.specs.Medium.{Elapses, IsIdle, IsLawful, Medium, Quiet}
use Rattle.run_model.specs.Lives.{LooksOnly, looks_none, looks_on, looks_unsynced}
use Rattle.per_backup.specs.Restores.{RestoreKeeps}

-- ---- a result that was tested

pub on_err : {T E P : Type 0} → (r : Result T E) → is_err r ≡ true → OnErr r P → P
on_err (Ok x) is p = absurd (true≢false (sym is))
on_err (Err e) is p = p

pub on_ok : {T E P : Type 0} → (r : Result T E) → is_err r ≡ false → OnOk r P → P
on_ok (Ok x) is p = p
on_ok (Err e) is p = absurd (true≢false is)

pub passes_on : {T E : Type 0} (r : Result T E) (a b c : ℕ) → b ≡ a → OnOk r (c ≡ b) → OnOk r (c ≡ a)
passes_on (Ok t) a b c first is = is ∙ first
passes_on (Err e) a b c first is = tt

-- ---- a disk that is looked at

-- before anything was called a restore keeps what it keeps
pub restore_keeps : (told : Bool) (app : ℕ) (manifest : List ℕ) (texts : List (List ℕ)) (m : Medium) → IsLawful told m
    → RestoreKeeps app manifest texts m m
restore_keeps told app manifest texts m law =
    let reads = reads_none law in
    record {
      stands = λ clean c s. inl (reads.during c s);
      elsewhere = λ file out. ap (λ (im : Image). im file) reads.image;
      outside = λ c s. inl (reads.during c s);
      refused = λ err. looks_unsynced m m reads;
    }

-- a call that is idle where nothing is pending
pub looks_still : (old new : Medium) → Quiet old → new.image ≡ old.image → new.written ≡ old.written
    → (Quiet old → IsIdle old new) → LooksOnly old new
looks_still old new quiet image written idle = record {
  image = image;
  written = written;
  during = λ c s. inr ((idle quiet).during c s);
}

-- the storages before one were looked at
pub record IsDumping (old new : Medium) : Type 0 where
  pub looks : LooksOnly old new
  pub quiet : Quiet new
  pub passes : new.faults ≡ old.faults
  pub time : Elapses old new

pub dumping_none : (told : Bool) (m : Medium) → IsLawful told m → Quiet m → IsDumping m m
dumping_none told m law quiet = record {
  looks = looks_none law;
  quiet = quiet;
  passes = refl;
  time = elapses_none law;
}

pub dumping_more : (told : Bool) (old mid new : Medium) → IsLawful told mid → IsDumping old mid → LooksOnly mid new
    → Quiet new → new.faults ≡ mid.faults → Elapses mid new → IsDumping old new
dumping_more told old mid new law so looks quiet passes time = record {
  looks = looks_on told old mid new law so.time time so.looks looks;
  quiet = quiet;
  passes = passes ∙ so.passes;
  time = elapses_on so.time time;
}

module _ (told : Bool) (old mid new : Medium) (law : IsLawful told mid) (so : IsDumping old mid) where
  pub looked_on : LooksOnly mid new → Elapses mid new → LooksOnly old new
  looked_on looks time = looks_on told old mid new law so.time time so.looks looks

  pub rose_on : Rose mid.faults new.faults → Rose old.faults new.faults
  rose_on rose = rose_before _ _ _ so.time.faults rose

-- an error that is handed on is the same
pub same_error : {T U E : Type 0} (result : Result T E) (e : E) → IsErrAnd result (λ x. x ≡ e) → (d : E)
    → result ≡ Err d → IsErrOf {T = U} (Err e) d
same_error (Ok t) e passed d is = absurd passed
same_error (Err x) e passed d is =
    let same : x ≡ d = cc in
    ap (λ y. Err y) (sym passed ∙ same)

-- what holds of a call holds of one with the same arguments
pub same_call : (P : ℕ → List ℕ → List (List ℕ) → Type 0) (a b : ℕ) (m n : List ℕ) (t u : List (List ℕ)) → a ≡ b
    → m ≡ n → t ≡ u → P a m t → P b n u
same_call P a b m n t u number manifest texts given = subst (λ (x : List (List ℕ)). P b n x) texts
    (subst (λ (x : List ℕ). P b x t) manifest (subst (λ (x : ℕ). P x m t) number given))
