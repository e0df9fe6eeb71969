-- What looks leave of a disk.
use Rattle.std.proofs.Common.{◌≡◌, ℕ, Bool, true, false, refl, sym, ◌∙◌, ap, ◌⊎◌, subst, inl, inr, ⊎_elim, true≢false}
use Rattle.std.specs.Prelude.{Result, Ok, Err, IfOk, OnErr, OnOk, is_err}
use Rattle.disk_model.specs.Image.{Image}
use Rattle.disk_model.specs.Case.{IsSettledAt}
use Rattle.disk_model.specs.Laws.{cases_on, elapses_none, elapses_on, idle_none, idle_on}
use Rattle.disk_model.specs.Medium.{EachCase, Elapses, IsIdle, IsLawful, Medium, Quiet, WritesNothing}

-- looks that all succeeded
pub record IsSeen (old new : Medium) : Type 0 where
  pub image : new.image ≡ old.image
  pub idle : Quiet old → IsIdle old new
  pub written : new.written ≡ old.written
  pub passes : new.faults ≡ old.faults
  pub time : Elapses old new

pub none_seen : {told : Bool} {m : Medium} → IsLawful told m → IsSeen m m
none_seen law = record {
  image = refl;
  idle = λ quiet. idle_none law quiet;
  written = refl;
  passes = refl;
  time = elapses_none law;
}

pub seen_on : {a b c : Medium} → IsSeen a b → IsSeen b c → IsSeen a c
seen_on first next = record {
  image = next.image ∙ first.image;
  idle = λ quiet. let was = first.idle quiet in idle_on first.time was next.time (next.idle was.quiet);
  written = next.written ∙ first.written;
  passes = next.passes ∙ first.passes;
  time = elapses_on first.time next.time;
}

-- after a sync that succeeded: a crash leaves what reads give, or what one before the sync might have left
pub seen_behind : {old mid new : Medium} → Elapses old mid → WritesNothing old mid → Quiet mid → Elapses mid new
    → (Quiet mid → IsIdle mid new) → EachCase (λ c. old.now c ⊎ IsSettledAt old.image c) old new
seen_behind time nothing quiet later idle c s = ⊎_elim
    (λ first. ⊎_elim (λ was. inl was) (λ now. inr (subst (λ (i : Image). IsSettledAt i c) nothing.image (quiet c now)))
    (nothing.during c first))
    (λ at. inr (subst (λ (i : Image). IsSettledAt i c) nothing.image ((idle quiet).during c at)))
    (cases_on time later c s)

-- ---- a result that was tested

pub on_err : {T E P : Type 0} → (r : Result T E) → is_err r ≡ true → OnErr r P → P
on_err (Ok x) is p = absurd (true≢false (sym is))
on_err (Err e) is p = p

pub on_ok : {T E P : Type 0} → (r : Result T E) → is_err r ≡ false → OnOk r P → P
on_ok (Ok x) is p = p
on_ok (Err e) is p = absurd (true≢false is)

pub each_on_image : {T E X : Type 0} (of : Image → X) (part : T → X) (old mid : Image) (r : Result T E) → mid ≡ old
    → IfOk r (λ t. part t ≡ of mid) → IfOk r (λ t. part t ≡ of old)
each_on_image of part old mid (Ok t) same is = is ∙ ap of same
each_on_image of part old mid (Err e) same is = tt

pub passes_on : {T E : Type 0} (r : Result T E) (a b c : ℕ) → b ≡ a → OnOk r (c ≡ b) → OnOk r (c ≡ a)
passes_on (Ok t) a b c first is = is ∙ first
passes_on (Err e) a b c first is = tt
