-- A call of a deployment touches files of its application alone, and one that is answered from memory touches none.
use Rattle.std.proofs.Common.{◌≡◌, ℕ, ◌<◌, ◌≤◌, List, Bool, IsTrue, refl, sym, subst, inl, inr, arith}
use Rattle.disk_model.specs.Case.{Case, IsSettledAt}
use Rattle.disk_model.specs.Frame.{IsSettledOn, Spares}
use Rattle.disk_model.specs.Image.{Image}
use Rattle.disk_model.specs.Medium.{EachCase, IsIdle, IsLawful, Medium, Quiet}
use Rattle.guarded_cell.specs.Register.{IsAlone}
use Rattle.deploy.specs.Clauses.{IsBesideNext, IsNoRootSlot, Leaves}
use Rattle.deploy.specs.Remaining.{IsBesideCommit}
use Rattle.deploy_laws.specs.Apps.{App, app_at, nothing, says_at}
use Rattle.deploy_laws.specs.Laws.{UntouchedAppLaw}
use Rattle.deploy_laws.specs.Places.{IsBeside, IsFileOf, IsNoFileOf, IsOutsideBank, root_place}
use Rattle.deploy_laws.specs.Stands.{StandsThroughout}
use Rattle.run_model.specs.Turns.{bytes_now}
use Rattle.run_model.specs.WriteLaws.{unchanged}
use Rattle.run_model.specs.Writes.{NeedsNothing}
use Rattle.per_runtime.specs.storages.Answers.{CallsTo}

-- ---- files

pub no_root : (app f : ℕ) → app < 8 → IsNoFileOf app f → IsNoRootSlot app f
no_root app f small (inl lt) copy parity ltc ltp e = absurd (omega (arith, small, lt, ltc, ltp, e))
no_root app f small (inr le) copy parity ltc ltp e = absurd (omega (arith, small, le, ltc, ltp, e))

outside_bank : (app bank f : ℕ) → bank ≤ 1 → IsNoFileOf app f → IsOutsideBank app bank f
outside_bank app bank f leb (inl lt) = inl (omega (arith, lt))
outside_bank app bank f leb (inr le) = inr (omega (arith, le, leb))

pub beside_next : (app bank f : ℕ) → app < 8 → bank ≤ 1 → IsNoFileOf app f → IsBesideNext app bank f
beside_next app bank f small leb is = (no_root app f small is, outside_bank app bank f leb is)

pub beside_commit : (app bank built count f : ℕ) → app < 8 → bank ≤ 1 → count ≤ 16 → IsNoFileOf app f
    → IsBesideCommit app bank built count f
beside_commit app bank built count f small leb few (inl lt) = (no_root app f small (inl lt), inl (omega (arith, lt)))
beside_commit app bank built count f small leb few (inr le) =
    (no_root app f small (inr le), inr (omega (arith, le, leb, few)))

pub beside : (app bank number f : ℕ) → bank ≤ 1 → number ≤ 16 → IsNoFileOf app f → IsBeside app bank number f
beside app bank number f leb ltn (inl lt) = inl (omega (arith, lt))
beside app bank number f leb ltn (inr le) = inr (omega (arith, le, leb, ltn))

-- ---- the opening of a root

-- one that needed nothing
pub nothing_written : (old new : Medium) (app : ℕ)
    → ((generation : ℕ) (text : List ℕ) → IsAlone old.image (root_place app) generation text
    → (new.image ≡ old.image) × (new.written ≡ old.written))
    → (says_at old.image app ≡ nothing → (new.image ≡ old.image) × (new.written ≡ old.written))
    → NeedsNothing old.image app → bytes_now new ≡ bytes_now old
nothing_written old new app alone bad (inl root) =
    let same = alone root.generation root.text root.alone in
    unchanged (bytes_now old) (bytes_now new) same.0 same.1
nothing_written old new app alone bad (inr says) =
    let same = bad says in
    unchanged (bytes_now old) (bytes_now new) same.0 same.1

-- ---- cases

settled_less : (P Q : ℕ → Type 0) → ((f : ℕ) → Q f → P f) → (image : Image) (c : Case) → IsSettledOn P image c
    → IsSettledOn Q image c
settled_less P Q into image c s = record {
  base = λ f q. s.base f (into f q);
  full = λ f q. s.full f (into f q);
  left =
      λ f q. s.left f (into f q);
}

pub settled_on : (Q : ℕ → Type 0) (image : Image) (c : Case) → IsSettledAt image c → IsSettledOn Q image c
settled_on Q image c s = record {
  base = λ f q. subst (λ (i : Image). i f ≡ image f) (sym s.base) refl;
  full = λ f q. subst (λ (i : Image). i f ≡ image f) (sym s.full) refl;
  left = λ f q. subst (λ (i : Image). i f ≡ image f) (sym s.left) refl;
}

-- ---- calls

-- one that leaves all files but some of the application's leaves those of others, at any moment and at the end
pub aside_throughout : (told : Bool) (app : ℕ) (Files : ℕ → Type 0) (old new : Medium) → IsTrue told
    → ((f : ℕ) → IsNoFileOf app f → Files f) → Leaves told Files old new
    → Quiet old → EachCase (IsSettledOn (IsNoFileOf app) old.image) old new
aside_throughout told app Files old new tells into leaves quiet c s =
    settled_less Files (IsNoFileOf app) into old.image c (leaves.throughout tells quiet c s)

pub aside_at_the_end : (told : Bool) (app : ℕ) (Files : ℕ → Type 0) (old new : Medium) → IsTrue told
    → ((f : ℕ) → IsNoFileOf app f → Files f) → Leaves told Files old new
    → Spares (IsNoFileOf app) old.image new.image
aside_at_the_end told app Files old new tells into leaves f is = leaves.at_the_end tells f (into f is)

pub calls_to : (told : Bool) (app : ℕ) (next : App) (Files : ℕ → Type 0) (old new : Medium) → IsTrue told
    → ((f : ℕ) → IsNoFileOf app f → Files f)
    → Leaves told Files old new → StandsThroughout app next old new → CallsTo app next old new
calls_to told app next Files old new tells into leaves stands = record {
  any_moment = stands;
  outside = aside_throughout told app Files old new tells into leaves;
  elsewhere = aside_at_the_end told app Files old new tells into leaves;
}

-- one that only reads
pub calls_reading : (app : ℕ) (next : App) (old new : Medium) → new.image ≡ old.image → (Quiet old → IsIdle old new)
    → StandsThroughout app next old new → CallsTo app next old new
calls_reading app next old new same idle stands = record {
  any_moment = stands;
  outside = λ quiet c s. settled_on (IsNoFileOf app) old.image c ((idle quiet).during c s);
  elsewhere = λ f is. subst (λ (i : Image). i f ≡ old.image f) (sym same) refl;
}

-- one that is answered from memory
pub calls_none : (told : Bool) (app : ℕ) (m : Medium) → IsLawful told m → UntouchedAppLaw → app < 8
    → CallsTo app (app_at m.image app) m m
calls_none told app m lawful untouched lt = record {
  any_moment = λ quiet clean c s. untouched app m.image c lt clean
      (settled_on (IsFileOf app) m.image c (quiet c (lawful.only_now c s)));
  outside = λ quiet c s. settled_on (IsNoFileOf app) m.image c (quiet c (lawful.only_now c s));
  elsewhere = λ f is. refl;
}
